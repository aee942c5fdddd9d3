-- What the contracts of this crate mean.
pub mod Numbers
pub mod Program

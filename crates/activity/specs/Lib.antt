-- What the contracts of this crate mean. Read `Window` first.
pub mod Checks
pub mod Lent
pub mod Window
pub mod Workers

-- What the contracts of this crate mean. Read `Flags` first: the other files build on it.
pub mod Changes
pub mod Columns
pub mod Counts
pub mod Ends
pub mod Flags
pub mod Kernels
pub mod Loops
pub mod Merge
pub mod Nth
pub mod Ops
pub mod Place
pub mod Planes
pub mod Short
pub mod Transpose
pub mod Uniform

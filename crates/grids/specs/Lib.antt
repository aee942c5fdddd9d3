-- What the contracts of this crate mean. Read `Grid` first.
pub mod Columns
pub mod Grid
pub mod Rows
pub mod Transpose
pub mod Workers
pub mod equations

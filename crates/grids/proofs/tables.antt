-- Tables of inputs with their answers, and of wrong answers: they pin the definitions, and no contract cites them.
pub mod EdgeRows
pub mod LargeRows
pub mod OrderRows
pub mod Witnesses
pub mod WrongGrids

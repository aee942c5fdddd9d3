-- Tables of inputs with their answers, and of wrong answers: they pin the definitions, and no contract cites them.
pub mod FullRows
pub mod Witnesses
pub mod WrongAnswers

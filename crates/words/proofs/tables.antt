-- Tables of inputs with their answers, and of wrong answers: they pin the definitions, and no contract cites them.
pub mod HighRows
pub mod WordRows
pub mod WrongAnswers

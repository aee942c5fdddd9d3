-- Tables of inputs with their answers, and of wrong answers: they pin the definitions, and no contract cites them.
pub mod FaultRows
pub mod LargeRows
pub mod Witnesses
pub mod WrongAnswers
pub mod WrongOffers

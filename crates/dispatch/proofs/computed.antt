-- The rows of `tables/`, by computation.
pub mod FaultRows
pub mod LargeRows
pub mod Witnesses
pub mod WrongAnswers
pub mod WrongOffers

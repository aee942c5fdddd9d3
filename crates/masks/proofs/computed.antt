-- The rows of `tables/`, by computation.
pub mod EdgeRows
pub mod Examples
pub mod FarRows
pub mod FaultRows
pub mod LargeRows
pub mod OrderRows
pub mod PastRows
pub mod RuleRows
pub mod StartRows
pub mod Texts
pub mod Witnesses
pub mod WrongAnswers
pub mod WrongNext

-- Tables of inputs with their answers, and of wrong answers: they pin the definitions, and no contract cites them.
pub mod EdgeRows
pub mod Examples
pub mod FarRows
pub mod FaultRows
pub mod LargeRows
pub mod OrderRows
pub mod PastRows
pub mod RuleRows
pub mod StartRows
pub mod Texts
pub mod Witnesses
pub mod WrongBuilders
pub mod WrongCursors
pub mod WrongMasks
pub mod WrongNext
pub mod WrongSerials
pub mod WrongSpans

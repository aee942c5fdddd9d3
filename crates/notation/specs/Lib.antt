-- What the contracts of this crate mean, from docs/REQUESTS.md. Read `Answer` first.
pub mod Answer
pub mod Arguments
pub mod Fault
pub mod Items
pub mod Last
pub mod Lent
pub mod Line
pub mod Lines
pub mod List
pub mod Outcome
pub mod Sums
pub mod Tally

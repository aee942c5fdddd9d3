-- The theorems, which no function needs.
pub mod Combinations
pub mod GridsAlike
pub mod Histories
pub mod HistoryTheorem
pub mod RunEndsAlike
pub mod RunLists
pub mod Serials

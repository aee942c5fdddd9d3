-- The theorems, which no function needs.
pub mod ReportPlain

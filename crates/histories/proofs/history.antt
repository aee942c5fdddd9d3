-- What the theorems on histories use.
pub mod AgreementLaws
pub mod HistoryLaws
pub mod ReferenceLaws
pub mod TruthfulLaws

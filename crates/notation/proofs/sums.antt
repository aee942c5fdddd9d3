-- What the proof of `Checksum::bytes` uses.
pub mod SumLaws

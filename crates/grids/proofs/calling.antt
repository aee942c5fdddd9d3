-- For callers in other crates: what the clauses of a call do not say by themselves. CALLING.md lists these laws.
pub mod Flags

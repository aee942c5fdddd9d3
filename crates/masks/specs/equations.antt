-- The calls as one equation each, with the checks, the state that a refusal returns and the value in one answer: cited by the exports, the
-- steps of histories and the tables. The contracts of the calls say the same in clauses (`proofs/refusal/ClauseLaws.antt`).
pub mod Aligned
pub mod Answer
pub mod Appends
pub mod AtIndex
pub mod Bitmask
pub mod Chunks
pub mod Combine
pub mod Compare
pub mod Cursor
pub mod Freeze
pub mod Iterator
pub mod Mask
pub mod NextAndNot
pub mod Positions
pub mod Search
pub mod SliceIterator
pub mod Superseding
pub mod TrueIdx
pub mod Utils

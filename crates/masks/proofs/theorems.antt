-- The theorems, and `CountsUnseenLaws`, which `CountsUnseen` uses. Proofs of functions use some laws of `Accepted`, `NextPlain`,
-- `PairPlain`, `RunsPlain` and `TrueIdxPlain`.
pub mod Accepted
pub mod AndNotFlag
pub mod AnswerPlain
pub mod AppendPlain
pub mod CountPlain
pub mod CountsUnseen
pub mod CountsUnseenLaws
pub mod CursorPlain
pub mod FrozenPlain
pub mod NextPlain
pub mod PairPlain
pub mod PositionsPlain
pub mod Refusals
pub mod RunsPlain
pub mod RunsWhole
pub mod SearchCursor
pub mod SearchPlain
pub mod SerialPlain
pub mod ShortcutsUnseen
pub mod SliceTruth
pub mod SupersedingPlain
pub mod TrueIdxPlain
pub mod WindowPlain
pub mod WrittenLaws

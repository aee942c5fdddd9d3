-- Eight bytes moved down by at most 32 flags keep 32 (`load-mid`, `moved-flags`), and the low ones are the window (`near-value`).
use native.Mathlib.Omega.{arith}
use Rattle.words.proofs.word.Loads.{load-mid}
use Rattle.masks.proofs.bitmask.BitmaskLaws.{narrow}
use Rattle.masks.proofs.utils.PartLaws.{moved-flags}
use Rattle.masks.proofs.span.SpanLaws.{near-value}
use borrow.Author.Rules.{rules}
use Rattle.masks.proofs.span.search.word_window.Goals as goal

pub overflow_cast-result : goal.overflow_cast-result
overflow_cast-result c =
    let a = c.args in
    let low = moved-flags _ _ _ 32 _ _ (omega arith) (load-mid a.bytes.now a.at _ c.load_padded_le_u64.ensures) c.shr_or_zero.ensures in
    record { fits = narrow _ _ 32 32 _ (near-value _ _ 32 _ _ (search rules) (omega arith) low c.low_flags.ensures) (omega arith) }

pub returns : goal.returns
returns c =
    near-value _ _ 32 _ _ (search rules) (omega arith)
    (moved-flags _ _ _ 32 _ _ (omega arith) (load-mid _ _ _ c.load_padded_le_u64.ensures) c.shr_or_zero.ensures) c.low_flags.ensures

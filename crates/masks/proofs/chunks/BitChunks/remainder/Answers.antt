-- The rest begins `length % 64` flags before the span's end (`remainder-value`).
use mathlib.Core.Path.{sym, ◌∙◌}
use native.Mathlib.Omega.{arith}
use Rattle.masks.proofs.chunks.ChunkLaws.{remainder-value}
use Rattle.masks.proofs.cursor.CursorLaws.{cursor-allowed}
use Rattle.masks.proofs.refusal.RefusalLaws.{passed-back}
use Rattle.masks.proofs.chunks.BitChunks.remainder.Goals as goal

pub overflow_add-first : goal.overflow_add-first
overflow_add-first c =
    let span = cursor-allowed _ _ _ _ (sym c.check_cursor.ensures ∙ (passed-back _ _ _ c.map_err.ensures.variant c.in_ok-map_err.was)) in
    omega (arith, span.starts, span.short)

pub returns-clause-word : goal.returns-clause-word
returns-clause-word c = remainder-value _ _ _ _ c.flags_word.ensures

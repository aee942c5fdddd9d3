-- By cases on the place and the number of words: `no_word` or `a_word`.
use mathlib.Core.Path.{sym, ◌∙◌}
use Rattle.std.proofs.Common.{arith}
use Rattle.masks.proofs.chunks.ChunkLaws.{a_word, no_word}
use Rattle.masks.proofs.cursor.CursorLaws.{cursor-allowed}
use borrow.Author.Rules.{rules}
use Rattle.masks.proofs.refusal.RefusalLaws.{passed-back}
use Rattle.masks.proofs.chunks.BitChunks.next.Goals as goal

pub returns-then-self-clause-step : goal.returns-then-self-clause-step
returns-then-self-clause-step c = no_word _ _ c.if-self.true

pub invariant_of-span : goal.invariant_of-span
invariant_of-span c =
    let a = cursor-allowed _ _ _ _ (sym c.check_cursor.ensures ∙ (passed-back _ _ _ c.map_err.ensures.variant c.in_ok-map_err.was)) in
    record { ends = omega (arith, a.starts, a.short); short = a.short; inside = a.inside }

pub returns-clause-step : goal.returns-clause-step
returns-clause-step c = a_word _ _ _ (search rules) c.if-self.false c.word-word.ensures

-- Computed (`alternating-one`, `alternating-zero`).
use Rattle.words.proofs.changes.ChangeLaws.{alternating-one, alternating-zero}
use Rattle.words.proofs.changes.alternating_word.Goals as goal

pub returns-then-first : goal.returns-then-first
returns-then-first c = alternating-one _ c.if-first.true

pub returns-else-first : goal.returns-else-first
returns-else-first c = alternating-zero _ c.if-first.false

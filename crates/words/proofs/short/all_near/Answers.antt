-- The flags of the one word that is loaded (`near-are`).
use Rattle.std.proofs.Common.{sym, ◌∙◌}
use Rattle.words.proofs.short.ShortLaws.{near}
use Rattle.words.proofs.uniform.UniformLaws.{near-are}
use Rattle.words.proofs.short.all_near.Goals as goal

pub near_load-requires : goal.near_load-requires
near_load-requires c = (near _ _ _ (sym c.lies_near.ensures ∙ c.if-lies_near.true)).lent

pub returns-then-lies_near : goal.returns-then-lies_near
returns-then-lies_near c =
    near-are _ _ _ _ _ _ (near _ _ _ (sym c.lies_near.ensures ∙ c.if-lies_near.true)).inside c.near_load.ensures c.low_all_equal.ensures

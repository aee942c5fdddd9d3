-- The clauses of `superseding_part` make its answer (`answered`); a part's bytes are those of the answer that the record holds.
use Rattle.std.specs.Prelude.{cond}
use mathlib.Core.Path.{◌≡◌, ap, ◌∙◌}
use mathlib.Core.List.{List}
use Prim.Native.Nat.{ℕ}
use Rattle.masks.specs.equations.Answer.{Answer, given, refused}
use Rattle.masks.specs.Superseding.{within}
use Rattle.masks.specs.equations.Superseding.{bytes_of, superseding_of}
use Rattle.masks.specs.declared.superseding.Winner.{Winner}
use Rattle.masks.proofs.refusal.ClauseLaws.{answered}
use Rattle.capi.specs.Answers.{as_part}
use Rattle.capi.specs.declared.answers.PartAnswer.{PartAnswer}
use Rattle.capi.proofs.superseding.pw_superseding.Goals as goal

part-held : (x : Answer (Unit {0}) Winner) (r : PartAnswer) (a b : List ℕ) → r ≡ as_part x
    → within r.from r.to (cond r.second b a) ≡ bytes_of x a b
unfolding as_part
part-held (given p) r a b e = ap (λ (y : PartAnswer). within y.from y.to (cond y.second b a)) e
part-held (refused k s) r a b e = ap (λ (y : PartAnswer). within y.from y.to (cond y.second b a)) e

pub returns-clause-part : goal.returns-clause-part
unfolding superseding_of
returns-clause-part c =
    let e = c.superseding_part.ensures in
    part-held _ _ _ _ (c.into-3.ensures ∙ ap as_part (rw (c.into.ensures, c.into-2.ensures) at (answered _ _ _ e.refused e.part)))

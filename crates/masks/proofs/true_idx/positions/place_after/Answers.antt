-- One law for each of the three answers: fewer positions than places, no place, or a last position written.
use mathlib.Core.Path.{refl}
use Rattle.masks.proofs.true_idx.PositionLaws.{place-few, place_none, place-last}
use Rattle.masks.proofs.true_idx.positions.place_after.Goals as goal

pub returns-then-count-out : goal.returns-then-count-out
returns-then-count-out c = λ old left p q. place-few _ _ _ old left p q c.if-count-out.true

pub returns-then-count-eq0 : goal.returns-then-count-eq0
returns-then-count-eq0 c = λ old left p q. place_none _ _ _ old left p q c.if-count-out.false c.if-count-eq0.true

pub returns : goal.returns
returns c = λ old left p q. place-last _ _ _ old left p q _ c.if-count-out.false c.if-count-eq0.false refl

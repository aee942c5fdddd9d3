-- One law for each arm: a possible count, more zeros left than the piece has flags, or fewer zeros than were cut off.
use Rattle.std.proofs.Common.{Ok, Some, ℕ, arith, ap, ◌∙◌}
use Rattle.masks.proofs.bitmap.MaskLaws.{below-cut, above-length, within_both}
use Rattle.masks.proofs.bitmap.recount.Goals as goal

pub returns-in-Some : goal.returns-in-Some
returns-in-Some c =
    let told = c.in-Some.ensures in
    ap (λ (x : ℕ). Ok (Some x)) told.1 ∙ within_both _ _ _ told.0 (omega (arith, told.1, c.if-rest-length.true))

pub returns-in_default : goal.returns-in_default
returns-in_default c =
    let told = c.in-Some.ensures in
    above-length _ _ _ told.0 (omega (arith, told.1, c.if-rest-length.false))

pub returns-in_default-2 : goal.returns-in_default-2
returns-in_default-2 c = below-cut _ _ _ (omega (arith, c.in_default.ensures))

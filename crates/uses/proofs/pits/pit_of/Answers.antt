-- The flags that `and_not` wrote (`at_and_not`), cut by the slice (`at_slice`), which lies inside (`slice_accepted`).
use Rattle.std.proofs.Common.{◌∙◌, ◌+◌, arith}
use Rattle.masks.proofs.calling.Accepted.{slice_accepted}
use Rattle.masks.proofs.calling.Flags.{at_and_not, at_slice, pair_length}
use Rattle.uses.proofs.pits.pit_of.Goals as goal

pub returns-clause-inside : goal.returns-clause-inside
returns-clause-inside c =
    let piece = slice_accepted _ _ _ _ c.in_ok-pit.ensures.refused in
    omega (arith, piece.inside, pair_length _ _ _ _ _ _ c.in_ok-allowed.ensures.mask)

pub returns-clause-each : goal.returns-clause-each
returns-clause-each c j h =
    let made = c.in_ok-allowed.ensures in
    let cut = c.in_ok-pit.ensures in
    let inside = (slice_accepted _ _ _ _ cut.refused).inside in
    let long = pair_length _ _ _ _ _ _ made.mask in
    at_slice _ _ _ _ _ j cut.refused cut.mask h
    ∙ at_and_not _ _ _ _ _ _ _ (c.args.first + j) made.refused made.mask made.bytes (omega (arith, inside, long, h))

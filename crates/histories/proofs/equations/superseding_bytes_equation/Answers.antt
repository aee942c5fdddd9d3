-- The two cases of each clause of `superseding_bytes` make its equation (`part_given`, `place_given`).
use Rattle.masks.specs.equations.Superseding.{superseding_of}
use Rattle.masks.proofs.refusal.ClauseLaws.{part_given, place_given}
use Rattle.histories.proofs.equations.superseding_bytes_equation.Goals as goal

pub returns-clause-bytes : goal.returns-clause-bytes
unfolding superseding_of
returns-clause-bytes c = let e = c.superseding_bytes.ensures in part_given _ _ _ _ _ e.part e.refused_part

pub returns-clause-place : goal.returns-clause-place
unfolding superseding_of
returns-clause-place c = let e = c.superseding_bytes.ensures in place_given _ _ _ _ _ e.place e.refused_place

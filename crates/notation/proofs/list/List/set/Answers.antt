-- Setting an element of the memory below the length sets that of the list.
use Rattle.std.proofs.Common.{arith, slice_set, ◌∙◌, ap}
use Rattle.std.proofs.Math.Seq.{take-set-lt}
use Rattle.notation.proofs.list.List.set.Goals as goal

pub returns-then-i-self-2-clause-items : goal.returns-then-i-self-2-clause-items
returns-then-i-self-2-clause-items g c =
    take-set-lt _ _ _ _ (omega arith) ∙ ap (λ v. slice_set v.items c.args.i c.args.item) c.self.view_is

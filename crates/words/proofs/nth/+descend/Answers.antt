-- In each half the place of the set flag is found by the laws of a list cut in two.
use Rattle.std.proofs.Common.{◌/◌, arith}
use Rattle.words.proofs.nth.NthLaws.{ones_low, skip-le, skip-ones, half-fits, half_place, place-lt, place-one}
use Rattle.words.proofs.nth.+descend.Goals as goal

pub returns-then-width-le1 : goal.returns-then-width-le1
returns-then-width-le1 t c = place-one _ _ _ c.if-width-le1.true c.requires.1

pub overflow_shr-w : goal.overflow_shr-w
overflow_shr-w t c = omega (arith, skip-le c.args.n _ (c.args.width / 2) _ c.skip_if_after-skip.ensures)

pub overflow_sub-n : goal.overflow_sub-n
overflow_sub-n t c = omega (arith, skip-ones c.args.n _ _ c.skip_if_after-passed.ensures)

pub descend-requires : goal.descend-requires
descend-requires t c =
    omega (
      arith,
      half-fits c.args.width (c.args.width / 2) c.args.w c.args.n _ _ _ (omega arith)
          (ones_low 64 (c.args.width / 2) c.args.w (omega arith))
          c.skip_if_after-skip.ensures c.skip_if_after-passed.ensures c.requires.1,
    )

placed : goal.returns
placed t c =
    half_place c.args.width (c.args.width / 2) c.args.w c.args.n _ _ _ (omega arith) (ones_low 64 (c.args.width / 2) c.args.w (omega arith))
    c.skip_if_after-skip.ensures c.skip_if_after-passed.ensures c.requires.1 _ c.descend.ensures

pub overflow_add-result : goal.overflow_add-result
overflow_add-result t c = omega (arith, placed t c, place-lt _ _ _ c.requires.1)

pub returns : goal.returns
returns t c = placed t c

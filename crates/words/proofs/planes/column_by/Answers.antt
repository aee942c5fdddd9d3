-- One more digit keeps the sum below the next power of two (`sum_more`), and what is left makes the rest (`column_more`).
use Rattle.std.proofs.Common.{refl, arith}
use Rattle.words.proofs.columns.PlaneReads.{digits_none, digits_all, column_more, sum_more}
use Rattle.words.proofs.planes.column_by.Goals as goal

pub loop-i-init : goal.loop-i-init
loop-i-init g c = (omega arith, λ col h e. digits_none _ _)

pub overflow_add-sum : goal.overflow_add-sum
overflow_add-sum g c =
    let more = sum_more _ _ _ _ _ c.loop-i.invariant.0 (omega arith) c.digit_by.ensures refl in
    omega (arith, more.1)

pub loop-i-preserved : goal.loop-i-preserved
loop-i-preserved g c =
    let more = sum_more _ _ _ _ _ c.loop-i.invariant.0 (omega arith) c.digit_by.ensures refl in (
      more.0,
      λ col h e. column_more _ _ _ _ _ _ _ _
          (omega (arith, c.told-planes, c.requires.1)) (omega (arith, c.told-planes)) c.requires.0 h e (c.loop-i.invariant.1 col h e) refl
          c.digit_by.ensures,
    )

pub returns : goal.returns
returns g c = λ col h e. digits_all _ _ _ _ (omega arith) (c.loop-i.invariant.1 col h e)

-- With too few bytes the answer is false (`too_few`). Else it is that of the flags of the first load (`differs`).
use Rattle.std.proofs.Common.{arith}
use Rattle.words.proofs.uniform.UniformLaws.{differs, enough, too_few}
use Rattle.words.proofs.uniform.differs_early.Goals as goal

pub returns-then-bytes-end : goal.returns-then-bytes-end
returns-then-bytes-end c = too_few _ _ _ _ (omega arith)

pub returns : goal.returns
returns c =
    let a = c.args in
    enough _ _ _ _ _ (omega arith)
    (differs _ _ _ a.len _ _ _ _ _ c.full_word.ensures c.differing.ensures c.shr_or_zero-others.ensures c.low_flags.ensures
    c.is_set.ensures)

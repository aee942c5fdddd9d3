-- `shl-some` below 64; if k is 64 or more the window has only the zeros in front (`shl-past`).
use Rattle.words.proofs.merge.Merging.{shl-past, shl-some}
use Rattle.words.proofs.word.shl_or_zero.Goals as goal

pub returns-then-k-lt64 : goal.returns-then-k-lt64
returns-then-k-lt64 c = shl-some 64 _ _ c.if-k-lt64.true

pub returns-else-k-lt64 : goal.returns-else-k-lt64
returns-else-k-lt64 c = shl-past 64 _ _ c.if-k-lt64.false

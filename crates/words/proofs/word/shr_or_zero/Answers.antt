-- `bits-shr` below 64; if k is 64 or more the window is past the word's end (`shr-all`).
use Rattle.words.proofs.word.Loads.{bits-shr, shr-all}
use Rattle.words.proofs.word.shr_or_zero.Goals as goal

pub returns-then-k-lt64 : goal.returns-then-k-lt64
returns-then-k-lt64 c = bits-shr 64 _ _ c.ranges.w.fits

pub returns-else-k-lt64 : goal.returns-else-k-lt64
returns-else-k-lt64 c = shr-all 64 _ _ c.if-k-lt64.false

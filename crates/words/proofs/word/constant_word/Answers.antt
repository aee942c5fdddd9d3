-- In each branch the flag is known: `bits-ones` or `bits-zero`.
use Rattle.words.proofs.flags.Bits.{bits-zero, bits-ones}
use Rattle.words.proofs.word.constant_word.Goals as goal

pub returns-then-flag : goal.returns-then-flag
returns-then-flag c = rw c.if-flag.true (bits-ones 64)

pub returns-else-flag : goal.returns-else-flag
returns-else-flag c = rw c.if-flag.false (bits-zero 64)

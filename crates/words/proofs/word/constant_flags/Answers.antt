-- If n is 64 or more the word is all of the flag (`copies-past`); below, 2 to the n less one, or 0 less 0 (`copies-some`).
use Rattle.words.proofs.merge.Merging.{copies-past, copies-some}
use Rattle.words.proofs.word.constant_flags.Goals as goal

pub returns-then-n-ge64 : goal.returns-then-n-ge64
returns-then-n-ge64 c = copies-past 64 _ _ _ c.if-n-ge64.true c.constant_word.ensures

pub returns : goal.returns
returns c = rw c.from-one.ensures (copies-some 64 _ c.args.flag c.if-n-ge64.false)

-- If nothing is left the window is past the end.
use Rattle.words.proofs.word.Loads.{at-past}
use Rattle.words.proofs.word.word_at.Goals as goal

pub returns-then-n-at : goal.returns-then-n-at
returns-then-n-at c = at-past _ _ _ c.if-n-at.true

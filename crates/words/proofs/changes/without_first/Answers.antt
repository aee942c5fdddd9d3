-- Without a set flag the word stays (`none-cleared`); else the word less one has all others of it (`cleared`).
use Rattle.std.proofs.Common.{◌∙◌, arith}
use Rattle.words.proofs.changes.ChangeLaws.{cleared, none-cleared}
use Rattle.words.proofs.changes.without_first.Goals as goal

pub returns-then-w-eq0 : goal.returns-then-w-eq0
returns-then-w-eq0 c = none-cleared _ c.if-w-eq0.true

pub returns : goal.returns
returns c = c.and_word.ensures ∙ cleared 64 _ (omega arith)

-- By cases on the second mask: a stretch of both buffers (`any-both`) or of the first (`any-alone`) is a part of the flags searched.
use Rattle.masks.proofs.next_and_not.NextAndNotLaws.{any-both, any-alone}
use Rattle.masks.proofs.next_and_not.any_free.Goals as goal

pub returns-in-Some : goal.returns-in-Some
returns-in-Some c = any-both _ _ _ _ _ c.in-Some.is c.requires.beside _ _ _ c.requires.ordered c.any_set.ensures

pub returns-in-None : goal.returns-in-None
returns-in-None c = any-alone _ _ _ _ c.in-None.is _ _ _ c.requires.ordered c.any_set-in-None.ensures

-- By cases on the second mask: the first flags of the word of both (`word-both`) or of the first (`word-alone`) are those searched.
use Rattle.masks.proofs.next_and_not.NextAndNotLaws.{word-both, word-alone}
use Rattle.masks.proofs.next_and_not.free_word.Goals as goal

pub returns-in-Some : goal.returns-in-Some
returns-in-Some c =
    λ k few inside.
    word-both _ _ _ _ _ c.in-Some.is c.requires.beside _ k _ _ _ few inside c.word_from-own.ensures
    c.word_from.ensures c.and_not_word.ensures

pub returns-in-None : goal.returns-in-None
returns-in-None c =
    λ k few inside.
    word-alone _ _ _ _ c.in-None.is _ k _ few inside c.word_from-own.ensures

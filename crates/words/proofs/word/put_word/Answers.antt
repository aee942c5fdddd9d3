-- `put-mid`: what is written over eight bytes starting at byte `at` is written over the flags starting at 8 * at.
use Rattle.words.proofs.word.Loads.{put-mid}
use Rattle.words.proofs.word.put_word.Goals as goal

pub returns : goal.returns
returns c = put-mid _ _ _ _ c.requires c.split.ensures

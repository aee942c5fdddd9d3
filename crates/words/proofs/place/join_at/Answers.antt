use Rattle.std.proofs.Common.{◌∙◌, ◌||◌, ap, Bool, List}
use mathlib.Core.List.{zip_with}
use Rattle.words.specs.Flags.{word_flags}
use Rattle.words.proofs.flags.Bits.{length-bits}
use Rattle.words.proofs.place.PlaceLaws.{or-stored}
use Rattle.words.proofs.place.join_at.Goals as goal

pub returns : goal.returns
returns c =
    or-stored _ _ _ _ (word_flags c.args.w) c.store_at.ensures
    (c.or_word-joined.ensures ∙ ap (λ (l : List Bool). zip_with ◌||◌ l (word_flags c.args.w)) c.byte_word.ensures)
    (length-bits 64 _) (length-bits 64 _)

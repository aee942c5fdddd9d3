-- The invariant: the first i flags of w are those at the first i indices. Adding one more is the law `word-step`.
use mathlib.Core.Path.{◌≡◌}
use lib.ListN.{take}
use Rattle.words.specs.Flags.{word_flags}
use Rattle.words.specs.Loops.{stretch}
use Rattle.masks.specs.Appends.{gathered}
use Rattle.masks.proofs.builder.gather.gather_word.Given as goal

abbrev pub invariant-loop-i : goal.invariant-loop-i
invariant-loop-i l = take l.i (word_flags l.w) ≡ gathered (stretch l.span.bytes.now l.span.start l.span.length) (take l.i l.idxs)

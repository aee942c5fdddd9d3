-- The invariant: w is the number of the first i bytes. One more byte is the law `up_step`.
use Rattle.std.proofs.Common.{◌≡◌}
use Rattle.words.proofs.word.Loads.{up_to}
use Rattle.words.proofs.word.join.Given as goal

abbrev pub invariant-loop-i : goal.invariant-loop-i
invariant-loop-i l = l.w ≡ up_to l.part l.i

use Rattle.words.proofs.transpose.TransposeLaws.{Underway}
use Rattle.words.proofs.transpose.exchange_halves.Given as goal

abbrev pub invariant-loop-i : goal.invariant-loop-i
invariant-loop-i l = Underway l.h l.initial.rows l.rows l.i

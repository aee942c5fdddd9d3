-- The invariant: the output is under way (`UnderWay`), with the ends from the i-th word on.
use Rattle.std.proofs.Common.{◌*◌, false, get_or}
use Rattle.words.specs.Flags.{flags_of, over, word_flags}
use Rattle.words.specs.Loops.{stretch}
use Rattle.run_ends.specs.Write.{written_ends}
use Rattle.run_ends.proofs.write.EndPlaces.{UnderWay, ends_left}
use Rattle.run_ends.proofs.write.write_ends.Given as goal

abbrev pub invariant-loop-i : goal.invariant-loop-i
invariant-loop-i l =
    UnderWay (over l.initial.ends (written_ends (stretch l.bytes l.start l.n))) l.ends l.count
    (ends_left (flags_of l.bytes) l.start l.n (get_or (word_flags l.before) 63 false) (64 * l.i))

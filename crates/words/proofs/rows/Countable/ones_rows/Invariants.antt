-- The invariant: `ones` counts the first i words of each row. One more word of each is `rows_step`; the rows in full are the stretch
-- (`rows_all`).
use Rattle.std.proofs.Common.{◌*◌, ◌≡◌}
use Rattle.words.specs.Flags.{flags_of}
use Rattle.words.proofs.rows.RowLaws.{rows_ones}
use Rattle.words.proofs.rows.Countable.ones_rows.Given as goal

abbrev pub invariant-loop-i : goal.invariant-loop-i
invariant-loop-i l = l.ones ≡ rows_ones (flags_of l.words.bytes.now) (8 * l.words.at) l.m l.i

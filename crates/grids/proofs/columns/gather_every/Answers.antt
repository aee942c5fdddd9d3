-- The word has the flags from number n - j on (`none-gathered`, `one-gathered`).
use Rattle.std.proofs.Common.{ℕ, ◌+◌, ◌*◌, false, get_or}
use Rattle.words.specs.Flags.{flags_of}
use Rattle.grids.proofs.columns.ColumnLaws.{none-gathered, one-gathered}
use Rattle.grids.proofs.columns.gather_every.Goals as goal

pub loop-j-init : goal.loop-j-init
loop-j-init c = none-gathered _

pub loop-j-preserved : goal.loop-j-preserved
loop-j-preserved c =
    one-gathered (λ (i : ℕ). get_or (flags_of c.args.bytes.now) (c.args.first + i * c.args.step) false) _ _ _ _ _ _ _ c.loop-j-test.true
    c.flag_at-flag.ensures c.constant_word.ensures c.loop-j.invariant c.concat_low-w.ensures

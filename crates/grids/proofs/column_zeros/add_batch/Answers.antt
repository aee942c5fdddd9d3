use Rattle.std.proofs.Common.{◌≡◌, ◌+◌, min, subst, ℕ, arith}
use Rattle.words.specs.Flags.{flags_of}
use Rattle.grids.specs.Workers.{OnesOf}
use Rattle.grids.proofs.column_zeros.ZeroLaws.{batch-added, few-ones}
use Rattle.grids.proofs.column_zeros.add_batch.Goals as goal

pub add_counts-requires : goal.add_counts-requires
add_counts-requires c =
    few-ones (flags_of c.args.bytes.now) c.args.first c.args.columns c.args.row _ _ c.load_rows.new.words (omega arith) (omega arith)
    c.load_rows.ensures _ c.args.ones.now c.column_counts-part.ensures c.requires.1.1.1.1 (omega arith)

pub returns : goal.returns
returns c =
    let e : c.args.row + c.min-height.result ≡ min (c.args.row + 511) c.args.rows = omega arith in
    subst (λ (n : ℕ). OnesOf (flags_of c.args.bytes.now) c.args.first c.args.columns n c.add_counts.new.ones) e
    (batch-added (flags_of c.args.bytes.now) c.args.first c.args.columns c.args.row _ _ c.load_rows.new.words (omega arith) (omega arith)
    c.load_rows.ensures _ c.args.ones.now c.column_counts-part.ensures c.requires.1.1.1.1 _ c.add_counts.array_long c.add_counts.ensures)

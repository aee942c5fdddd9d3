-- The mask is a grid (`counts-allowed`), so the stretch of rows * columns flags is that of its flags.
use Rattle.std.proofs.Common.{sym, ap, ◌∙◌, ℕ, arith}
use Rattle.words.specs.Flags.{over}
use Rattle.words.specs.Loops.{stretch}
use Rattle.grids.specs.Grid.{column_zeros}
use Rattle.grids.proofs.grid.CheckLaws.{counts-allowed}
use Rattle.grids.proofs.columns.grid_column_zeros.Goals as goal

pub write_column_zeros-requires : goal.write_column_zeros-requires
write_column_zeros-requires c =
    let a = counts-allowed _ _ _ _ _ _ (sym c.in_ok-check_counts.ensures) in
    (a.0.starts, (omega (arith, a.0.short, a.0.grid), a.1))

pub returns-clause-counts : goal.returns-clause-counts
returns-clause-counts c =
    let a = counts-allowed _ _ _ _ _ _ (sym c.in_ok-check_counts.ensures) in
    c.write_column_zeros.ensures
    ∙ ap (λ (n : ℕ).
    over c.args.counts.now (column_zeros (stretch c.args.bytes.now c.args.mask.start n) c.args.rows c.args.columns)) a.0.grid

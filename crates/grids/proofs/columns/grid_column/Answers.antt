-- The mask is a grid that has the column (`column-allowed`); the words that are written are the frozen bytes (`frozen-written`).
use Rattle.std.proofs.Common.{rules, sym, ap, ◌∙◌, ℕ, arith}
use Rattle.words.specs.Flags.{flags_of, over}
use Rattle.words.specs.Loops.{stretch, whole_words}
use Rattle.masks.proofs.bitmap_ops.CombineLaws.{frozen-written}
use Rattle.grids.specs.Grid.{column_flags}
use Rattle.grids.proofs.grid.CheckLaws.{column-allowed}
use Rattle.grids.proofs.columns.grid_column.Goals as goal

pub write_column-requires : goal.write_column-requires
write_column-requires c =
    let a = column-allowed _ _ _ _ _ _ (sym c.in_ok-check_column.ensures) in
    (a.grid.starts, (omega (arith, a.grid.short, a.grid.grid), a.inside))

pub returns-clause-bytes : goal.returns-clause-bytes
returns-clause-bytes c =
    let a = column-allowed _ _ _ _ _ _ (sym c.in_ok-check_column.ensures) in
    frozen-written _ _ _ (search rules) (search rules)
    (c.write_column.ensures
    ∙ ap (λ (n : ℕ).
    over (flags_of c.args.out.now)
    (whole_words (column_flags (stretch c.args.bytes.now c.args.mask.start n) c.args.rows c.args.columns c.args.column))) a.grid.grid)

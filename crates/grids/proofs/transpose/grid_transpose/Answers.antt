-- The mask is a grid (`transpose-allowed`); the words that are written are the frozen bytes (`frozen-written`).
use Rattle.std.proofs.Common.{rules, sym, ap, ◌∙◌, ℕ, arith}
use Rattle.words.specs.Flags.{flags_of, over}
use Rattle.words.specs.Loops.{stretch, whole_words}
use Rattle.masks.proofs.bitmap_ops.CombineLaws.{frozen-written}
use Rattle.grids.specs.Grid.{transposed}
use Rattle.grids.proofs.grid.CheckLaws.{transpose-allowed}
use Rattle.grids.proofs.transpose.grid_transpose.Goals as goal

pub write_transposed-requires : goal.write_transposed-requires
write_transposed-requires c =
    let a = transpose-allowed _ _ _ _ _ (sym c.in_ok-check_transpose.ensures) in
    (a.0.starts, omega (arith, a.0.short, a.0.grid))

pub returns-clause-bytes : goal.returns-clause-bytes
returns-clause-bytes c =
    let a = transpose-allowed _ _ _ _ _ (sym c.in_ok-check_transpose.ensures) in
    frozen-written _ _ _ (search rules) (search rules)
    (c.write_transposed.ensures
    ∙ ap (λ (n : ℕ).
    over (flags_of c.args.out.now)
    (whole_words (transposed (stretch c.args.bytes.now c.args.mask.start n) c.args.rows c.args.columns))) a.0.grid)

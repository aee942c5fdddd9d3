use Rattle.std.proofs.Common.{◌≡◌, ℕ, ◌*◌, min, get_or, subst, arith}
use Rattle.words.specs.Loops.{stretch}
use Rattle.grids.specs.Grid.{column_zeros}
use Rattle.grids.specs.Workers.{Renewed}
use Rattle.grids.proofs.column_zeros.ZeroLaws.{all_written, length-zeros}
use Rattle.grids.proofs.column_zeros.write_column_zeros.Goals as goal

pub returns : goal.returns
returns c =
    let e : min c.args.columns (64 * c.loop-band.band) ≡ c.args.columns = omega arith in
    let l = stretch c.args.bytes.now c.args.start (c.args.rows * c.args.columns) in
    all_written _ _ _ _ (length-zeros _ _ _) c.requires.1.1
    (subst (λ (n : ℕ). Renewed (λ (p : ℕ). get_or (column_zeros l c.args.rows c.args.columns) p 0) 0 n c.args.counts.now
    c.loop-band.counts) e
    c.loop-band.invariant)

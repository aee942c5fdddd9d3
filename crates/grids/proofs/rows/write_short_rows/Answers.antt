-- As `write_row_zeros`, but that the ones of a row are those of the low flags of one word (`word-row`).
use Rattle.std.proofs.Common.{◌∙◌, arith}
use Rattle.std.proofs.Math.Nat.{mul-le-mul_left}
use Rattle.words.proofs.flags.Windows.{length-window}
use Rattle.masks.proofs.utils.PartLaws.{ones-most}
use Rattle.grids.specs.Grid.{row_zeros}
use Rattle.grids.proofs.grid.ListingLaws.{listing-none, set-listing}
use Rattle.grids.proofs.rows.RowZeros.{all_rows, at-place, next-place, row-zeros, word-row}
use Rattle.grids.proofs.rows.write_short_rows.Goals as goal

pub overflow_sub-zeros : goal.overflow_sub-zeros
overflow_sub-zeros c =
    ones-most _ _ _ (length-window _ _ _)
    (word-row _ _ _ _ _ c.requires.1.1.0 c.word_from.ensures c.ones_below-ones.ensures)

pub overflow_add-at : goal.overflow_add-at
overflow_add-at c =
    omega (arith, mul-le-mul_left c.args.columns c.loop-row-test.true, c.loop-row.invariant.1, c.requires)

pub loop-row-init : goal.loop-row-init
loop-row-init c = (listing-none _ _, omega arith)

pub loop-row-preserved : goal.loop-row-preserved
loop-row-preserved c = (
  set-listing _ _ _ _ _ c.loop-row.invariant.0 (row-zeros _ _ _ _ _ _ c.loop-row-test.true
      (word-row _ _ _ _ _ c.requires.1.1.0 c.word_from.ensures c.ones_below-ones.ensures
      ∙ at-place _ _ _ _ c.loop-row.invariant.1)),
  next-place _ _ _ _ c.loop-row.invariant.1,
)

pub returns : goal.returns
unfolding row_zeros
returns c = c.loop-row.invariant.0 ∙ all_rows _ _ _ _ _ (omega arith)

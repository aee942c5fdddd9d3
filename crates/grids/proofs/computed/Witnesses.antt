-- The rows of `tables/Witnesses.antt`, by computation.
use mathlib.Core.Path.{refl}
use Rattle.words.specs.Flags.{bits, count, flags_of, window}
use Rattle.masks.specs.equations.Answer.{decided}
use Rattle.masks.specs.Utils.{zeros}
use Rattle.masks.specs.Mask.{cut_zeros, kept_count, mask_checks, recounts}
use Rattle.grids.specs.equations.Transpose.{grid_transpose_of}
use Rattle.grids.specs.equations.Rows.{grid_row_of, grid_row_zeros_of}
use Rattle.grids.specs.equations.Columns.{grid_column_of, grid_column_zeros_of}
use Rattle.grids.specs.Transpose.{transpose_checks}
use Rattle.grids.specs.Rows.{row_checks}
use Rattle.grids.specs.Grid.{counts_checks, grid_checks}
use Rattle.grids.specs.Columns.{column_checks}
use Rattle.masks.specs.Checks.{first_failed, earlier, output_checks, place_in, rank, span_checks}
use Rattle.grids.proofs.statements.Refusals.{columns, grids, rows}
use Rattle.grids.proofs.tables.Witnesses.{Witnessed, witnesses}

pub witnessed : Witnessed
unfolding witnesses first_failed column_checks counts_checks grid_checks row_checks transpose_checks grid_column_of grid_column_zeros_of
    grid_row_of grid_row_zeros_of grid_transpose_of earlier output_checks place_in rank span_checks cut_zeros kept_count mask_checks
    recounts zeros decided bits count flags_of window
witnessed rows = refl
witnessed columns = refl
witnessed grids = refl

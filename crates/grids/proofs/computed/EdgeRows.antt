-- The rows of `tables/EdgeRows.antt`, by computation.
use mathlib.Core.Path.{refl}
use Rattle.words.specs.Flags.{bits, count, flags_of, over, window, word_of}
use Rattle.masks.specs.equations.Answer.{decided, kept}
use Rattle.masks.specs.Utils.{zeros}
use Rattle.masks.specs.Mask.{cut_zeros, kept_count, mask_checks, recounts}
use Rattle.masks.specs.Frozen.{frozen, packed}
use Rattle.grids.specs.equations.Transpose.{grid_transpose_bytes, grid_transpose_of}
use Rattle.grids.specs.equations.Rows.{grid_row_of, grid_row_zeros_of, grid_row_zeros_over}
use Rattle.grids.specs.equations.Columns.{grid_column_bytes, grid_column_of, grid_column_zeros_of, grid_column_zeros_over}
use Rattle.grids.specs.Transpose.{transpose_checks}
use Rattle.grids.specs.Rows.{row_checks}
use Rattle.grids.specs.Grid.{column_flags, column_zeros, counts_checks, grid_checks, concatenated, listing, row_flags, row_zeros}
use Rattle.grids.specs.Grid.{transposed}
use Rattle.grids.specs.Columns.{column_checks}
use Rattle.masks.specs.Checks.{first_failed, earlier, output_checks, place_in, rank, span_checks}
use Rattle.grids.proofs.tables.EdgeRows.{EdgesHold, edge_rows}

pub all_hold : EdgesHold
unfolding edge_rows first_failed column_checks column_flags column_zeros counts_checks grid_checks concatenated listing row_flags row_zeros
    transposed row_checks transpose_checks grid_column_bytes grid_column_of grid_column_zeros_of grid_column_zeros_over grid_row_of
    grid_row_zeros_of grid_row_zeros_over grid_transpose_bytes grid_transpose_of earlier output_checks place_in rank span_checks frozen
    packed cut_zeros kept_count mask_checks recounts zeros decided kept bits count flags_of over window word_of
all_hold = record { edges = refl }

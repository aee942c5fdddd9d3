-- The wrong answers of `tables/WrongGrids.antt` are ruled out, by computation.
use mathlib.Core.Path.{refl}
use Rattle.words.specs.Ops.{zip3}
use Rattle.words.specs.Flags.{bits, copies, count, flags_of, over, window, word_of}
use Rattle.words.specs.Counts.{same_flags}
use Rattle.masks.specs.equations.Mask.{new_zeroed_bytes, new_zeroed_of, slice_of, try_new_of, unset_bits_of}
use Rattle.masks.specs.equations.Compare.{common_of, edges_of, eq_of}
use Rattle.masks.specs.equations.Combine.{each_bytes, each_of, pair_bytes, pair_of}
use Rattle.masks.specs.equations.AtIndex.{and_not_at_of}
use Rattle.masks.specs.equations.Answer.{decided, kept}
use Rattle.masks.specs.Utils.{zeros}
use Rattle.masks.specs.Mask.{cut_zeros, kept_count, mask_checks, piece_checks, recounts, slice_checks, zero_count, zeroed_checks}
use Rattle.masks.specs.Frozen.{frozen, packed}
use Rattle.masks.specs.Compare.{common_checks, edges}
use Rattle.masks.specs.Combine.{largest_serial, not_checks, pair_checks, pair_flags, pair_mask, select_checks, shortcut}
use Rattle.masks.specs.AtIndex.{and_not_at_checks, and_not_flag, flag_or, index_checks, length_checks}
use Rattle.grids.specs.equations.Transpose.{grid_transpose_bytes, grid_transpose_of}
use Rattle.grids.specs.equations.Rows.{grid_row_of, grid_row_zeros_of, grid_row_zeros_over}
use Rattle.grids.specs.equations.Columns.{grid_column_bytes, grid_column_of, grid_column_zeros_of, grid_column_zeros_over}
use Rattle.grids.specs.Transpose.{transpose_checks}
use Rattle.grids.specs.Rows.{row_checks}
use Rattle.grids.specs.Grid.{column_flags, column_zeros, counts_checks, grid_checks, concatenated, listing, row_flags, row_zeros}
use Rattle.grids.specs.Grid.{transposed}
use Rattle.grids.specs.Columns.{column_checks}
use Rattle.masks.proofs.computed.WrongAnswers.{answer, mask_code, number, plain, same_code, tried, writing}
use Rattle.masks.specs.Checks.{first_failed, earlier, output_checks, place_in, rank, span_checks}
use Rattle.grids.proofs.tables.WrongGrids.{WrongGrids}

pub ruled_out : WrongGrids
unfolding same_code first_failed column_checks column_flags column_zeros counts_checks grid_checks concatenated listing row_flags row_zeros
    transposed row_checks transpose_checks grid_column_bytes grid_column_of grid_column_zeros_of grid_column_zeros_over grid_row_of
    grid_row_zeros_of grid_row_zeros_over grid_transpose_bytes grid_transpose_of and_not_at_checks and_not_flag flag_or index_checks
    length_checks earlier output_checks place_in rank span_checks largest_serial not_checks pair_checks pair_flags pair_mask select_checks
    shortcut common_checks edges frozen packed cut_zeros kept_count mask_checks piece_checks recounts slice_checks zero_count zeroed_checks
    zeros decided kept and_not_at_of each_bytes each_of pair_bytes pair_of common_of edges_of eq_of new_zeroed_bytes new_zeroed_of slice_of
    try_new_of unset_bits_of same_flags bits copies count flags_of over window word_of zip3
ruled_out =
    record {
      row = tried (answer mask_code mask_code) refl refl refl;
      row-counted = tried (answer mask_code mask_code) refl refl refl;
      row-outside = tried (answer mask_code mask_code) refl refl refl;
      row-wrapped = tried (answer mask_code mask_code) refl refl refl;
      column = tried (writing (plain mask_code)) refl refl refl;
      column-record = tried (writing (plain mask_code)) refl refl refl;
      transposed = tried (writing (plain mask_code)) refl refl refl;
      transposed-record = tried (writing (plain mask_code)) refl refl refl;
      row_zeros = tried (writing (plain number)) refl refl refl;
      column_zeros = tried (writing (plain number)) refl refl refl;
    }

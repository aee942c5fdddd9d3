-- The calls of the library that make a mask from masks, as one closed table, and the statement for it that a mask means the same however
-- it was built.
use Rattle.histories.proofs.statements.Agreement.{OneMeaning}
use Rattle.histories.specs.GridRows.{GridCall, grid_call}
use Rattle.histories.specs.MaskRows.{MaskCall, mask_call}
use Rattle.histories.specs.Rows.{RowCall}
use Rattle.histories.specs.RunEndRows.{RunEndCall, run_end_call}

-- a constructor for each table; a crate above masks adds one for its own
pub data LibraryCall : Type 0 where
  masks : MaskCall → LibraryCall
  grids : GridCall → LibraryCall
  run_ends : RunEndCall → LibraryCall

abbrev pub library_call : LibraryCall → RowCall
library_call (masks c) = mask_call c
library_call (grids c) = grid_call c
library_call (run_ends c) = run_end_call c

abbrev pub MeansTheSame : Type 0
MeansTheSame = OneMeaning library_call

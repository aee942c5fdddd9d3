-- Histories exist, so the theorem is not vacuous: for each kind of call a history in which it is accepted, and for each kind that can be
-- refused a history in which it is refused; each ends in a mask. Also the kinds that are never refused.
use Rattle.std.specs.Prelude.{ℕ, ◌≡◌, ℤ, pos, negsuc, true, false, List, [], ◌∷◌, ◌++◌, map, replicate, Some, None}
use Rattle.words.specs.Flags.{is_one}
use Rattle.masks.specs.equations.Appends.{Append, push_flag, extend_constant, push_word, extend_slice}
use Rattle.masks.specs.equations.Appends.{extend_repeated, extend_bitmap, extend_gather, extend_opt_gather}
use Rattle.masks.specs.Builder.{Filling}
use Rattle.masks.proofs.tables.Examples.{first, lent}
use Rattle.masks.specs.Mask.{mask_of, mask_under}
use Rattle.masks.specs.declared.bitmap.Bitmap.{Bitmap}
use Rattle.histories.proofs.statements.Agreement.{ComesTo}
use Rattle.histories.proofs.statements.History.{Call, try_new, append, freeze, into_opt_validity, make, Fed, History, from_builder}
use Rattle.histories.proofs.statements.History.{from_span}
use Rattle.histories.proofs.statements.History.{from_mask, building, no_mask, end_of, list_of, start_of, step, trace}
use Rattle.histories.proofs.statements.Library.{LibraryCall, grids, library_call, masks, run_ends}
use Rattle.histories.specs.GridRows.{GridCall, grid_column, grid_row, grid_transpose}
use Rattle.histories.specs.MaskRows.{pair, invert, select, select_constant, MaskCall, slice, unset_bits, combine}
use Rattle.histories.specs.ReferenceList.{and, and_not, or, or_not, xor}
use Rattle.histories.specs.Rows.{Argument, own, other, RowCall, one, two, three}
use Rattle.histories.specs.RunEndRows.{RunEndCall, from_run_ends, to_run_ends}

-- ---- a row: a history, which of its calls are accepted, the mask and bytes in which it ends, and its list; 1 means yes and set

pub record Comes (h : History LibraryCall) (accepted : List ℕ) (m : Bitmap) (bytes : List ℕ) (flags : List ℕ) : Type 0 where
  pub answers : map (λ (f : Fed LibraryCall). f.accepted) (trace library_call (start_of h.start) h.calls) ≡ map is_one accepted
  pub comes : ComesTo library_call h m bytes
  pub list : list_of library_call h ≡ map is_one flags

-- ---- histories

-- a new builder under serial 0 over eight lent bytes 0xAA, these appends, and the call that makes a mask of it
abbrev pub built : List Append → Call LibraryCall → History LibraryCall
built appends last = record { start = from_builder 0 (lent 8); calls = map append appends ++ (last ∷ []) }

-- A = 1,0,1,1,0,1 over its byte, and calls on it
abbrev pub A : List ℕ
A = 0x2D ∷ []

abbrev pub on_a : List MaskCall → History LibraryCall
on_a calls = record { start = from_span; calls = try_new A 0 6 ∷ map (λ (c : MaskCall). make (masks c)) calls }

-- the same with calls on A as a grid: 1,0 and 1,1 and 0,1
abbrev pub on_grid : List GridCall → History LibraryCall
on_grid calls = record { start = from_span; calls = try_new A 0 6 ∷ map (λ (c : GridCall). make (grids c)) calls }

-- the same with calls that read A as the values of runs, or write it as runs: 1 and 0 and 1,1 and 0 and 1
abbrev pub on_runs : List RunEndCall → History LibraryCall
on_runs calls = record { start = from_span; calls = try_new A 0 6 ∷ map (λ (c : RunEndCall). make (run_ends c)) calls }

-- six ends: runs of 1, 2, 1, 2, 1 and 2 flags
abbrev pub six : List ℤ
six = map pos (1 ∷ 3 ∷ 4 ∷ 6 ∷ 7 ∷ 9 ∷ [])

-- B = 0,1,1,0,0,1 starting at bit 3 of its bytes, C = 1,1,0,0,1,1, and a mask of five flags
abbrev pub B : Argument
B = other (mask_of 3 6 None) (0x37 ∷ 0xFF ∷ [])

abbrev pub C : Argument
C = other (mask_of 0 6 None) (0x33 ∷ [])

abbrev pub five : Argument
five = other (mask_of 0 5 None) (0x33 ∷ [])

-- ---- each kind of call, accepted

pub record AcceptedKinds : Type 0 where
  pub push : Comes (built (push_flag true ∷ push_flag false ∷ []) freeze) (1 ∷ 1 ∷ 1 ∷ []) (mask_of 0 2 (Some 1)) (first 0x01) (1 ∷ 0 ∷ [])
  pub constant : Comes (built (extend_constant 3 true ∷ []) freeze) (1 ∷ 1 ∷ []) (mask_of 0 3 (Some 0)) (first 0x07) (1 ∷ 1 ∷ 1 ∷ [])
  pub push-word : Comes (built (push_word 0x2D 6 ∷ []) freeze) (1 ∷ 1 ∷ []) (mask_of 0 6 (Some 2)) (first 0x2D) (1 ∷ 0 ∷ 1 ∷ 1 ∷ 0 ∷ 1 ∷ [])
  pub span : Comes (built (extend_slice A 2 4 ∷ []) freeze) (1 ∷ 1 ∷ []) (mask_of 0 4 (Some 1)) (first 0x0B) (1 ∷ 1 ∷ 0 ∷ 1 ∷ [])
  pub repeats : Comes (built (extend_repeated A 2 4 2 ∷ []) freeze) (1 ∷ 1 ∷ []) (mask_of 0 8 (Some 2)) (first 0xCF)
      (1 ∷ 1 ∷ 1 ∷ 1 ∷ 0 ∷ 0 ∷ 1 ∷ 1 ∷ [])
  -- the second to the fourth flag of 0,1,1,0,1
  pub piece : Comes (built (extend_bitmap (mask_of 1 5 None) A 1 3 ∷ []) freeze) (1 ∷ 1 ∷ []) (mask_of 0 3 (Some 1)) (first 0x03)
      (1 ∷ 1 ∷ 0 ∷ [])
  pub gather : Comes (built (extend_gather A 0 6 (5 ∷ 4 ∷ 0 ∷ []) ∷ []) freeze) (1 ∷ 1 ∷ []) (mask_of 0 3 (Some 1)) (first 0x05)
      (1 ∷ 0 ∷ 1 ∷ [])
  pub opt_gather : Comes (built (extend_opt_gather A 0 6 (5 ∷ 6 ∷ 0 ∷ []) ∷ []) freeze) (1 ∷ 1 ∷ []) (mask_of 0 3 (Some 1)) (first 0x05)
      (1 ∷ 0 ∷ 1 ∷ [])
  pub freezes : Comes (built [] freeze) (1 ∷ []) (mask_of 0 0 (Some 0)) (lent 8) []
  pub validity : Comes (built (push_flag false ∷ []) into_opt_validity) (1 ∷ 1 ∷ []) (mask_of 0 1 (Some 1)) (first 0x00) (0 ∷ [])
  -- a list of calls that ends in the none of `into_opt_validity` has no mask
  pub no-validity : end_of library_call (built (push_flag true ∷ []) into_opt_validity) ≡ no_mask
  pub try-new : Comes (on_a []) (1 ∷ []) (mask_of 0 6 None) A (1 ∷ 0 ∷ 1 ∷ 1 ∷ 0 ∷ 1 ∷ [])
  pub slices : Comes (on_a (slice 2 4 ∷ [])) (1 ∷ 1 ∷ []) (mask_of 2 4 None) A (1 ∷ 1 ∷ 0 ∷ 1 ∷ [])
  pub counts : Comes (on_a (unset_bits ∷ [])) (1 ∷ 1 ∷ []) (mask_of 0 6 (Some 2)) A (1 ∷ 0 ∷ 1 ∷ 1 ∷ 0 ∷ 1 ∷ [])
  -- `and` of a counted mask
  pub ands : Comes (on_a (unset_bits ∷ combine (pair and) (lent 8) (two own B) ∷ [])) (1 ∷ 1 ∷ 1 ∷ []) (mask_of 0 6 None) (first 0x24)
      (0 ∷ 0 ∷ 1 ∷ 0 ∷ 0 ∷ 1 ∷ [])
  pub and_nots : Comes (on_a (combine (pair and_not) (lent 8) (two own B) ∷ [])) (1 ∷ 1 ∷ []) (mask_of 0 6 None) (first 0x09)
      (1 ∷ 0 ∷ 0 ∷ 1 ∷ 0 ∷ 0 ∷ [])
  pub ors : Comes (on_a (combine (pair or) (lent 8) (two own B) ∷ [])) (1 ∷ 1 ∷ []) (mask_of 0 6 None) (first 0x2F)
      (1 ∷ 1 ∷ 1 ∷ 1 ∷ 0 ∷ 1 ∷ [])
  pub or_nots : Comes (on_a (combine (pair or_not) (lent 8) (two own B) ∷ [])) (1 ∷ 1 ∷ []) (mask_of 0 6 None) (first 0x3D)
      (1 ∷ 0 ∷ 1 ∷ 1 ∷ 1 ∷ 1 ∷ [])
  pub xors : Comes (on_a (combine (pair xor) (lent 8) (two own B) ∷ [])) (1 ∷ 1 ∷ []) (mask_of 0 6 None) (first 0x0B)
      (1 ∷ 1 ∷ 0 ∷ 1 ∷ 0 ∷ 0 ∷ [])
  pub inverts : Comes (on_a (combine invert (lent 8) (one own) ∷ [])) (1 ∷ 1 ∷ []) (mask_of 0 6 None) (first 0x12)
      (0 ∷ 1 ∷ 0 ∷ 0 ∷ 1 ∷ 0 ∷ [])
  pub selects : Comes (on_a (combine select (lent 8) (three own B C) ∷ [])) (1 ∷ 1 ∷ []) (mask_of 0 6 None) (first 0x36)
      (0 ∷ 1 ∷ 1 ∷ 0 ∷ 1 ∷ 1 ∷ [])
  pub selects-constant : Comes (on_a (combine (select_constant true) (lent 8) (two B own) ∷ [])) (1 ∷ 1 ∷ []) (mask_of 0 6 None)
      (first 0x3D) (1 ∷ 0 ∷ 1 ∷ 1 ∷ 1 ∷ 1 ∷ [])
  pub grid_rows : Comes (on_grid (grid_row 3 2 2 ∷ [])) (1 ∷ 1 ∷ []) (mask_of 4 2 None) A (0 ∷ 1 ∷ [])
  pub grid_columns : Comes (on_grid (grid_column 3 2 1 (lent 8) own ∷ [])) (1 ∷ 1 ∷ []) (mask_of 0 3 None) (first 0x06) (0 ∷ 1 ∷ 1 ∷ [])
  pub grid_transposes : Comes (on_grid (grid_transpose 3 2 (lent 8) own ∷ [])) (1 ∷ 1 ∷ []) (mask_of 0 6 None) (first 0x33)
      (1 ∷ 1 ∷ 0 ∷ 0 ∷ 1 ∷ 1 ∷ [])
  -- row 1 of the columns of another mask, 0,1 and 1,0 and 0,1
  pub grid_other : Comes (on_grid (grid_transpose 3 2 (lent 8) B ∷ grid_row 2 3 1 ∷ [])) (1 ∷ 1 ∷ 1 ∷ []) (mask_of 3 3 None) (first 0x2A)
      (1 ∷ 0 ∷ 1 ∷ [])
  -- eight flags, so that the last run has one of its two
  pub run_ends_read : Comes (on_runs (from_run_ends six 8 (lent 8) own ∷ [])) (1 ∷ 1 ∷ []) (mask_of 0 8 None) (first 0xB9)
      (1 ∷ 0 ∷ 0 ∷ 1 ∷ 1 ∷ 1 ∷ 0 ∷ 1 ∷ [])
  pub run_ends_written : Comes (on_runs (to_run_ends 5 (lent 8) own ∷ [])) (1 ∷ 1 ∷ []) (mask_of 0 5 None) (first 0x15)
      (1 ∷ 0 ∷ 1 ∷ 0 ∷ 1 ∷ [])
  -- the runs of another mask's flags, read and written again: four of the six are left
  pub run_ends_other : Comes (on_runs (from_run_ends six 8 (lent 8) B ∷ to_run_ends 4 (lent 8) own ∷ [])) (1 ∷ 1 ∷ 1 ∷ [])
      (mask_of 0 4 None)
      (first 0x0A)
      (0 ∷ 1 ∷ 0 ∷ 1 ∷ [])
  -- no runs and no flags
  pub run_ends_none : Comes (on_runs (from_run_ends [] 0 [] (other (mask_of 0 0 None) []) ∷ to_run_ends 0 (lent 8) own ∷ []))
      (1 ∷ 1 ∷ 1 ∷ [])
      (mask_of 0 0 (Some 0)) (lent 8) []
  -- the history's own mask in both places, and a call on the result
  pub own-twice : Comes (on_a (combine (pair xor) (lent 8) (two own own) ∷ combine invert (lent 8) (one own) ∷ [])) (1 ∷ 1 ∷ 1 ∷ [])
      (mask_of 0 6 None) (first 0x3F) (1 ∷ 1 ∷ 1 ∷ 1 ∷ 1 ∷ 1 ∷ [])
  -- a new builder under serial 6: so is its mask
  pub under_serial : Comes (record { start = from_builder 6 (lent 8); calls = append (push_word 0x2D 6) ∷ freeze ∷ [] }) (1 ∷ 1 ∷ [])
      (mask_under 6 0 6 (Some 2)) (first 0x2D) (1 ∷ 0 ∷ 1 ∷ 1 ∷ 0 ∷ 1 ∷ [])
  -- an imported mask, its count true or unknown
  pub imports : Comes (record { start = from_mask (mask_of 2 4 (Some 1)) A; calls = make (masks unset_bits) ∷ [] }) (1 ∷ [])
      (mask_of 2 4 (Some 1)) A (1 ∷ 1 ∷ 0 ∷ 1 ∷ [])
  pub imports-uncounted : Comes (record { start = from_mask (mask_of 2 4 None) A; calls = make (masks (slice 1 2)) ∷ [] }) (1 ∷ [])
      (mask_of 3 2 None) A (1 ∷ 0 ∷ [])

-- ---- each kind of call that a history can have refused: the mask and the list are the same without it

-- a push of one set flag, an append that is refused, and `freeze`
abbrev pub RefusedAppend : Append → Type 0
RefusedAppend a = Comes (built (push_flag true ∷ a ∷ []) freeze) (1 ∷ 0 ∷ 1 ∷ []) (mask_of 0 1 (Some 0)) (first 0x01) (1 ∷ [])

-- a call on A that is refused
abbrev pub RefusedOnA : MaskCall → Type 0
RefusedOnA c = Comes (on_a (c ∷ [])) (1 ∷ 0 ∷ []) (mask_of 0 6 None) A (1 ∷ 0 ∷ 1 ∷ 1 ∷ 0 ∷ 1 ∷ [])

abbrev pub RefusedOnGrid : GridCall → Type 0
RefusedOnGrid c = Comes (on_grid (c ∷ [])) (1 ∷ 0 ∷ []) (mask_of 0 6 None) A (1 ∷ 0 ∷ 1 ∷ 1 ∷ 0 ∷ 1 ∷ [])

abbrev pub RefusedOnRuns : RunEndCall → Type 0
RefusedOnRuns c = Comes (on_runs (c ∷ [])) (1 ∷ 0 ∷ []) (mask_of 0 6 None) A (1 ∷ 0 ∷ 1 ∷ 1 ∷ 0 ∷ 1 ∷ [])

pub record RefusedKinds : Type 0 where
  -- 64 ones fill the eight bytes
  pub push : Comes (built (extend_constant 64 true ∷ push_flag false ∷ []) freeze) (1 ∷ 0 ∷ 1 ∷ []) (mask_of 0 64 (Some 0))
      (replicate 8 0xFF)
      (replicate 64 1)
  pub constant : RefusedAppend (extend_constant 64 true)
  -- a bit beyond the word's stated length
  pub push-word : RefusedAppend (push_word 2 1)
  -- a span past its bytes
  pub span : RefusedAppend (extend_slice A 2 7)
  pub repeats : RefusedAppend (extend_repeated A 0 8 8)
  -- a piece past its mask
  pub piece : RefusedAppend (extend_bitmap (mask_of 0 6 None) A 4 3)
  -- an index at the span's length
  pub gather : RefusedAppend (extend_gather A 0 6 (6 ∷ []))
  pub opt_gather : RefusedAppend (extend_opt_gather A 0 9 (0 ∷ []))
  -- a span past its bytes, then one inside them
  pub try-new : Comes (record { start = from_span; calls = try_new A 2 7 ∷ try_new A 2 4 ∷ [] }) (0 ∷ 1 ∷ []) (mask_of 2 4 None) A
      (1 ∷ 1 ∷ 0 ∷ 1 ∷ [])
  -- an imported mask with a stale count, or past its byte, is no start; a span after it is
  pub import_stale : Comes (record { start = from_mask (mask_of 0 6 (Some 3)) A; calls = try_new A 2 4 ∷ [] }) (1 ∷ []) (mask_of 2 4 None) A
      (1 ∷ 1 ∷ 0 ∷ 1 ∷ [])
  pub import_past : Comes (record { start = from_mask (mask_of 2 7 None) A; calls = make (masks unset_bits) ∷ try_new A 2 4 ∷ [] })
      (0 ∷ 1 ∷ []) (mask_of 2 4 None) A (1 ∷ 1 ∷ 0 ∷ 1 ∷ [])
  -- a stale count of another mask
  pub piece_stale : RefusedAppend (extend_bitmap (mask_of 0 6 (Some 3)) A 0 3)
  pub slices : RefusedOnA (slice 3 4)
  pub and_stale : RefusedOnA (combine (pair and) (lent 8) (two own (other (mask_of 0 6 (Some 0)) (0x33 ∷ []))))
  -- masks of different lengths, or an output of no bytes
  pub ands : RefusedOnA (combine (pair and) (lent 8) (two own five))
  pub and_nots : RefusedOnA (combine (pair and_not) [] (two own B))
  pub ors : RefusedOnA (combine (pair or) (lent 8) (two five own))
  pub or_nots : RefusedOnA (combine (pair or_not) [] (two B own))
  pub xors : RefusedOnA (combine (pair xor) (lent 8) (two own five))
  pub inverts : RefusedOnA (combine invert [] (one own))
  pub selects : RefusedOnA (combine select (lent 8) (three own B five))
  pub selects-constant : RefusedOnA (combine (select_constant true) [] (two B own))
  -- a row past the last, a column past the last, no such grid, an output of no bytes
  pub grid_rows : RefusedOnGrid (grid_row 3 2 3)
  pub grid_columns : RefusedOnGrid (grid_column 3 2 2 (lent 8) own)
  pub grid_transposes : RefusedOnGrid (grid_transpose 2 2 (lent 8) own)
  pub grid_short : RefusedOnGrid (grid_transpose 3 2 [] own)
  -- an end below 0, two equal ends, a last end below the length, a flag without an end, a place too few, an output of no bytes
  pub end_below : RefusedOnRuns (from_run_ends (negsuc 0 ∷ map pos (3 ∷ 4 ∷ 6 ∷ 7 ∷ 9 ∷ [])) 8 (lent 8) own)
  pub ends_equal : RefusedOnRuns (from_run_ends (map pos (1 ∷ 3 ∷ 3 ∷ 6 ∷ 7 ∷ 9 ∷ [])) 8 (lent 8) own)
  pub ends_short : RefusedOnRuns (from_run_ends six 10 (lent 8) own)
  pub ends_fewer : RefusedOnRuns (from_run_ends six 8 (lent 8) five)
  pub places_short : RefusedOnRuns (to_run_ends 4 (lent 8) own)
  pub values_short : RefusedOnRuns (to_run_ends 5 [] own)

-- ---- the other kinds are never refused: `freeze` and `into_opt_validity` of a builder in which a history ends; for `unset_bits` of a
-- mask in which one ends this is `counted` of `Agreement`

pub record NeverRefused {Code : Type 0} (call_of : Code → RowCall) : Type 0 where
  pub freezes : (h : History Code) (f : Filling) → end_of call_of h ≡ building f
      → (step call_of (building f) freeze).accepted ≡ true
  pub validity : (h : History Code) (f : Filling) → end_of call_of h ≡ building f
      → (step call_of (building f) into_opt_validity).accepted ≡ true

-- The table of histories (`proofs/tables/GoesOn.antt`) by computation, and the calls that a history never has refused.
use Rattle.std.specs.Prelude.{Option, Some, None}
use mathlib.Core.Path.{◌≡◌, refl, subst}
use mathlib.Core.Bool.{Bool, true, xor}
use mathlib.Core.List.{List, flat_map, map, zip, zip_with}
use Prim.Native.Nat.{ℕ, zero, suc}
use native.Mathlib.Omega.{arith}
use lib.ListN.{length}
use Rattle.words.specs.Counts.{any_set}
use Rattle.words.specs.Flags.{bits, copies, count, flags_of, is_one, over, window, word_of}
use Rattle.words.specs.Ops.{zip3}
use Rattle.masks.specs.equations.Answer.{decided, kept}
use Rattle.masks.specs.Appends.{all_below, constant_checks, gather_checks, gathered, inner_checks}
use Rattle.masks.specs.Appends.{repeated, span_grow_checks, subslice_checks, word_checks}
use Rattle.masks.specs.Builder.{Filling, appended, builder_checks, builder_flags, in_progress, possible}
use Rattle.masks.specs.Checks.{earlier, first_failed, rank, place_in, output_checks, span_checks}
use Rattle.masks.specs.Combine.{largest_serial, not_checks, pair_checks, pair_flags, pair_mask}
use Rattle.masks.specs.equations.Combine.{each_bytes, each_of, pair_bytes, pair_of}
use Rattle.masks.specs.Combine.{select_checks, shortcut}
use Rattle.masks.specs.Freeze.{freeze_checks, frozen_mask, frozen_over, validity_of}
use Rattle.masks.specs.equations.Freeze.{freeze_bytes}
use Rattle.masks.specs.Frozen.{frozen, over_from, packed}
use Rattle.masks.specs.Mask.{cut_zeros, kept_count, mask_checks, piece_checks, recounts}
use Rattle.masks.specs.Mask.{slice_checks, zero_count}
use Rattle.masks.specs.equations.Mask.{slice_of, try_new_of, unset_bits_of}
use Rattle.masks.specs.Utils.{zeros}
use Rattle.masks.specs.declared.bitmap.Bitmap.{Bitmap}
use Rattle.masks.specs.declared.builder.BitmapBuilder.{BitmapBuilder}
use Rattle.masks.proofs.theorems.Accepted.{builder-accepted}
use Rattle.masks.proofs.builder.FreezeLaws.{same-checks}
use Rattle.grids.specs.Columns.{column_checks}
use Rattle.grids.specs.Grid.{column_flags, grid_checks, concatenated, listing, transposed}
use Rattle.grids.specs.Rows.{row_checks}
use Rattle.grids.specs.Transpose.{transpose_checks}
use Rattle.grids.specs.equations.Columns.{grid_column_bytes, grid_column_of}
use Rattle.grids.specs.equations.Rows.{grid_row_of}
use Rattle.grids.specs.equations.Transpose.{grid_transpose_bytes, grid_transpose_of}
use Rattle.run_ends.specs.Read.{flags_from, read_checks}
use Rattle.run_ends.specs.Rules.{ends_hold, rising_to}
use Rattle.run_ends.specs.Write.{run_flags, write_checks}
use Rattle.run_ends.specs.equations.Read.{from_run_ends_bytes, from_run_ends_of}
use Rattle.run_ends.specs.equations.Write.{to_run_ends_bytes, to_run_ends_of}
use Rattle.histories.proofs.tables.GoesOn.{AcceptedKinds, Comes, NeverRefused, RefusedKinds}
use Rattle.histories.proofs.statements.History.{Fed, History, State, building, masked}
use Rattle.histories.proofs.statements.History.{after_freeze, after_validity, end_of, first_list, list_of, start_of, trace}
use Rattle.histories.proofs.statements.Library.{LibraryCall, library_call}
use Rattle.histories.proofs.statements.Owed.{Lawful}
use Rattle.histories.specs.Rows.{RowCall}
use Rattle.histories.proofs.history.HistoryLaws.{Builds, Holds}
use Rattle.histories.proofs.theorems.Histories.{library_lawful}
use Rattle.histories.proofs.theorems.HistoryTheorem.{run_holds, start-holds}

comes : {h : History LibraryCall} {accepted : List ℕ} {m : Bitmap} {bytes : List ℕ} {flags : List ℕ}
    → map (λ (f : Fed LibraryCall). f.accepted) (trace library_call (start_of h.start) h.calls) ≡ map is_one accepted
    → end_of library_call h ≡ masked m bytes → list_of library_call h ≡ map is_one flags → Comes h accepted m bytes flags
comes a e l = record { answers = a; comes = e; list = l }

-- ---- the table

pub accepted-kinds : AcceptedKinds
unfolding
    bits word_of flags_of count copies window over any_set zip zip3 zip_with flat_map xor
    first_failed earlier rank place_in span_checks output_checks decided kept
    mask_checks try_new_of unset_bits_of zero_count zeros slice_of slice_checks piece_checks cut_zeros recounts kept_count
    packed frozen over_from in_progress appended builder_flags possible builder_checks
    constant_checks word_checks span_grow_checks inner_checks subslice_checks gather_checks all_below gathered repeated frozen_over
    pair_of pair_bytes pair_checks pair_flags pair_mask shortcut each_of each_bytes largest_serial not_checks select_checks
    grid_checks grid_row_of row_checks grid_column_of grid_column_bytes column_checks column_flags
    grid_transpose_of grid_transpose_bytes transpose_checks transposed listing concatenated
    from_run_ends_of from_run_ends_bytes read_checks ends_hold rising_to flags_from
    to_run_ends_of to_run_ends_bytes write_checks run_flags
accepted-kinds =
    record {
      push = comes refl refl refl;
      constant = comes refl refl refl;
      push-word = comes refl refl refl;
      span = comes refl refl refl;
      repeats = comes refl refl refl;
      piece = comes refl refl refl;
      gather = comes refl refl refl;
      opt_gather = comes refl refl refl;
      freezes = comes refl refl refl;
      validity = comes refl refl refl;
      no-validity = refl;
      try-new = comes refl refl refl;
      slices = comes refl refl refl;
      counts = comes refl refl refl;
      ands = comes refl refl refl;
      and_nots = comes refl refl refl;
      ors = comes refl refl refl;
      or_nots = comes refl refl refl;
      xors = comes refl refl refl;
      inverts = comes refl refl refl;
      selects = comes refl refl refl;
      selects-constant = comes refl refl refl;
      grid_rows = comes refl refl refl;
      grid_columns = comes refl refl refl;
      grid_transposes = comes refl refl refl;
      grid_other = comes refl refl refl;
      run_ends_read = comes refl refl refl;
      run_ends_written = comes refl refl refl;
      run_ends_other = comes refl refl refl;
      run_ends_none = comes refl refl refl;
      own-twice = comes refl refl refl;
      under_serial = comes refl refl refl;
      imports = comes refl refl refl;
      imports-uncounted = comes refl refl refl;
    }

pub refused-kinds : RefusedKinds
unfolding
    bits word_of flags_of count copies window over any_set zip zip3 zip_with flat_map xor
    first_failed earlier rank place_in span_checks output_checks decided kept
    mask_checks try_new_of unset_bits_of zero_count zeros slice_of slice_checks piece_checks cut_zeros recounts kept_count
    packed frozen over_from in_progress appended builder_flags possible builder_checks
    constant_checks word_checks span_grow_checks inner_checks subslice_checks gather_checks all_below gathered repeated frozen_over
    pair_of pair_bytes pair_checks pair_flags pair_mask shortcut each_of each_bytes largest_serial not_checks select_checks
    grid_checks grid_row_of row_checks grid_column_of grid_column_bytes column_checks column_flags
    grid_transpose_of grid_transpose_bytes transpose_checks transposed listing concatenated
    from_run_ends_of from_run_ends_bytes read_checks ends_hold rising_to flags_from
    to_run_ends_of to_run_ends_bytes write_checks run_flags
refused-kinds =
    record {
      push = comes refl refl refl;
      constant = comes refl refl refl;
      push-word = comes refl refl refl;
      span = comes refl refl refl;
      repeats = comes refl refl refl;
      piece = comes refl refl refl;
      gather = comes refl refl refl;
      opt_gather = comes refl refl refl;
      try-new = comes refl refl refl;
      import_stale = comes refl refl refl;
      import_past = comes refl refl refl;
      piece_stale = comes refl refl refl;
      slices = comes refl refl refl;
      and_stale = comes refl refl refl;
      ands = comes refl refl refl;
      and_nots = comes refl refl refl;
      ors = comes refl refl refl;
      or_nots = comes refl refl refl;
      xors = comes refl refl refl;
      inverts = comes refl refl refl;
      selects = comes refl refl refl;
      selects-constant = comes refl refl refl;
      grid_rows = comes refl refl refl;
      grid_columns = comes refl refl refl;
      grid_transposes = comes refl refl refl;
      grid_short = comes refl refl refl;
      end_below = comes refl refl refl;
      ends_equal = comes refl refl refl;
      ends_short = comes refl refl refl;
      ends_fewer = comes refl refl refl;
      places_short = comes refl refl refl;
      values_short = comes refl refl refl;
    }

-- ---- calls that a history never has refused

passes : (f : Filling) (l : List Bool) → Builds f l → 0 ≡ first_failed (freeze_checks f.builder (length f.bytes))
passes f l i = same-checks f.builder (length f.bytes) 0 (builder-accepted f.builder 0 (length f.bytes) i.room)

frozen-accepted : (k : ℕ) (b : BitmapBuilder) (m : Bitmap) (bytes : List ℕ) → 0 ≡ k → (after_freeze bytes (decided k b m)).accepted ≡ true
unfolding decided
frozen-accepted zero b m bytes e = refl
frozen-accepted (suc k) b m bytes e = absurd (omega arith)

validity-accepted : (k : ℕ) (b : BitmapBuilder) (v : Option Bitmap) (bytes : List ℕ) → 0 ≡ k
    → (after_validity bytes (decided k b v)).accepted ≡ true
unfolding decided
validity-accepted zero b None bytes e = refl
validity-accepted zero b (Some m) bytes e = refl
validity-accepted (suc k) b v bytes e = absurd (omega arith)

module _ {Code : Type 0} (call_of : Code → RowCall) (lawful : (c : Code) → Lawful (call_of c)) where
  builds : (h : History Code) (f : Filling) → end_of call_of h ≡ building f → Builds f (list_of call_of h)
  builds h f e =
      subst (λ (s : State). Holds s (list_of call_of h)) e
      (run_holds call_of lawful h.calls (start_of h.start) (first_list h.start) (start-holds h.start))

  pub never-refused : NeverRefused call_of
  never-refused =
      record {
        freezes = λ h f e.
            frozen-accepted (first_failed (freeze_checks f.builder (length f.bytes))) f.builder (frozen_mask f.builder)
            (freeze_bytes f.builder f.bytes) (passes f (list_of call_of h) (builds h f e));
        validity = λ h f e.
            validity-accepted (first_failed (freeze_checks f.builder (length f.bytes))) f.builder (validity_of f.builder)
            (freeze_bytes f.builder f.bytes) (passes f (list_of call_of h) (builds h f e));
      }

pub library_never-refused : NeverRefused library_call
library_never-refused = never-refused library_call library_lawful

-- By which numbers each export may refuse, and what it then returns unchanged.
--
-- There is a field for each export that returns a refusal's number or 0, stated with the definition that its contract cites; the numbers
-- listed are those that the header has for it. Exports that are not here return no such number: `pw_load_padded_le_u64`,
-- `pw_merge_reversed`, `pw_builder_new`, `pw_bitmap_new` and `pw_interface_4`.
use Rattle.std.specs.Prelude.{ℕ, ℤ, ◌≡◌, Bool, true, false, List, [], ◌∷◌, length}
use Rattle.words.specs.Ends.{leading, trailing}
use Rattle.words.specs.Flags.{bits}
use Rattle.words.specs.Loops.{stretch}
use Rattle.words.specs.Nth.{nth_one}
use Rattle.words.specs.declared.ops.Op.{Op}
use Rattle.masks.specs.equations.Aligned.{aligned_of}
use Rattle.masks.specs.equations.Appends.{Append, push_flag, extend_constant, push_word, extend_slice, extend_repeated}
use Rattle.masks.specs.equations.Appends.{extend_bitmap, extend_gather, extend_opt_gather, append_answer, append_bytes}
use Rattle.masks.specs.equations.Bitmask.{window_at}
use Rattle.masks.specs.equations.Bitmask.{split_at}
use Rattle.masks.specs.Chunks.{chunks_at}
use Rattle.masks.specs.equations.Chunks.{new_chunks, next_chunk, chunks_remainder}
use Rattle.masks.specs.equations.AtIndex.{and_not_at_of}
use Rattle.masks.specs.Combine.{And, AndNot, Or, OrNot, Xor}
use Rattle.masks.specs.equations.Combine.{pair_of, pair_bytes, not_of, not_bytes}
use Rattle.masks.specs.equations.Combine.{select_of, select_bytes, select_constant_of, select_constant_bytes}
use Rattle.masks.specs.equations.Compare.{eq_of, edges_of, common_of}
use Rattle.masks.specs.equations.Freeze.{freeze_of, into_opt_validity_of, freeze_bytes}
use Rattle.masks.specs.Iterator.{iter_at}
use Rattle.masks.specs.equations.Iterator.{new_iter, nth_flag, take_leading}
use Rattle.masks.specs.equations.Mask.{try_new_of, new_zeroed_of, new_zeroed_bytes, unset_bits_of, slice_of}
use Rattle.masks.specs.equations.NextAndNot.{next_and_not_of}
use Rattle.masks.specs.equations.Positions.{next_positions, positions_over}
use Rattle.masks.proofs.statements.Refusals.{among, all_among}
use Rattle.masks.specs.equations.Search.{search_from, search_back}
use Rattle.masks.specs.SliceIterator.{slices_at}
use Rattle.masks.specs.equations.SliceIterator.{new_slices, next_slice}
use Rattle.masks.specs.equations.Superseding.{superseding_of}
use Rattle.masks.specs.equations.TrueIdx.{new_true, next_true}
use Rattle.masks.specs.Utils.{zeros}
use Rattle.masks.specs.equations.Utils.{span_count}
use Rattle.grids.specs.equations.Columns.{grid_column_bytes, grid_column_of, grid_column_zeros_of, grid_column_zeros_over}
use Rattle.grids.specs.equations.Rows.{grid_row_of, grid_row_zeros_of, grid_row_zeros_over}
use Rattle.grids.specs.equations.Transpose.{grid_transpose_bytes, grid_transpose_of}
use Rattle.run_ends.specs.equations.Read.{from_run_ends_bytes, from_run_ends_of}
use Rattle.run_ends.specs.equations.Write.{to_run_ends_bytes, to_run_ends_ends, to_run_ends_of}
use Rattle.dispatch.specs.equations.Reassign.{may_reassign}
use Rattle.dispatch.specs.equations.Offer.{offer_of}
use Rattle.activity.specs.Window.{new_of, push_of, counts_of}
use Rattle.capi.specs.Answers.{as_bit, as_builder, as_cursor, as_flag, as_mask, as_next, as_nth, as_number, as_offer, as_position}
use Rattle.capi.specs.Answers.{as_remainder, as_run, as_same_mask, as_part, as_spans, as_split, as_taken, as_validity, as_word, as_zeros}
use Rattle.capi.specs.Records.{builder_in, chunks_out, chunks_place, iter_out, iter_place, mask_in, optional_in, slices_out, slices_place}
use Rattle.capi.specs.Records.{serial_builder_in, true_in, true_out, true_place}
use Rattle.capi.specs.Window.{as_window, unless_refused, window_in}
use Rattle.capi.specs.declared.records.Builder.{Builder}
use Rattle.capi.specs.declared.records.Mask.{Mask}

-- ---- the statements on an export

-- the numbers by which a call may refuse
abbrev pub numbers : List ℕ
numbers = 1 ∷ 2 ∷ 3 ∷ 4 ∷ 5 ∷ 6 ∷ 7 ∷ 8 ∷ 9 ∷ 12 ∷ 13 ∷ 14 ∷ 16 ∷ []

-- the number k that is returned is 0 or one of ns. That it is the number of the call's own answer, 0 only if that is accepted, is stated
-- in `AnswerPlain` and `StepPlain` for each record in which an answer is returned.
pub record Gives (ns : List ℕ) (k : ℕ) : Type 0 where
  pub listed : all_among ns numbers ≡ true
  pub number : (k ≡ 0 → ⊥) → among k ns ≡ true

-- in addition, if k is not 0, what was passed is unchanged: a record, a cursor's place, the elements of a buffer
pub record GivesBack {A : Type 0} (ns : List ℕ) (k : ℕ) (came back : A) : Type 0 where
  pub gives : Gives ns k
  pub same : (k ≡ 0 → ⊥) → back ≡ came

-- in addition, if k is not 0, a buffer is unchanged: beside a record or a place that is returned unchanged, or beside another buffer
pub record GivesBoth {A : Type 0} (ns : List ℕ) (k : ℕ) (came back : A) (before after : List ℕ) : Type 0 where
  pub gives : GivesBack ns k came back
  pub unwritten : (k ≡ 0 → ⊥) → after ≡ before

-- the record of a builder that was passed as its numbers
abbrev pub builder_of : ℕ → ℕ → ℕ → Builder
builder_of n word ones = record { length = n; word = word; ones = ones }

-- an append to the builder of these numbers
abbrev pub Appends : List ℕ → Append → ℕ → ℕ → ℕ → List ℕ → Type 0
Appends ns a n word ones buf = let r = as_builder (append_answer a (builder_in n word ones) buf) in
    GivesBoth ns r.refusal (builder_of n word ones) r.builder buf (append_bytes a (builder_in n word ones) buf)

-- a combination of two masks
abbrev pub Combines : List ℕ → Op → Mask → List ℕ → Mask → List ℕ → List ℕ → Type 0
Combines ns op a a_bytes b b_bytes out =
    GivesBack ns (as_mask (pair_of op (mask_in a) a_bytes (mask_in b) b_bytes out)).refusal
    out (pair_bytes op (mask_in a) a_bytes (mask_in b) b_bytes out)

-- a count over a span
abbrev pub Counts : List ℕ → (List Bool → ℕ) → List ℕ → ℕ → ℕ → ℕ → Type 0
Counts ns count bytes start n address = Gives ns (as_number (span_count bytes start n address (count (stretch bytes start n)))).refusal

-- ---- the exports

pub record Refusals : Type 0 where
  -- words
  pub pw_nth_set_bit_u64 : (w n : ℕ) → Gives [] (as_nth (nth_one (bits 64 w) n)).refusal
  pub pw_nth_set_bit_u32 : (w n : ℕ) → Gives [] (as_nth (nth_one (bits 32 w) n)).refusal
  -- spans
  pub pw_aligned_new : (bytes : List ℕ) (start n address : ℕ)
      → Gives (1 ∷ 2 ∷ 8 ∷ []) (as_split (aligned_of bytes start n address)).refusal
  pub pw_count_zeros : (bytes : List ℕ) (start n address : ℕ) → Counts (1 ∷ 2 ∷ 8 ∷ []) zeros bytes start n address
  pub pw_leading_zeros : (bytes : List ℕ) (start n address : ℕ) → Counts (1 ∷ 2 ∷ 8 ∷ []) (leading false) bytes start n address
  pub pw_leading_ones : (bytes : List ℕ) (start n address : ℕ) → Counts (1 ∷ 2 ∷ 8 ∷ []) (leading true) bytes start n address
  pub pw_trailing_zeros : (bytes : List ℕ) (start n address : ℕ) → Counts (1 ∷ 2 ∷ 8 ∷ []) (trailing false) bytes start n address
  pub pw_trailing_ones : (bytes : List ℕ) (start n address : ℕ) → Counts (1 ∷ 2 ∷ 8 ∷ []) (trailing true) bytes start n address
  pub pw_split_at_unchecked : (bytes : List ℕ) (start n at : ℕ) → Gives (1 ∷ 2 ∷ 6 ∷ []) (as_spans (split_at bytes start n at)).refusal
  pub pw_get_u32 : (bytes : List ℕ) (start n index : ℕ) → Gives (1 ∷ 2 ∷ []) (as_number (window_at bytes start n index)).refusal
  pub pw_nth_set_bit_idx : (bytes : List ℕ) (start n k from : ℕ)
      → Gives (1 ∷ 2 ∷ []) (as_position (search_from bytes start n k from)).refusal
  pub pw_nth_set_bit_idx_rev : (bytes : List ℕ) (start n k end : ℕ)
      → Gives (1 ∷ 2 ∷ []) (as_position (search_back bytes start n k end)).refusal
  -- the words of a span
  pub pw_chunks_new : (bytes : List ℕ) (start n : ℕ) → Gives (1 ∷ 2 ∷ []) (as_cursor chunks_out (new_chunks bytes start n)).refusal
  pub pw_chunks_new_exact : (bytes : List ℕ) (n : ℕ) → Gives (1 ∷ 2 ∷ []) (as_cursor chunks_out (new_chunks bytes 0 n)).refusal
  pub pw_chunks_next : (start n place : ℕ) (bytes : List ℕ) → let r = as_word chunks_place (next_chunk (chunks_at start n place) bytes) in
      GivesBack (1 ∷ 2 ∷ 6 ∷ []) r.refusal place r.place
  pub pw_chunks_remainder : (start n place : ℕ) (bytes : List ℕ)
      → let r = as_remainder place (chunks_remainder (chunks_at start n place) bytes) in
      GivesBack (1 ∷ 2 ∷ 6 ∷ []) r.refusal place r.place
  -- the builder
  pub pw_push : (n word ones : ℕ) (buf : List ℕ) (x : Bool)
      → Appends (1 ∷ 4 ∷ 9 ∷ []) (push_flag x) n word ones buf
  pub pw_extend_constant : (n word ones : ℕ) (buf : List ℕ) (m : ℕ) (x : Bool)
      → Appends (1 ∷ 4 ∷ 9 ∷ []) (extend_constant m x) n word ones buf
  pub pw_push_word_with_len_unchecked : (n word ones : ℕ) (buf : List ℕ) (flags m : ℕ)
      → Appends (1 ∷ 4 ∷ 6 ∷ 9 ∷ []) (push_word flags m) n word ones buf
  pub pw_extend_from_slice : (n word ones : ℕ) (buf : List ℕ) (bytes : List ℕ) (start m : ℕ)
      → Appends (1 ∷ 2 ∷ 4 ∷ 9 ∷ []) (extend_slice bytes start m) n word ones buf
  pub pw_extend_each_repeated_from_slice_unchecked : (n word ones : ℕ) (buf : List ℕ) (bytes : List ℕ) (start m repeats : ℕ)
      → Appends (1 ∷ 2 ∷ 4 ∷ 9 ∷ []) (extend_repeated bytes start m repeats) n word ones buf
  pub pw_subslice_extend_from_bitmap : (n word ones : ℕ) (buf : List ℕ) (mask : Mask) (bytes : List ℕ) (start m : ℕ)
      → Appends (1 ∷ 2 ∷ 3 ∷ 4 ∷ 6 ∷ 9 ∷ []) (extend_bitmap (mask_in mask) bytes start m) n word ones buf
  pub pw_gather_extend_from_slice : (n word ones : ℕ) (buf : List ℕ) (bytes : List ℕ) (start m : ℕ) (idxs : List ℕ)
      → Appends (1 ∷ 2 ∷ 4 ∷ 6 ∷ 9 ∷ []) (extend_gather bytes start m idxs) n word ones buf
  pub pw_opt_gather_extend_from_slice : (n word ones : ℕ) (buf : List ℕ) (bytes : List ℕ) (start m : ℕ) (idxs : List ℕ)
      → Appends (1 ∷ 2 ∷ 4 ∷ 9 ∷ []) (extend_opt_gather bytes start m idxs) n word ones buf
  pub pw_freeze : (n word ones : ℕ) (buf : List ℕ) (serial : ℕ) → let b = serial_builder_in n word ones serial in
      GivesBack (1 ∷ 4 ∷ 9 ∷ []) (as_mask (freeze_of b buf)).refusal buf (freeze_bytes b buf)
  pub pw_into_opt_validity : (n word ones : ℕ) (buf : List ℕ) (serial : ℕ) → let b = serial_builder_in n word ones serial in
      GivesBack (1 ∷ 4 ∷ 9 ∷ []) (as_validity (into_opt_validity_of b buf)).refusal buf (freeze_bytes b buf)
  -- the mask
  pub pw_new_zeroed : (n : ℕ) (out : List ℕ) → GivesBack (1 ∷ 9 ∷ []) (as_mask (new_zeroed_of n out)).refusal out (new_zeroed_bytes n out)
  pub pw_try_new : (bytes : List ℕ) (start n : ℕ) → Gives (1 ∷ 2 ∷ []) (as_mask (try_new_of bytes start n)).refusal
  pub pw_slice : (m : Mask) (bytes : List ℕ) (offset n : ℕ) → let r = as_same_mask m (slice_of (mask_in m) bytes offset n) in
      GivesBack (1 ∷ 2 ∷ 3 ∷ 6 ∷ 7 ∷ []) r.refusal m r.mask
  pub pw_unset_bits : (m : Mask) (bytes : List ℕ) → let r = as_zeros m (unset_bits_of (mask_in m) bytes) in
      GivesBack (1 ∷ 2 ∷ 3 ∷ []) r.refusal m r.mask
  pub pw_eq : (a : Mask) (a_bytes : List ℕ) (b : Mask) (b_bytes : List ℕ)
      → Gives (1 ∷ 2 ∷ 3 ∷ []) (as_flag (eq_of (mask_in a) a_bytes (mask_in b) b_bytes)).refusal
  pub pw_num_edges : (m : Mask) (bytes : List ℕ) → Gives (1 ∷ 2 ∷ 3 ∷ []) (as_number (edges_of (mask_in m) bytes)).refusal
  pub pw_num_intersections_with : (a : Mask) (a_bytes : List ℕ) (b : Mask) (b_bytes : List ℕ)
      → Gives (1 ∷ 2 ∷ 3 ∷ 5 ∷ []) (as_number (common_of (mask_in a) a_bytes (mask_in b) b_bytes)).refusal
  pub pw_superseding : (a : Mask) (a_bytes : List ℕ) (b : Mask) (b_bytes : List ℕ)
      → Gives (1 ∷ 2 ∷ 3 ∷ 14 ∷ []) (as_part (superseding_of (mask_in a) a_bytes (mask_in b) b_bytes)).refusal
  -- combinations
  pub pw_and : (a : Mask) (a_bytes : List ℕ) (b : Mask) (b_bytes out : List ℕ)
      → Combines (1 ∷ 2 ∷ 3 ∷ 5 ∷ 9 ∷ []) And a a_bytes b b_bytes out
  pub pw_and_not : (a : Mask) (a_bytes : List ℕ) (b : Mask) (b_bytes out : List ℕ)
      → Combines (1 ∷ 2 ∷ 3 ∷ 5 ∷ 9 ∷ []) AndNot a a_bytes b b_bytes out
  pub pw_or : (a : Mask) (a_bytes : List ℕ) (b : Mask) (b_bytes out : List ℕ) → Combines (1 ∷ 2 ∷ 3 ∷ 5 ∷ 9 ∷ []) Or a a_bytes b b_bytes out
  pub pw_or_not : (a : Mask) (a_bytes : List ℕ) (b : Mask) (b_bytes out : List ℕ)
      → Combines (1 ∷ 2 ∷ 3 ∷ 5 ∷ 9 ∷ []) OrNot a a_bytes b b_bytes out
  pub pw_xor : (a : Mask) (a_bytes : List ℕ) (b : Mask) (b_bytes out : List ℕ)
      → Combines (1 ∷ 2 ∷ 3 ∷ 5 ∷ 9 ∷ []) Xor a a_bytes b b_bytes out
  pub pw_not : (m : Mask) (bytes out : List ℕ)
      → GivesBack (1 ∷ 2 ∷ 3 ∷ 9 ∷ []) (as_mask (not_of (mask_in m) bytes out)).refusal out (not_bytes (mask_in m) bytes out)
  pub pw_select : (s : Mask) (s_bytes : List ℕ) (t : Mask) (t_bytes : List ℕ) (f : Mask) (f_bytes out : List ℕ)
      → GivesBack (1 ∷ 2 ∷ 3 ∷ 5 ∷ 9 ∷ []) (as_mask (select_of (mask_in s) s_bytes (mask_in t) t_bytes (mask_in f) f_bytes out)).refusal
      out (select_bytes (mask_in s) s_bytes (mask_in t) t_bytes (mask_in f) f_bytes out)
  pub pw_select_constant : (s : Mask) (s_bytes : List ℕ) (t : Mask) (t_bytes : List ℕ) (x : Bool) (out : List ℕ)
      → GivesBack (1 ∷ 2 ∷ 3 ∷ 5 ∷ 9 ∷ []) (as_mask (select_constant_of (mask_in s) s_bytes (mask_in t) t_bytes x out)).refusal
      out (select_constant_bytes (mask_in s) s_bytes (mask_in t) t_bytes x out)
  -- grids
  pub pw_grid_row : (m : Mask) (bytes : List ℕ) (rows columns row : ℕ)
      → let r = as_same_mask m (grid_row_of (mask_in m) bytes rows columns row) in
      GivesBack (1 ∷ 2 ∷ 3 ∷ 12 ∷ 6 ∷ 7 ∷ []) r.refusal m r.mask
  pub pw_grid_column : (m : Mask) (bytes : List ℕ) (rows columns column : ℕ) (out : List ℕ)
      → GivesBack (1 ∷ 2 ∷ 3 ∷ 12 ∷ 6 ∷ 9 ∷ []) (as_mask (grid_column_of (mask_in m) bytes rows columns column (length out))).refusal
      out (grid_column_bytes (mask_in m) bytes rows columns column out)
  pub pw_grid_transpose : (m : Mask) (bytes : List ℕ) (rows columns : ℕ) (out : List ℕ)
      → GivesBack (1 ∷ 2 ∷ 3 ∷ 12 ∷ 9 ∷ []) (as_mask (grid_transpose_of (mask_in m) bytes rows columns (length out))).refusal
      out (grid_transpose_bytes (mask_in m) bytes rows columns out)
  pub pw_grid_row_zeros : (m : Mask) (bytes : List ℕ) (rows columns : ℕ) (counts : List ℕ)
      → GivesBack (1 ∷ 2 ∷ 3 ∷ 12 ∷ 9 ∷ []) (as_number (grid_row_zeros_of (mask_in m) bytes rows columns (length counts))).refusal
      counts (grid_row_zeros_over (mask_in m) bytes rows columns counts)
  pub pw_grid_column_zeros : (m : Mask) (bytes : List ℕ) (rows columns : ℕ) (counts : List ℕ)
      → GivesBack (1 ∷ 2 ∷ 3 ∷ 12 ∷ 9 ∷ []) (as_number (grid_column_zeros_of (mask_in m) bytes rows columns (length counts))).refusal
      counts (grid_column_zeros_over (mask_in m) bytes rows columns counts)
  -- run ends
  pub pw_from_run_ends : (ends : List ℤ) (v : Mask) (bytes : List ℕ) (n : ℕ) (out : List ℕ)
      → GivesBack (1 ∷ 2 ∷ 13 ∷ 3 ∷ 9 ∷ []) (as_mask (from_run_ends_of ends (mask_in v) bytes n (length out))).refusal
      out (from_run_ends_bytes ends (mask_in v) bytes n out)
  pub pw_to_run_ends : (m : Mask) (bytes : List ℕ) (ends : List ℤ) (out : List ℕ)
      → GivesBoth (1 ∷ 2 ∷ 3 ∷ 9 ∷ []) (as_mask (to_run_ends_of (mask_in m) bytes (length ends) (length out))).refusal
      ends (to_run_ends_ends (mask_in m) bytes (length out) ends) out (to_run_ends_bytes (mask_in m) bytes (length ends) out)
  -- cursors
  pub pw_slices_new : (m : Mask) (bytes : List ℕ) → Gives (1 ∷ 2 ∷ 3 ∷ []) (as_cursor slices_out (new_slices (mask_in m) bytes)).refusal
  pub pw_slices_next : (start n place : ℕ) (bytes : List ℕ) → let r = as_run slices_place (next_slice (slices_at start n place) bytes) in
      GivesBack (1 ∷ 2 ∷ 6 ∷ []) r.refusal place r.place
  pub pw_iter_new : (bytes : List ℕ) (start n : ℕ) → Gives (1 ∷ 2 ∷ []) (as_cursor iter_out (new_iter bytes start n)).refusal
  pub pw_iter_next : (start n place : ℕ) (bytes : List ℕ) → let r = as_bit iter_place (nth_flag (iter_at start n place) bytes 0) in
      GivesBack (1 ∷ 2 ∷ 6 ∷ []) r.refusal place r.place
  pub pw_iter_nth : (start n place : ℕ) (bytes : List ℕ) (k : ℕ) → let r = as_bit iter_place (nth_flag (iter_at start n place) bytes k) in
      GivesBack (1 ∷ 2 ∷ 6 ∷ []) r.refusal place r.place
  pub pw_take_leading_ones : (start n place : ℕ) (bytes : List ℕ)
      → let r = as_taken iter_place (take_leading true (iter_at start n place) bytes) in
      GivesBack (1 ∷ 2 ∷ 6 ∷ []) r.refusal place r.place
  pub pw_take_leading_zeros : (start n place : ℕ) (bytes : List ℕ)
      → let r = as_taken iter_place (take_leading false (iter_at start n place) bytes) in
      GivesBack (1 ∷ 2 ∷ 6 ∷ []) r.refusal place r.place
  -- with a mask, and with none
  pub pw_true_idx_new : (n : ℕ) (m : Mask) (bytes : List ℕ)
      → Gives (1 ∷ 2 ∷ 3 ∷ 5 ∷ []) (as_cursor true_out (new_true n (optional_in true m) bytes)).refusal
  pub absent-true_idx_new : (n : ℕ) (m : Mask) (bytes : List ℕ)
      → Gives (1 ∷ []) (as_cursor true_out (new_true n (optional_in false m) bytes)).refusal
  -- with a mask, if `masked` is not 0, and with none
  pub pw_true_idx_next : (start n place masked : ℕ) (bytes : List ℕ) → (masked ≡ 0 → ⊥)
      → let r = as_word true_place (next_true (true_in start n place masked) bytes) in GivesBack (1 ∷ 2 ∷ 6 ∷ []) r.refusal place r.place
  pub absent-true_idx_next : (start n place : ℕ) (bytes : List ℕ)
      → let r = as_word true_place (next_true (true_in start n place 0) bytes) in GivesBack (1 ∷ 6 ∷ []) r.refusal place r.place
  pub pw_true_idx_next_chunk : (start n place masked : ℕ) (bytes out : List ℕ) → (masked ≡ 0 → ⊥) → let c = true_in start n place masked in
      let r = as_taken true_place (next_positions c bytes (length out)) in
      GivesBoth (1 ∷ 2 ∷ 6 ∷ []) r.refusal place r.place out (positions_over c bytes out)
  pub absent-true_idx_next-chunk : (start n place : ℕ) (bytes out : List ℕ) → let c = true_in start n place 0 in
      let r = as_taken true_place (next_positions c bytes (length out)) in
      GivesBoth (1 ∷ 6 ∷ []) r.refusal place r.place out (positions_over c bytes out)
  -- `and_not` at one index: with both masks, with one, with none
  pub pw_and_not_at : (p : Mask) (p_bytes : List ℕ) (q : Mask) (q_bytes : List ℕ) (i : ℕ)
      → Gives (1 ∷ 2 ∷ 3 ∷ 5 ∷ 6 ∷ []) (as_flag (and_not_at_of (optional_in true p) p_bytes (optional_in true q) q_bytes i)).refusal
  pub no_second : (p : Mask) (p_bytes : List ℕ) (q : Mask) (q_bytes : List ℕ) (i : ℕ)
      → Gives (1 ∷ 2 ∷ 3 ∷ 6 ∷ []) (as_flag (and_not_at_of (optional_in true p) p_bytes (optional_in false q) q_bytes i)).refusal
  pub no-first : (p : Mask) (p_bytes : List ℕ) (q : Mask) (q_bytes : List ℕ) (i : ℕ)
      → Gives (1 ∷ 2 ∷ 3 ∷ 6 ∷ []) (as_flag (and_not_at_of (optional_in false p) p_bytes (optional_in true q) q_bytes i)).refusal
  pub no-first-no-second : (p : Mask) (p_bytes : List ℕ) (q : Mask) (q_bytes : List ℕ) (i : ℕ)
      → Gives [] (as_flag (and_not_at_of (optional_in false p) p_bytes (optional_in false q) q_bytes i)).refusal
  -- the search by windows: with both masks, with only the first
  pub pw_next_and_not : (p : Mask) (p_bytes : List ℕ) (q : Mask) (q_bytes : List ℕ) (from : ℕ)
      → Gives (1 ∷ 2 ∷ 3 ∷ 5 ∷ 6 ∷ []) (as_next (next_and_not_of (mask_in p) p_bytes (optional_in true q) q_bytes from)).refusal
  pub next-and-not-alone : (p : Mask) (p_bytes : List ℕ) (q : Mask) (q_bytes : List ℕ) (from : ℕ)
      → Gives (1 ∷ 2 ∷ 3 ∷ 6 ∷ []) (as_next (next_and_not_of (mask_in p) p_bytes (optional_in false q) q_bytes from)).refusal
  -- dispatch: with both masks, with one, with none
  pub pw_may_reassign : (p : Mask) (p_bytes : List ℕ) (q : Mask) (q_bytes : List ℕ) (truck : ℕ)
      → Gives (1 ∷ 2 ∷ 3 ∷ 5 ∷ 6 ∷ []) (as_flag (may_reassign (optional_in true p) p_bytes (optional_in true q) q_bytes truck)).refusal
  pub no-revocation : (p : Mask) (p_bytes : List ℕ) (q : Mask) (q_bytes : List ℕ) (truck : ℕ)
      → Gives (1 ∷ 2 ∷ 3 ∷ 6 ∷ []) (as_flag (may_reassign (optional_in true p) p_bytes (optional_in false q) q_bytes truck)).refusal
  pub no-permission : (p : Mask) (p_bytes : List ℕ) (q : Mask) (q_bytes : List ℕ) (truck : ℕ)
      → Gives (1 ∷ 2 ∷ 3 ∷ 6 ∷ []) (as_flag (may_reassign (optional_in false p) p_bytes (optional_in true q) q_bytes truck)).refusal
  pub neither : (p : Mask) (p_bytes : List ℕ) (q : Mask) (q_bytes : List ℕ) (truck : ℕ)
      → Gives [] (as_flag (may_reassign (optional_in false p) p_bytes (optional_in false q) q_bytes truck)).refusal
  -- an offer, whose cursor is returned unchanged: with both masks, with one, with none
  pub pw_offer : (p : Mask) (p_bytes : List ℕ) (q : Mask) (q_bytes : List ℕ) (cursor : ℕ)
      → let r = as_offer (offer_of (optional_in true p) p_bytes (optional_in true q) q_bytes cursor) in
      GivesBack (1 ∷ 2 ∷ 3 ∷ 5 ∷ 6 ∷ []) r.refusal cursor r.cursor
  pub offer-no-revocation : (p : Mask) (p_bytes : List ℕ) (q : Mask) (q_bytes : List ℕ) (cursor : ℕ)
      → let r = as_offer (offer_of (optional_in true p) p_bytes (optional_in false q) q_bytes cursor) in
      GivesBack (1 ∷ 2 ∷ 3 ∷ 6 ∷ []) r.refusal cursor r.cursor
  pub offer-no-permission : (p : Mask) (p_bytes : List ℕ) (q : Mask) (q_bytes : List ℕ) (cursor : ℕ)
      → let r = as_offer (offer_of (optional_in false p) p_bytes (optional_in true q) q_bytes cursor) in
      GivesBack (1 ∷ 2 ∷ 3 ∷ []) r.refusal cursor r.cursor
  pub offer-neither : (p : Mask) (p_bytes : List ℕ) (q : Mask) (q_bytes : List ℕ) (cursor : ℕ)
      → let r = as_offer (offer_of (optional_in false p) p_bytes (optional_in false q) q_bytes cursor) in
      GivesBack [] r.refusal cursor r.cursor
  -- a window of minutes: unchanged are both arrays of a new one, the window to which a minute is pushed, and the output of its counts
  pub pw_activity_new : (width : ℕ) (words counts : List ℕ) → let r = new_of width in
      GivesBoth (16 ∷ []) (as_window r).refusal words (unless_refused r.refusal words r.value.words)
      counts (unless_refused r.refusal counts r.value.counts)
  pub pw_activity_push_minute : (words counts : List ℕ) (place fill width word : ℕ) → let a = window_in words counts place fill width in
      GivesBack (16 ∷ []) (as_window (push_of a word)).refusal a (push_of a word).value
  pub pw_activity_counts : (words counts : List ℕ) (place fill width : ℕ) (out : List ℕ)
      → let r = counts_of (window_in words counts place fill width) in
      GivesBack (16 ∷ []) r.refusal out (unless_refused r.refusal out r.value)

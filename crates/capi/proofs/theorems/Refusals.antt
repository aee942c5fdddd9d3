-- Each export refuses only by the numbers listed for it, and then returns unchanged what was passed.
--
-- An encoding keeps the answer's number, so the laws of masks, grids, run_ends, dispatch and activity on the answer hold of the record that
-- is returned.
use Rattle.std.specs.Prelude.{Option, Some, None}
use Rattle.std.proofs.Common.{ℕ, ◌≡◌, refl, sym, ap, subst, ◌∙◌, Bool, true, false, not, cond, List, [], ◌∷◌}
use borrow.Author.Tests.{ne_eqb}
use Rattle.std.specs.Prelude.{Result, Ok, Err}
use Rattle.masks.specs.declared.next_and_not.NextFlag.{NextFlag}
use Rattle.masks.specs.declared.bitmap.Recounted.{Recounted}
use Rattle.masks.specs.equations.Answer.{Answer, given, refused}
use Rattle.masks.specs.equations.Appends.{Append, append_answer, append_bytes, push_flag, extend_constant, push_word, extend_slice}
use Rattle.masks.specs.equations.Appends.{extend_repeated}
use Rattle.masks.specs.equations.Appends.{extend_bitmap, extend_gather, extend_opt_gather}
use lib.ListN.{length}
use Prim.Native.Nat.{◌*◌}
use Rattle.masks.specs.equations.Bitmask.{window_at}
use Rattle.masks.specs.equations.Aligned.{aligned_of}
use Rattle.masks.specs.equations.AtIndex.{and_not_at_of}
use Rattle.masks.specs.equations.Bitmask.{split_at}
use Rattle.masks.specs.equations.Chunks.{new_chunks, next_chunk, chunks_remainder}
use Rattle.masks.specs.equations.Combine.{each_of, each_bytes, pair_of, pair_bytes}
use Rattle.masks.specs.equations.Compare.{eq_of, edges_of, common_of}
use Rattle.masks.specs.equations.Iterator.{new_iter, nth_flag, take_leading}
use Rattle.masks.specs.equations.Mask.{new_zeroed_of, new_zeroed_bytes, slice_of, try_new_of, unset_bits_of}
use Rattle.masks.specs.equations.NextAndNot.{next_and_not_of}
use Rattle.masks.specs.equations.Positions.{next_positions, positions_over}
use Rattle.masks.specs.equations.Search.{search_from, search_back}
use Rattle.masks.specs.equations.SliceIterator.{new_slices, next_slice}
use Rattle.masks.specs.equations.Superseding.{superseding_of}
use Rattle.masks.specs.equations.TrueIdx.{new_true, next_true}
use Rattle.masks.specs.equations.Utils.{span_count}
use Rattle.grids.specs.equations.Columns.{grid_column_bytes, grid_column_of, grid_column_zeros_of, grid_column_zeros_over}
use Rattle.grids.specs.equations.Rows.{grid_row_of, grid_row_zeros_of, grid_row_zeros_over}
use Rattle.grids.specs.equations.Transpose.{grid_transpose_bytes, grid_transpose_of}
use Rattle.grids.proofs.theorems.Refusals as grids
use Rattle.run_ends.specs.equations.Read.{from_run_ends_bytes, from_run_ends_of}
use Rattle.run_ends.specs.equations.Write.{to_run_ends_bytes, to_run_ends_ends, to_run_ends_of}
use Rattle.run_ends.proofs.theorems.Refusals as run_ends
use Rattle.dispatch.specs.equations.Reassign.{may_reassign}
use Rattle.dispatch.specs.equations.Offer.{offer_of}
use Rattle.masks.specs.Chunks.{chunks_at}
use Rattle.masks.specs.Cursor.{Step, item, ended}
use Rattle.masks.specs.Iterator.{iter_at}
use Rattle.masks.proofs.statements.Refusals.{addressed, all_among, among, may_give}
use Rattle.masks.specs.SliceIterator.{slices_at}
use Rattle.masks.specs.TrueIdx.{true_at}
use Rattle.masks.specs.declared.aligned.AlignedBitmapSlice.{AlignedBitmapSlice}
use Rattle.masks.specs.declared.bitmap.Bitmap.{Bitmap}
use Rattle.masks.specs.declared.bitmask.Span.{Span}
use Rattle.masks.specs.declared.builder.BitmapBuilder.{BitmapBuilder}
use Rattle.masks.specs.declared.superseding.Winner.{Winner}
use Rattle.masks.proofs.theorems.Refusals as masks
use Rattle.dispatch.specs.declared.offer.Offering.{Offering}
use Rattle.dispatch.proofs.theorems.Refusals as dispatch
use Rattle.activity.specs.Checks.{width_fits, left_by_minutes}
use Rattle.activity.proofs.theorems.Refusals as activity
use Rattle.capi.specs.Answers.{as_bit, as_builder, as_cursor, as_flag, as_mask, as_next, as_nth, as_number, as_offer, as_position}
use Rattle.capi.specs.Answers.{next_at, offer_at, as_remainder, as_run, as_same_mask}
use Rattle.capi.specs.Answers.{as_part, as_spans, as_split, as_step, as_taken, as_validity, as_word, as_zeros}
use Rattle.capi.specs.Records.{builder_in, builder_out, chunks_out, chunks_place, iter_out, iter_place, mask_in, optional_in}
use Rattle.capi.specs.Records.{serial_builder_in, slices_out, slices_place, true_in, true_out, true_place}
use Rattle.capi.proofs.statements.Refusals.{Appends, Gives, GivesBack, GivesBoth, Refusals, builder_of, numbers}
use Rattle.capi.specs.Window.{as_window, unless_refused, window_in}
use Rattle.capi.specs.declared.records.Cursor.{Cursor}
use Rattle.capi.specs.declared.records.Mask.{Mask}
use Rattle.capi.proofs.theorems.EquationLaws.{Refuses, RefusesUnwritten, refuses-by, refuses-nonempty, refuses-unwritten}
use Rattle.capi.proofs.theorems.WindowLaws.{stays}

-- each of ns is a number of a refusal
abbrev Listed : List ℕ → Type 0
Listed ns = all_among ns numbers ≡ true

-- the number of an answer, 0 if it is no refusal
abbrev number_in : {S A : Type 0} → Answer S A → ℕ
number_in (given a) = 0
number_in (refused k s) = k

-- ---- what holds of an answer holds of its number

no_number : (ns : List ℕ) → Listed ns → Gives ns 0
no_number ns l = record { listed = l; number = λ h. absurd (h refl) }

some_number : (ns : List ℕ) (k : ℕ) → Listed ns → among k ns ≡ true → Gives ns k
some_number ns k l e = record { listed = l; number = λ h. e }

nothing-back : {A : Type 0} (ns : List ℕ) (came back : A) → Listed ns → GivesBack ns 0 came back
nothing-back ns came back l = record { gives = no_number ns l; same = λ h. absurd (h refl) }

number-in : {S A : Type 0} (ns : List ℕ) (s : S) → Listed ns → (a : Answer S A) → Refuses ns s a → Gives ns (number_in a)
number-in ns s l (given x) r = no_number ns l
number-in ns s l (refused k t) r = some_number ns k l (r.number k t refl)

unwritten-in : {S A B : Type 0} (ns : List ℕ) (s : S) (a : Answer S A) (before after : B)
    → RefusesUnwritten ns s a before after → (number_in a ≡ 0 → ⊥) → after ≡ before
unwritten-in ns s (given x) before after r h = absurd (h refl)
unwritten-in ns s (refused k t) before after r h = r.unwritten k t refl

-- laws of an encoding that keeps the number: a is the answer, k the number in its record
module _ {S A : Type 0} (ns : List ℕ) (s : S) (l : Listed ns) (a : Answer S A) (k : ℕ) (e : k ≡ number_in a) where
  gives : Refuses ns s a → Gives ns k
  gives r = subst (λ (n : ℕ). Gives ns n) (sym e) (number-in ns s l a r)

  unwritten : {B : Type 0} (before after : B) → RefusesUnwritten ns s a before after → (k ≡ 0 → ⊥) → after ≡ before
  unwritten before after r h = unwritten-in ns s a before after r (λ (z : number_in a ≡ 0). h (e ∙ z))

  gives-unwritten : {B : Type 0} (before after : B) → RefusesUnwritten ns s a before after → GivesBack ns k before after
  gives-unwritten before after r = record { gives = gives r.refuses; same = unwritten before after r }

-- ---- the encodings keep the number

of_number : {S : Type 0} (a : Answer S ℕ) → (as_number a).refusal ≡ number_in a
unfolding as_number
of_number (given n) = refl
of_number (refused k s) = refl

-- of a call that writes numbers and returns how many
counts_back : {S : Type 0} (ns : List ℕ) (s : S) → Listed ns → (a : Answer S ℕ) (before after : List ℕ)
    → RefusesUnwritten ns s a before after → GivesBack ns (as_number a).refusal before after
unfolding as_number
counts_back ns s l (given n) before after r = nothing-back ns before after l
counts_back ns s l (refused k t) before after r = gives-unwritten ns s l (refused k t) k refl before after r

of-flag : {S : Type 0} (a : Answer S Bool) → (as_flag a).refusal ≡ number_in a
unfolding as_flag
of-flag (given x) = refl
of-flag (refused k s) = refl

next-number : (o : Option ℕ) (n : ℕ) → (next_at o n).refusal ≡ 0
next-number (Some p) n = refl
next-number None n = refl

of-next : {S : Type 0} (a : Answer S NextFlag) → (as_next a).refusal ≡ number_in a
unfolding as_next
of-next (given f) = next-number f.position f.windows
of-next (refused k s) = refl

of-position : {S : Type 0} (a : Answer S (Option ℕ)) → (as_position a).refusal ≡ number_in a
unfolding as_position
of-position (given (Some p)) = refl
of-position (given None) = refl
of-position (refused k s) = refl

of_mask : {S : Type 0} (a : Answer S Bitmap) → (as_mask a).refusal ≡ number_in a
unfolding as_mask
of_mask (given m) = refl
of_mask (refused k s) = refl

of_part : {S : Type 0} (a : Answer S Winner) → (as_part a).refusal ≡ number_in a
unfolding as_part
of_part (given p) = refl
of_part (refused k s) = refl

of-validity : {S : Type 0} (a : Answer S (Option Bitmap)) → (as_validity a).refusal ≡ number_in a
unfolding as_validity
of-validity (given (Some m)) = refl
of-validity (given None) = refl
of-validity (refused k s) = refl

of-builder : (a : Answer BitmapBuilder BitmapBuilder) → (as_builder a).refusal ≡ number_in a
unfolding as_builder
of-builder (given b) = refl
of-builder (refused k b) = refl

of-cursor : {S C : Type 0} (out : C → Cursor) (a : Answer S C) → (as_cursor out a).refusal ≡ number_in a
unfolding as_cursor
of-cursor out (given c) = refl
of-cursor out (refused k s) = refl

of-taken : {C : Type 0} (place : C → ℕ) (a : Answer C (ℕ × C)) → (as_taken place a).refusal ≡ number_in a
unfolding as_taken
of-taken place (given (n, c)) = refl
of-taken place (refused k c) = refl

of-split : {S : Type 0} (a : Answer S AlignedBitmapSlice) → (as_split a).refusal ≡ number_in a
unfolding as_split
of-split (given s) = refl
of-split (refused k s) = refl

of-spans : {S : Type 0} (a : Answer S (Span × Span)) → (as_spans a).refusal ≡ number_in a
unfolding as_spans
of-spans (given (a, b)) = refl
of-spans (refused k s) = refl

nth-gives : (w : Result ℕ ℕ) → Gives [] (as_nth w).refusal
unfolding as_nth all_among
nth-gives (Ok p) = no_number [] refl
nth-gives (Err k) = no_number [] refl

-- ---- what is returned unchanged

module _ (ns : List ℕ) (l : Listed ns) where
  mask-back : {S : Type 0} (m : Mask) (s : S) (a : Answer S Bitmap) → Refuses ns s a
      → GivesBack ns (as_same_mask m a).refusal m (as_same_mask m a).mask
  unfolding as_same_mask
  mask-back m s (given b) r = nothing-back ns m _ l
  mask-back m s (refused k t) r = record { gives = some_number ns k l (r.number k t refl); same = λ h. refl }

  zeros-back : {S : Type 0} (m : Mask) (s : S) (a : Answer S Recounted) → Refuses ns s a
      → GivesBack ns (as_zeros m a).refusal m (as_zeros m a).mask
  unfolding as_zeros
  zeros-back m s (given c) r = nothing-back ns m _ l
  zeros-back m s (refused k t) r = record { gives = some_number ns k l (r.number k t refl); same = λ h. refl }

  remainder-back : {C : Type 0} (place : ℕ) (s : C) (a : Answer C (ℕ × ℕ)) → Refuses ns s a
      → GivesBack ns (as_remainder place a).refusal place (as_remainder place a).place
  unfolding as_remainder
  remainder-back place s (given (w, n)) r = nothing-back ns place _ l
  remainder-back place s (refused k t) r = record { gives = some_number ns k l (r.number k t refl); same = λ h. refl }

  step_back : {C A : Type 0} (value count : A → ℕ) (place : C → ℕ) (s : C) (a : Answer C (Step C A)) → Refuses ns s a
      → GivesBack ns (as_step value count place a).refusal (place s) (as_step value count place a).place
  unfolding as_step
  step_back value count place s (given (item x c)) r = nothing-back ns (place s) _ l
  step_back value count place s (given (ended c)) r = nothing-back ns (place s) _ l
  step_back value count place s (refused k t) r =
      record { gives = some_number ns k l (r.number k t refl); same = λ h. ap place (r.state k t refl) }

  found_back : (came : ℕ) (o : Option ℕ) (cursor n : ℕ) → GivesBack ns (offer_at o cursor n).refusal came (offer_at o cursor n).cursor
  found_back came (Some t) cursor n = nothing-back ns came cursor l
  found_back came None cursor n = nothing-back ns came cursor l

  offer-back : (cursor : ℕ) (a : Answer ℕ Offering) → Refuses ns cursor a → GivesBack ns (as_offer a).refusal cursor (as_offer a).cursor
  unfolding as_offer
  offer-back cursor (given o) r = found_back cursor o.truck o.cursor o.windows
  offer-back cursor (refused k t) r = record { gives = some_number ns k l (r.number k t refl); same = λ h. r.state k t refl }

  taken_back : {C : Type 0} (place : C → ℕ) (s : C) (a : Answer C (ℕ × C)) → Refuses ns s a
      → GivesBack ns (as_taken place a).refusal (place s) (as_taken place a).place
  unfolding as_taken
  taken_back place s (given (n, c)) r = nothing-back ns (place s) _ l
  taken_back place s (refused k t) r =
      record { gives = some_number ns k l (r.number k t refl); same = λ h. ap place (r.state k t refl) }

  taken-both : {C : Type 0} (place : C → ℕ) (s : C) (a : Answer C (ℕ × C)) (before after : List ℕ) → RefusesUnwritten ns s a before after
      → GivesBoth ns (as_taken place a).refusal (place s) (as_taken place a).place before after
  taken-both place s a before after r =
      record {
        gives = taken_back place s a r.refuses;
        unwritten = unwritten ns s l a _ (of-taken place a) before after r;
      }

  builder-back : (n word ones : ℕ) (a : Answer BitmapBuilder BitmapBuilder) → Refuses ns (builder_in n word ones) a
      → GivesBack ns (as_builder a).refusal (builder_of n word ones) (as_builder a).builder
  unfolding as_builder builder_in builder_out
  builder-back n word ones (given b) r = nothing-back ns (builder_of n word ones) _ l
  builder-back n word ones (refused k t) r =
      record {
        gives = some_number ns k l (r.number k t refl);
        same = λ h. ap builder_out (r.state k t refl);
      }

  appends : (a : Append) (n word ones : ℕ) (buf : List ℕ)
      → RefusesUnwritten ns (builder_in n word ones) (append_answer a (builder_in n word ones) buf)
      buf (append_bytes a (builder_in n word ones) buf)
      → Appends ns a n word ones buf
  appends a n word ones buf r =
      record {
        gives = builder-back n word ones _ r.refuses;
        unwritten = unwritten ns _ l _ _ (of-builder (append_answer a (builder_in n word ones) buf)) buf _ r;
      }

-- ---- a cursor over positions has a mask if `masked` is not 0

true_in_lem : (start n place masked : ℕ) → (masked ≡ 0 → ⊥) → true_in start n place masked ≡ true_at start n place true
unfolding true_in
true_in_lem start n place masked h = ap (λ (x : Bool). true_at start n place (not x)) (ne_eqb masked 0 h)

-- ---- a window of minutes, whose only number is 16

sixteen : (x : Bool) (k : ℕ) → k ≡ cond x 0 16 → (k ≡ 0 → ⊥) → k ≡ 16
sixteen true k e h = absurd (h e)
sixteen false k e h = e

module _ (x : Bool) (k : ℕ) (e : k ≡ cond x 0 16) where
  window-gives : Gives (16 ∷ []) k
  unfolding all_among among
  window-gives = record { listed = refl; number = λ h. rw (sixteen x k e h) refl }

  window-back : {A : Type 0} (came back : A) → (k ≡ 16 → back ≡ came) → GivesBack (16 ∷ []) k came back
  window-back came back b = record { gives = window-gives; same = λ h. b (sixteen x k e h) }

  array_back : (came new : List ℕ) → GivesBack (16 ∷ []) k came (unless_refused k came new)
  array_back came new = record { gives = window-gives; same = λ h. sym (stays k came new h) }

-- ---- a count over a bare span

counted : (bytes : List ℕ) (start n address value : ℕ) → Refuses (may_give addressed) tt (span_count bytes start n address value)
unfolding span_count
counted bytes start n address value = refuses-nonempty n 0 (refuses-by value ((masks.refusals).aligned start n (length bytes) address))

-- ---- the exports

pub refusals : Refusals
unfolding
    all_among among optional_in true_in as_word as_bit as_run as_window
    aligned_of span_count new_chunks next_chunk chunks_remainder split_at window_at search_from search_back
    new_zeroed_of new_zeroed_bytes try_new_of slice_of unset_bits_of pair_of pair_bytes each_of each_bytes eq_of edges_of common_of
    and_not_at_of next_and_not_of superseding_of new_slices next_slice new_iter nth_flag take_leading new_true next_true next_positions
    positions_over may_reassign offer_of grid_row_of grid_column_of grid_column_bytes grid_transpose_of grid_transpose_bytes
    grid_row_zeros_of grid_row_zeros_over grid_column_zeros_of grid_column_zeros_over from_run_ends_of from_run_ends_bytes
    to_run_ends_of to_run_ends_ends to_run_ends_bytes
refusals =
    record {
      pw_nth_set_bit_u64 = λ w n. nth-gives _;
      pw_nth_set_bit_u32 = λ w n. nth-gives _;
      pw_aligned_new = λ bytes start n address.
          gives _ _ refl _ _ (of-split _) (refuses-nonempty _ _ (refuses-by _ ((masks.refusals).aligned start n (length bytes) address)));
      pw_count_zeros = λ bytes start n address. gives _ _ refl _ _ (of_number _) (counted bytes start n address _);
      pw_leading_zeros = λ bytes start n address. gives _ _ refl _ _ (of_number _) (counted bytes start n address _);
      pw_leading_ones = λ bytes start n address. gives _ _ refl _ _ (of_number _) (counted bytes start n address _);
      pw_trailing_zeros = λ bytes start n address. gives _ _ refl _ _ (of_number _) (counted bytes start n address _);
      pw_trailing_ones = λ bytes start n address. gives _ _ refl _ _ (of_number _) (counted bytes start n address _);
      pw_split_at_unchecked = λ bytes start n at.
          gives _ _ refl _ _ (of-spans _) (refuses-by _ ((masks.refusals).split start n at (length bytes)));
      pw_get_u32 = λ bytes start n index. gives _ _ refl _ _ (of_number _) (refuses-by _ ((masks.refusals).span start n (length bytes)));
      pw_nth_set_bit_idx = λ bytes start n k from.
          gives _ _ refl _ _ (of-position _) (refuses-by _ ((masks.refusals).span start n (length bytes)));
      pw_nth_set_bit_idx_rev = λ bytes start n k end.
          gives _ _ refl _ _ (of-position _) (refuses-by _ ((masks.refusals).span start n (length bytes)));
      pw_chunks_new = λ bytes start n.
          gives _ _ refl _ _ (of-cursor chunks_out _) (refuses-by _ ((masks.refusals).span start n (length bytes)));
      pw_chunks_new_exact = λ bytes n.
          gives _ _ refl _ _ (of-cursor chunks_out _) (refuses-by _ ((masks.refusals).span 0 n (length bytes)));
      pw_chunks_next = λ start n place bytes.
          step_back _ refl _ _ chunks_place _ _ (refuses-by _ ((masks.refusals).chunks (chunks_at start n place) bytes));
      pw_chunks_remainder = λ start n place bytes.
          remainder-back _ refl place _ _ (refuses-by _ ((masks.refusals).chunks (chunks_at start n place) bytes));
      pw_push = λ n word ones buf x.
          appends _ refl (push_flag x) n word ones buf (refuses-unwritten _ _ ((masks.refusals).grow _ 1 (length buf)));
      pw_extend_constant = λ n word ones buf m x.
          appends _ refl (extend_constant m x) n word ones buf (refuses-unwritten _ _ ((masks.refusals).constant _ (length buf) m));
      pw_push_word_with_len_unchecked = λ n word ones buf w m.
          appends _ refl (push_word w m) n word ones buf (refuses-unwritten _ _ ((masks.refusals).word _ (length buf) w m));
      pw_extend_from_slice = λ n word ones buf bytes start m.
          appends _ refl (extend_slice bytes start m) n word ones buf
          (refuses-unwritten _ _ ((masks.refusals).span_grow _ buf bytes start m m));
      pw_extend_each_repeated_from_slice_unchecked = λ n word ones buf bytes start m k.
          appends _ refl (extend_repeated bytes start m k) n word ones buf
          (refuses-unwritten _ _ ((masks.refusals).span_grow _ buf bytes start m (m * k)));
      pw_subslice_extend_from_bitmap = λ n word ones buf mask bytes start m.
          appends _ refl (extend_bitmap (mask_in mask) bytes start m) n word ones buf
          (refuses-unwritten _ _ ((masks.refusals).subslice _ buf (mask_in mask) bytes start m));
      pw_gather_extend_from_slice = λ n word ones buf bytes start m idxs.
          appends _ refl (extend_gather bytes start m idxs) n word ones buf
          (refuses-unwritten _ _ ((masks.refusals).gather _ buf bytes start m idxs));
      pw_opt_gather_extend_from_slice = λ n word ones buf bytes start m idxs.
          appends _ refl (extend_opt_gather bytes start m idxs) n word ones buf
          (refuses-unwritten _ _ ((masks.refusals).span_grow _ buf bytes start m (length idxs)));
      pw_freeze = λ n word ones buf serial.
          gives-unwritten _ _ refl _ _ (of_mask _) buf _
          (refuses-unwritten _ _ ((masks.refusals).freeze (serial_builder_in n word ones serial) (length buf)));
      pw_into_opt_validity = λ n word ones buf serial.
          gives-unwritten _ _ refl _ _ (of-validity _) buf _
          (refuses-unwritten _ _ ((masks.refusals).freeze (serial_builder_in n word ones serial) (length buf)));
      pw_new_zeroed = λ n out.
          gives-unwritten _ _ refl _ _ (of_mask _) out _ (refuses-unwritten _ _ ((masks.refusals).zeroed n (length out)));
      pw_try_new = λ bytes start n. gives _ _ refl _ _ (of_mask _) (refuses-by _ ((masks.refusals).span start n (length bytes)));
      pw_slice = λ m bytes offset n. mask-back _ refl m _ _ (refuses-by _ ((masks.refusals).slice (mask_in m) bytes offset n));
      pw_unset_bits = λ m bytes. zeros-back _ refl m _ _ (refuses-by _ ((masks.refusals).mask (mask_in m) bytes));
      pw_eq = λ a a_bytes b b_bytes.
          gives _ _ refl _ _ (of-flag _) (refuses-by _ ((masks.refusals).eq (mask_in a) a_bytes (mask_in b) b_bytes));
      pw_num_edges = λ m bytes. gives _ _ refl _ _ (of_number _) (refuses-by _ ((masks.refusals).mask (mask_in m) bytes));
      pw_num_intersections_with = λ a a_bytes b b_bytes.
          gives _ _ refl _ _ (of_number _) (refuses-by _ ((masks.refusals).common (mask_in a) a_bytes (mask_in b) b_bytes));
      pw_superseding = λ a a_bytes b b_bytes.
          gives _ _ refl _ _ (of_part _) (refuses-by _ ((masks.refusals).superseding (mask_in a) a_bytes (mask_in b) b_bytes));
      pw_and = λ a a_bytes b b_bytes out.
          gives-unwritten _ _ refl _ _ (of_mask _) out _
          (refuses-unwritten _ _ ((masks.refusals).pair (mask_in a) a_bytes (mask_in b) b_bytes (length out)));
      pw_and_not = λ a a_bytes b b_bytes out.
          gives-unwritten _ _ refl _ _ (of_mask _) out _
          (refuses-unwritten _ _ ((masks.refusals).pair (mask_in a) a_bytes (mask_in b) b_bytes (length out)));
      pw_or = λ a a_bytes b b_bytes out.
          gives-unwritten _ _ refl _ _ (of_mask _) out _
          (refuses-unwritten _ _ ((masks.refusals).pair (mask_in a) a_bytes (mask_in b) b_bytes (length out)));
      pw_or_not = λ a a_bytes b b_bytes out.
          gives-unwritten _ _ refl _ _ (of_mask _) out _
          (refuses-unwritten _ _ ((masks.refusals).pair (mask_in a) a_bytes (mask_in b) b_bytes (length out)));
      pw_xor = λ a a_bytes b b_bytes out.
          gives-unwritten _ _ refl _ _ (of_mask _) out _
          (refuses-unwritten _ _ ((masks.refusals).pair (mask_in a) a_bytes (mask_in b) b_bytes (length out)));
      pw_not = λ m bytes out.
          gives-unwritten _ _ refl _ _ (of_mask _) out _ (refuses-unwritten _ _ ((masks.refusals).invert (mask_in m) bytes (length out)));
      pw_select = λ s s_bytes t t_bytes f f_bytes out.
          gives-unwritten _ _ refl _ _ (of_mask _) out _
          (refuses-unwritten _ _ ((masks.refusals).select (mask_in s) s_bytes (mask_in t) t_bytes (mask_in f) f_bytes (length out)));
      pw_select_constant = λ s s_bytes t t_bytes x out.
          gives-unwritten _ _ refl _ _ (of_mask _) out _
          (refuses-unwritten _ _ ((masks.refusals).pair (mask_in s) s_bytes (mask_in t) t_bytes (length out)));
      pw_grid_row = λ m bytes rows columns row.
          mask-back _ refl m _ _ (refuses-by _ ((grids.refusals).row (mask_in m) bytes rows columns row));
      pw_grid_column = λ m bytes rows columns column out.
          gives-unwritten _ _ refl _ _ (of_mask _) out _
          (refuses-unwritten _ _ ((grids.refusals).column (mask_in m) bytes rows columns column (length out)));
      pw_grid_transpose = λ m bytes rows columns out.
          gives-unwritten _ _ refl _ _ (of_mask _) out _
          (refuses-unwritten _ _ ((grids.refusals).transpose (mask_in m) bytes rows columns (length out)));
      pw_grid_row_zeros = λ m bytes rows columns counts.
          counts_back _ _ refl _ counts _
          (refuses-unwritten _ _ ((grids.refusals).counts (mask_in m) bytes rows columns rows (length counts)));
      pw_grid_column_zeros = λ m bytes rows columns counts.
          counts_back _ _ refl _ counts _
          (refuses-unwritten _ _ ((grids.refusals).counts (mask_in m) bytes rows columns columns (length counts)));
      pw_from_run_ends = λ ends v bytes n out.
          gives-unwritten _ _ refl _ _ (of_mask _) out _
          (refuses-unwritten _ _ ((run_ends.refusals).read ends (mask_in v) bytes n (length out)));
      pw_to_run_ends = λ m bytes ends out.
          let r = (run_ends.refusals).write (mask_in m) bytes (length ends) (length out) in
          record {
            gives = gives-unwritten _ _ refl _ _ (of_mask _) ends _ (refuses-unwritten _ _ r);
            unwritten = unwritten _ _ refl _ _ (of_mask _) out _ (refuses-unwritten _ _ r);
          };
      pw_slices_new = λ m bytes. gives _ _ refl _ _ (of-cursor slices_out _) (refuses-by _ ((masks.refusals).mask (mask_in m) bytes));
      pw_slices_next = λ start n place bytes.
          step_back _ refl _ _ slices_place _ _ (refuses-by _ ((masks.refusals).runs (slices_at start n place) bytes));
      pw_iter_new = λ bytes start n.
          gives _ _ refl _ _ (of-cursor iter_out _) (refuses-nonempty _ _ (refuses-by _ ((masks.refusals).span start n (length bytes))));
      pw_iter_next = λ start n place bytes.
          step_back _ refl _ _ iter_place _ _ (refuses-by _ ((masks.refusals).iter (iter_at start n place) bytes));
      pw_iter_nth = λ start n place bytes k.
          step_back _ refl _ _ iter_place _ _ (refuses-by _ ((masks.refusals).iter (iter_at start n place) bytes));
      pw_take_leading_ones = λ start n place bytes.
          taken_back _ refl iter_place _ _ (refuses-by _ ((masks.refusals).iter (iter_at start n place) bytes));
      pw_take_leading_zeros = λ start n place bytes.
          taken_back _ refl iter_place _ _ (refuses-by _ ((masks.refusals).iter (iter_at start n place) bytes));
      pw_true_idx_new = λ n m bytes.
          gives _ _ refl _ _ (of-cursor true_out _) (refuses-by _ ((masks.refusals).true-new n (mask_in m) bytes));
      absent-true_idx_new = λ n m bytes.
          gives _ _ refl _ _ (of-cursor true_out _) (refuses-by _ ((masks.refusals).true-new_unmasked n bytes));
      pw_true_idx_next = λ start n place masked bytes h.
          rw (true_in_lem start n place masked h) (step_back _ refl _ _ true_place _ _
          (refuses-by _ ((masks.refusals).true-next start n place (length bytes))));
      absent-true_idx_next = λ start n place bytes.
          step_back _ refl _ _ true_place _ _ (refuses-by _ ((masks.refusals).true-next_unmasked start n place (length bytes)));
      pw_true_idx_next_chunk = λ start n place masked bytes out h.
          rw (true_in_lem start n place masked h)
          (taken-both _ refl true_place _ _ out _ (refuses-unwritten _ _ ((masks.refusals).true-next start n place (length bytes))));
      absent-true_idx_next-chunk = λ start n place bytes out.
          taken-both _ refl true_place _ _ out _ (refuses-unwritten _ _ ((masks.refusals).true-next_unmasked start n place (length bytes)));
      pw_and_not_at = λ p p_bytes q q_bytes i.
          gives _ _ refl _ _ (of-flag _) (refuses-by _ ((masks.refusals).and_not_at (mask_in p) p_bytes (mask_in q) q_bytes i));
      no_second = λ p p_bytes q q_bytes i.
          gives _ _ refl _ _ (of-flag _) (refuses-by _ ((masks.refusals).and-not-at-first (mask_in p) p_bytes q_bytes i));
      no-first = λ p p_bytes q q_bytes i.
          gives _ _ refl _ _ (of-flag _) (refuses-by _ ((masks.refusals).and-not-at-second p_bytes (mask_in q) q_bytes i));
      no-first-no-second = λ p p_bytes q q_bytes i.
          gives _ _ refl _ _ (of-flag _) (refuses-by _ ((masks.refusals).and-not-at-none p_bytes q_bytes i));
      pw_next_and_not = λ p p_bytes q q_bytes from.
          gives _ _ refl _ _ (of-next _) (refuses-by _ ((masks.refusals).next_and_not (mask_in p) p_bytes (mask_in q) q_bytes from));
      next-and-not-alone = λ p p_bytes q q_bytes from.
          gives _ _ refl _ _ (of-next _) (refuses-by _ ((masks.refusals).next-and-not-alone (mask_in p) p_bytes q_bytes from));
      pw_may_reassign = λ p p_bytes q q_bytes truck.
          gives _ _ refl _ _ (of-flag _) (refuses-by _ (dispatch.refusals (Some (mask_in p)) p_bytes (Some (mask_in q)) q_bytes truck));
      no-revocation = λ p p_bytes q q_bytes truck.
          gives _ _ refl _ _ (of-flag _) (refuses-by _ (dispatch.refusals (Some (mask_in p)) p_bytes None q_bytes truck));
      no-permission = λ p p_bytes q q_bytes truck.
          gives _ _ refl _ _ (of-flag _) (refuses-by _ (dispatch.refusals None p_bytes (Some (mask_in q)) q_bytes truck));
      neither = λ p p_bytes q q_bytes truck.
          gives _ _ refl _ _ (of-flag _) (refuses-by _ (dispatch.refusals None p_bytes None q_bytes truck));
      pw_offer = λ p p_bytes q q_bytes cursor.
          offer-back _ refl cursor _ (refuses-by _ (dispatch.offer_refusals (Some (mask_in p)) p_bytes (Some (mask_in q)) q_bytes cursor));
      offer-no-revocation = λ p p_bytes q q_bytes cursor.
          offer-back _ refl cursor _ (refuses-by _ (dispatch.offer_refusals (Some (mask_in p)) p_bytes None q_bytes cursor));
      offer-no-permission = λ p p_bytes q q_bytes cursor.
          offer-back _ refl cursor _ (refuses-by _ (dispatch.offer_refusals None p_bytes (Some (mask_in q)) q_bytes cursor));
      offer-neither = λ p p_bytes q q_bytes cursor.
          offer-back _ refl cursor _ (refuses-by _ (dispatch.offer_refusals None p_bytes None q_bytes cursor));
      pw_activity_new = λ width words counts.
          record {
            gives = array_back (width_fits width) _ ((activity.refusals).new-number width) words _;
            unwritten = λ h. sym (stays _ counts _ h);
          };
      pw_activity_push_minute = λ words counts place fill width word.
          window-back (left_by_minutes (window_in words counts place fill width)) _
          ((activity.refusals).push-number (window_in words counts place fill width) word) _ _
          ((activity.refusals).push-refused (window_in words counts place fill width) word);
      pw_activity_counts = λ words counts place fill width out.
          array_back (left_by_minutes (window_in words counts place fill width)) _
          ((activity.refusals).counts-number (window_in words counts place fill width)) out _;
    }

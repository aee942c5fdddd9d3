-- For each call an input for each number with which it may refuse, so that each number of the table `may_give` is returned, except the 7 of
-- `slice`, which `never_seven` of `Refusals` rules out.
--
-- `proofs/computed/Witnesses.antt` computes the definitions that the calls' contracts cite at these inputs. The calls are named above their
-- lists, in the same order.
use Rattle.std.specs.Prelude.{ℕ, ◌≡◌, true, false, cond, List, [], ◌∷◌, ◌++◌, eqb, length, drop, replicate, Option, Some, None}
use Rattle.words.specs.Ends.{leading, trailing}
use Rattle.words.specs.Loops.{stretch}
use Rattle.words.specs.declared.ops.Op.{Op}
use Rattle.masks.specs.equations.Aligned.{aligned_of}
use Rattle.masks.specs.equations.Answer.{Answer, given, refused}
use Rattle.masks.specs.equations.Appends.{Append, push_flag, extend_constant, push_word, extend_slice, extend_repeated, extend_bitmap}
use Rattle.masks.specs.equations.Appends.{extend_gather}
use Rattle.masks.specs.equations.Appends.{extend_opt_gather, append_answer}
use Rattle.masks.specs.equations.AtIndex.{and_not_at_of}
use Rattle.masks.specs.equations.NextAndNot.{next_and_not_of}
use Rattle.masks.specs.equations.Bitmask.{window_at}
use Rattle.masks.specs.equations.Bitmask.{split_at}
use Rattle.masks.specs.Builder.{builder_of, new_builder}
use Rattle.masks.specs.Chunks.{chunks_at}
use Rattle.masks.specs.equations.Chunks.{new_chunks, next_chunk, chunks_remainder}
use Rattle.masks.specs.Combine.{And, AndNot, Or, OrNot, Xor}
use Rattle.masks.specs.equations.Combine.{pair_of, not_of, select_of, select_constant_of}
use Rattle.masks.specs.equations.Compare.{eq_of, edges_of, common_of}
use Rattle.masks.specs.equations.Freeze.{freeze_of, into_opt_validity_of}
use Rattle.masks.specs.Iterator.{iter_at}
use Rattle.masks.specs.equations.Iterator.{new_iter, nth_flag, take_leading}
use Rattle.masks.specs.Mask.{mask_of}
use Rattle.masks.specs.equations.Mask.{try_new_of, new_zeroed_of, unset_bits_of, slice_of}
use Rattle.masks.proofs.statements.Refusals.{may_give, Family, addressed, spans, cursors, unmasked_cursors, splits, builders, pushed-words}
use Rattle.masks.proofs.statements.Refusals.{span-appends, gathers, piece-appends, zeroed-masks, masks, slices, combinations, inversions}
use Rattle.masks.proofs.statements.Refusals.{intersections}
use Rattle.masks.proofs.statements.Refusals.{indexed-pairs, indexed-masks, stated-masks, stated_lengths, supersessions}
use Rattle.masks.specs.equations.Search.{search_from, search_back}
use Rattle.masks.specs.SliceIterator.{slices_at}
use Rattle.masks.specs.equations.SliceIterator.{new_slices, next_slice}
use Rattle.masks.specs.equations.Positions.{next_positions}
use Rattle.masks.specs.equations.Superseding.{record_of, superseding_of}
use Rattle.masks.specs.TrueIdx.{true_at}
use Rattle.masks.specs.equations.TrueIdx.{new_true, next_true}
use Rattle.masks.specs.Utils.{zeros}
use Rattle.masks.specs.equations.Utils.{span_count}
use Rattle.masks.specs.declared.bitmap.Bitmap.{Bitmap}
use Rattle.masks.specs.declared.builder.BitmapBuilder.{BitmapBuilder}

-- ---- inputs

-- the number of a refusal, 0 for an accepted call
abbrev pub number_of : {S A : Type 0} → Answer S A → ℕ
number_of (given a) = 0
number_of (refused k s) = k

-- a byte, the mask of its flags, and that of all but the last
abbrev pub byte : List ℕ
byte = 0x2D ∷ []

abbrev pub whole : Bitmap
whole = mask_of 0 8 None

abbrev pub shorter : Bitmap
shorter = mask_of 0 7 None

-- a lent buffer, a length just past the limit, and a builder of no flags with a bit in its word
abbrev pub buffer : List ℕ
buffer = replicate 8 0xAA

abbrev pub too_long : ℕ
too_long = 4194305

abbrev pub impossible : BitmapBuilder
impossible = builder_of 0 1 0

-- the numbers of a call over the byte at spans that checks 1 and 2 refuse
abbrev pub at_spans : (ℕ → ℕ → ℕ) → List ℕ
at_spans f = f too_long 1 ∷ f 2 7 ∷ []

-- the numbers of a call at cursors, and at split points of a span, that checks 1, 2 and 6 refuse
abbrev pub at_cursors : (ℕ → ℕ → ℕ → ℕ) → List ℕ
at_cursors f = f too_long 1 0 ∷ f 2 7 0 ∷ f 0 8 9 ∷ []

-- the numbers of a call at masks that checks 1 to 3 refuse: the byte has four zeros
abbrev pub at_masks : (Bitmap → ℕ) → List ℕ
at_masks f = f (mask_of 0 too_long None) ∷ f (mask_of 2 7 None) ∷ f (mask_of 0 8 (Some 3)) ∷ []

-- the numbers of a call at short masks that checks 1 to 3 refuse: their flags can be listed
abbrev pub at_short_masks : (Bitmap → ℕ) → List ℕ
at_short_masks f = f (mask_of too_long 1 None) ∷ f (mask_of 2 7 None) ∷ f (mask_of 0 8 (Some 9)) ∷ []

-- the numbers of a call at spans and address remainders that checks 1, 2 and 8 refuse
abbrev pub at_addresses : (ℕ → ℕ → ℕ → ℕ) → List ℕ
at_addresses f = f too_long 1 0 ∷ f 2 7 0 ∷ f 0 8 8 ∷ []

-- the number of an append to a new builder, to the impossible one, and to a new one with no bytes
abbrev pub to_new : Append → ℕ
to_new a = number_of (append_answer a new_builder buffer)

abbrev pub to_impossible : Append → ℕ
to_impossible a = number_of (append_answer a impossible buffer)

abbrev pub to_no_bytes : Append → ℕ
to_no_bytes a = number_of (append_answer a new_builder [])

-- the numbers of an append of a span at inputs that checks 1, 2, 4 and 9 refuse
abbrev pub at_appends : (ℕ → ℕ → Append) → List ℕ
at_appends f = to_new (f too_long 1) ∷ to_new (f 2 7) ∷ to_impossible (f 0 8) ∷ to_no_bytes (f 0 8) ∷ []

-- the numbers of a call at builders that checks 1, 4 and 9 refuse
abbrev pub at_builders : (BitmapBuilder → List ℕ → ℕ) → List ℕ
at_builders f = f (builder_of too_long 0 0) buffer ∷ f impossible buffer ∷ f (builder_of 1 0 0) [] ∷ []

-- the numbers of a call at masks, combined with that of the byte, that checks 1, 2, 3, 5 and 9 refuse
abbrev pub at_pairs : (Bitmap → List ℕ → ℕ) → List ℕ
at_pairs f = at_masks (λ m. f m buffer) ++ (f shorter buffer ∷ f whole [] ∷ [])

-- the numbers of combinations of the mask of the byte with another, of `not`, and of selections whose last mask is another
abbrev pub pair_number : Op → Bitmap → List ℕ → ℕ
pair_number op m out = number_of (pair_of op whole byte m byte out)

abbrev pub not_number : Bitmap → List ℕ → ℕ
not_number m out = number_of (not_of m byte out)

abbrev pub select_number : Bitmap → List ℕ → ℕ
select_number m out = number_of (select_of whole byte whole byte m byte out)

abbrev pub select_constant_number : Bitmap → List ℕ → ℕ
select_constant_number m out = number_of (select_constant_of whole byte m byte false out)

-- the number of `and_not` at an index of masks over the byte
abbrev pub at_number : Option Bitmap → Option Bitmap → ℕ → ℕ
at_number first second i = number_of (and_not_at_of first byte second byte i)

-- the number of `next_and_not` of masks over the byte, starting at a place
abbrev pub next_number : Bitmap → Option Bitmap → ℕ → ℕ
next_number first second from = number_of (next_and_not_of first byte second byte from)

-- ---- the table: for each call a list, the number of its definition at one input for each number of its family

unfoldable pub witnesses : Family → List (List ℕ)
witnesses addressed =
    -- `AlignedBitmapSlice::new`
    at_addresses (λ s n a. number_of (aligned_of byte s n a))
    -- `count_zeros`, `leading_zeros`, `leading_ones`, `trailing_zeros`, `trailing_ones`
    ∷ at_addresses (λ s n a. number_of (span_count byte s n a (zeros (stretch byte s n))))
    ∷ at_addresses (λ s n a. number_of (span_count byte s n a (leading false (stretch byte s n))))
    ∷ at_addresses (λ s n a. number_of (span_count byte s n a (leading true (stretch byte s n))))
    ∷ at_addresses (λ s n a. number_of (span_count byte s n a (trailing false (stretch byte s n))))
    ∷ at_addresses (λ s n a. number_of (span_count byte s n a (trailing true (stretch byte s n))))
    ∷ []
witnesses spans =
    -- `BitChunks::new`, `BitChunksExact::new`
    at_spans (λ s n. number_of (new_chunks byte s n))
    ∷ (number_of (new_chunks byte 0 too_long) ∷ number_of (new_chunks byte 0 9) ∷ [])
    -- `get_u32`, `nth_set_bit_idx`, `nth_set_bit_idx_rev`
    ∷ at_spans (λ s n. number_of (window_at byte s n 0))
    ∷ at_spans (λ s n. number_of (search_from byte s n 0 0))
    ∷ at_spans (λ s n. number_of (search_back byte s n 0 8))
    -- `Bitmap::try_new`, `BitmapIter::new`
    ∷ at_spans (λ s n. number_of (try_new_of byte s n))
    ∷ at_spans (λ s n. number_of (new_iter byte s n))
    ∷ []
witnesses cursors =
    -- `BitChunks::next`, `BitChunks::remainder`
    at_cursors (λ s n p. number_of (next_chunk (chunks_at s n p) byte))
    ∷ at_cursors (λ s n p. number_of (chunks_remainder (chunks_at s n p) byte))
    -- `BitmapIter::next`, `BitmapIter::nth`, `BitmapIter::take_leading_ones`, `BitmapIter::take_leading_zeros`
    ∷ at_cursors (λ s n p. number_of (nth_flag (iter_at s n p) byte 0))
    ∷ at_cursors (λ s n p. number_of (nth_flag (iter_at s n p) byte 3))
    ∷ at_cursors (λ s n p. number_of (take_leading true (iter_at s n p) byte))
    ∷ at_cursors (λ s n p. number_of (take_leading false (iter_at s n p) byte))
    -- `SlicesIterator::next`, `TrueIdxIter::next`, `TrueIdxIter::next_chunk`
    ∷ at_cursors (λ s n p. number_of (next_slice (slices_at s n p) byte))
    ∷ at_cursors (λ s n p. number_of (next_true (true_at s n p true) byte))
    ∷ at_cursors (λ s n p. number_of (next_positions (true_at s n p true) byte 3))
    ∷ []
witnesses unmasked_cursors =
    -- `TrueIdxIter::next`, `TrueIdxIter::next_chunk`
    (number_of (next_true (true_at 0 too_long 0 false) []) ∷ number_of (next_true (true_at 0 8 9 false) []) ∷ [])
    ∷ (number_of (next_positions (true_at 0 too_long 0 false) [] 3) ∷ number_of (next_positions (true_at 0 8 9 false) [] 3) ∷ [])
    ∷ []
witnesses splits =
    -- `split_at_unchecked`
    at_cursors (λ s n at. number_of (split_at byte s n at))
    ∷ []
witnesses builders =
    -- `BitmapBuilder::push` and `BitmapBuilder::push_mut`, by one definition
    (number_of (append_answer (push_flag true) (builder_of 4194304 0 0) buffer) ∷ to_impossible (push_flag true) ∷ to_no_bytes
    (push_flag true) ∷ [])
    -- `BitmapBuilder::extend_constant`
    ∷ (to_new (extend_constant too_long true) ∷ to_impossible (extend_constant 1 true) ∷ to_no_bytes (extend_constant 1 true) ∷ [])
    -- `BitmapBuilder::freeze`, `BitmapBuilder::into_opt_validity`
    ∷ at_builders (λ b buf. number_of (freeze_of b buf))
    ∷ at_builders (λ b buf. number_of (into_opt_validity_of b buf))
    ∷ []
witnesses pushed-words =
    -- `BitmapBuilder::push_word_with_len_unchecked`
    (to_new (push_word 0 too_long) ∷ to_impossible (push_word 1 1) ∷ to_new (push_word 2 1) ∷ to_no_bytes (push_word 1 1) ∷ [])
    ∷ []
witnesses span-appends =
    -- `BitmapBuilder::extend_from_slice`, `BitmapBuilder::extend_each_repeated_from_slice_unchecked`
    at_appends (extend_slice byte)
    ∷ at_appends (λ s n. extend_repeated byte s n 2)
    -- `BitmapBuilder::opt_gather_extend_from_slice`
    ∷ at_appends (λ s n. extend_opt_gather byte s n (8 ∷ []))
    ∷ []
witnesses gathers =
    -- `BitmapBuilder::gather_extend_from_slice`
    (to_new (extend_gather byte too_long 1 (0 ∷ []))
    ∷ to_new (extend_gather byte 2 7 (0 ∷ []))
    ∷ to_impossible (extend_gather byte 0 8 (0 ∷ []))
    ∷ to_new (extend_gather byte 0 8 (8 ∷ []))
    ∷ to_no_bytes (extend_gather byte 0 8 (0 ∷ []))
    ∷ [])
    ∷ []
witnesses piece-appends =
    -- `BitmapBuilder::subslice_extend_from_bitmap`
    (at_masks (λ m. to_new (extend_bitmap m byte 0 1))
    ++ (to_impossible (extend_bitmap whole byte 0 8) ∷ to_new (extend_bitmap whole byte 1 8) ∷ to_no_bytes
    (extend_bitmap whole byte 0 8) ∷ []))
    ∷ []
witnesses zeroed-masks =
    -- `Bitmap::new_zeroed`
    (number_of (new_zeroed_of too_long buffer) ∷ number_of (new_zeroed_of 65 (replicate 15 0xAA)) ∷ [])
    ∷ []
witnesses masks =
    -- `Bitmap::unset_bits`, `eq`, `num_edges`, `SlicesIterator::new`
    at_masks (λ m. number_of (unset_bits_of m byte))
    ∷ at_masks (λ m. number_of (eq_of whole byte m byte))
    ∷ at_masks (λ m. number_of (edges_of m byte))
    ∷ at_masks (λ m. number_of (new_slices m byte))
    ∷ []
witnesses slices =
    -- `Bitmap::slice`. No input for 7: `never_seven`
    (at_masks (λ m. number_of (slice_of m byte 0 1))
    ++ (number_of (slice_of whole byte 1 8) ∷ []))
    ∷ []
witnesses combinations =
    -- `and`, `and_not`, `or`, `or_not`, `xor`, `select`, `select_constant`
    at_pairs (pair_number And)
    ∷ at_pairs (pair_number AndNot)
    ∷ at_pairs (pair_number Or)
    ∷ at_pairs (pair_number OrNot)
    ∷ at_pairs (pair_number Xor)
    ∷ at_pairs select_number
    ∷ at_pairs select_constant_number
    ∷ []
witnesses inversions =
    -- `not`
    (at_masks (λ m. not_number m buffer) ++ (not_number whole [] ∷ []))
    ∷ []
witnesses intersections =
    -- `num_intersections_with`
    (at_masks (λ m. number_of (common_of whole byte m byte)) ++ (number_of (common_of whole byte shorter byte) ∷ []))
    ∷ []
witnesses indexed-pairs =
    -- `and_not_at` of two masks: the first refused, then the second
    (at_masks (λ m. at_number (Some m) (Some whole) 0)
    ++ (at_number (Some shorter) (Some whole) 0 ∷ at_number (Some whole) (Some whole) 8 ∷ []))
    ∷ (at_masks (λ m. at_number (Some whole) (Some m) 0)
    ++ (at_number (Some whole) (Some shorter) 0 ∷ at_number (Some whole) (Some whole) 8 ∷ []))
    -- `next_and_not` of two masks: the first refused, then the second
    ∷ (at_masks (λ m. next_number m (Some whole) 0) ++ (next_number shorter (Some whole) 0 ∷ next_number whole (Some whole) 9 ∷ []))
    ∷ (at_masks (λ m. next_number whole (Some m) 0) ++ (next_number whole (Some shorter) 0 ∷ next_number whole (Some whole) 9 ∷ []))
    ∷ []
witnesses indexed-masks =
    -- `and_not_at` of only the first mask, and of only the second
    (at_masks (λ m. at_number (Some m) None 0) ++ (at_number (Some whole) None 8 ∷ []))
    ∷ (at_masks (λ m. at_number None (Some m) 0) ++ (at_number None (Some whole) 8 ∷ []))
    -- `next_and_not` of only the first mask
    ∷ (at_masks (λ m. next_number m None 0) ++ (next_number whole None 9 ∷ []))
    ∷ []
witnesses stated-masks =
    -- `TrueIdxIter::new`
    (at_masks (λ m. number_of (new_true 8 (Some m) byte)) ++ (number_of (new_true 8 (Some shorter) byte) ∷ []))
    ∷ []
witnesses stated_lengths =
    -- `TrueIdxIter::new`
    (number_of (new_true too_long None []) ∷ [])
    ∷ []
witnesses supersessions =
    -- `superseding_part`: the first mask refused, then the second
    (at_short_masks (λ m. number_of (superseding_of m byte whole byte)) ++ (number_of (superseding_of whole byte shorter byte) ∷ []))
    ∷ (at_short_masks (λ m. number_of (superseding_of whole byte m byte)) ++ (number_of (superseding_of shorter byte whole byte) ∷ []))
    -- `superseding`
    ∷ (at_short_masks (λ m. number_of (record_of (superseding_of m byte whole byte)))
    ++ (number_of (record_of (superseding_of whole byte shorter byte)) ∷ []))
    ∷ []

-- the numbers except 7
abbrev pub but_seven : List ℕ → List ℕ
but_seven [] = []
but_seven (k ∷ ks) = cond (eqb k 7) (but_seven ks) (k ∷ but_seven ks)

-- the statement: each family has a call, and each of its calls has an input for each of the family's numbers except 7
abbrev pub Witnessed : Type 0
Witnessed = (f : Family) → witnesses f ≡ but_seven (may_give f) ∷ replicate (length (drop 1 (witnesses f))) (but_seven (may_give f))

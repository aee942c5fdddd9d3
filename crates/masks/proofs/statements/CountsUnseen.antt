-- The theorem on counts: a call that takes a mask whose checks pass has the same checks and the same values as for the same mask with its
-- count unknown, except for the counts in the records that `slice`, `superseding_part` and `superseding` return.
--
-- The lists of checks and the values are those that the clauses of each contract cite. What a call answers and writes is said by these
-- clauses: `refused` by the checks, the value and `bytes` by what is stated here beside them, `unchanged` and `state` by what was passed.
use Rattle.std.specs.Prelude.{ℕ, ◌≡◌, Bool, List, [], ◌∷◌, ◌++◌, Option, Some, None}
use Rattle.words.specs.Counts.{same_flags}
use Rattle.words.specs.Flags.{window}
use Rattle.words.specs.declared.ops.Op.{Op}
use Rattle.masks.specs.Appends.{subslice_checks}
use Rattle.masks.specs.AtIndex.{and_not_at_checks, and_not_flag}
use Rattle.masks.specs.Checks.{Check, first_failed}
use Rattle.masks.specs.Combine.{not_checks, not_flags, pair_checks, pair_flags, pair_mask, result_mask}
use Rattle.masks.specs.Combine.{select_checks, select_constant_flags, select_flags}
use Rattle.masks.specs.Compare.{common, common_checks, edges}
use Rattle.masks.specs.Mask.{mask_checks, mask_flags, slice_checks, sliced_mask, uncounted, with_count, zero_count}
use Rattle.masks.specs.NextAndNot.{free_flags, next_checks, next_set}
use Rattle.masks.specs.SliceIterator.{slices_at}
use Rattle.masks.specs.Superseding.{superseding_checks, winning}
use Rattle.masks.specs.TrueIdx.{first_true, new_true_checks}
use Rattle.masks.specs.declared.bitmap.Bitmap.{Bitmap}
use Rattle.masks.specs.declared.builder.BitmapBuilder.{BitmapBuilder}
use Rattle.masks.specs.declared.superseding.Winner.{Winner}

-- a mask with its count made unknown
abbrev pub forgot : Bitmap → Bitmap
forgot m = with_count m None

abbrev pub forgot_part : Winner → Winner
forgot_part p = record { second = p.second; from = p.from; to = p.to; mask = forgot p.mask }

-- the value f of a mask is the same for the mask with its count made unknown
abbrev pub Unseen : {X : Type 0} → Bitmap → (Bitmap → X) → Type 0
Unseen m f = f m ≡ f (forgot m)

-- a call: its checks and its value, each by the mask
pub record UnseenCall {X : Type 0} (m : Bitmap) (checks : Bitmap → List Check) (value : Bitmap → X) : Type 0 where
  pub checked : Unseen m checks
  pub given : Unseen m value

-- a combination: also the flags that it writes
pub record UnseenBoth (m : Bitmap) (checks : Bitmap → List Check) (mask : Bitmap → Bitmap) (flags : Bitmap → List Bool) : Type 0 where
  pub answers : UnseenCall m checks mask
  pub writes : Unseen m flags

-- each call with the mask in each of its places; the call's other masks are arbitrary. A comment names the calls of the fields below it;
-- `tests/calls_page.py` requires each call that may refuse with 3 to be named.
pub record CountUnseen (m : Bitmap) (bytes : List ℕ) : Type 0 where
  -- `Bitmap::unset_bits`
  pub unset_bits : UnseenCall m (λ x. mask_checks x bytes) (λ x. zero_count x bytes)
  pub recounted : Unseen m (λ x. with_count x (Some (zero_count x bytes)))
  -- `Bitmap::slice`
  pub slice : (offset n : ℕ) → Unseen m (λ x. first_failed (slice_checks x bytes offset n))
  pub sliced : (offset n : ℕ) → Unseen m (λ x. forgot (sliced_mask x bytes offset n))
  -- `BitmapBuilder::subslice_extend_from_bitmap`
  pub append : (b : BitmapBuilder) (buf : List ℕ) (start n : ℕ)
      → UnseenCall m (λ x. subslice_checks b buf x bytes start n) (λ x. window (mask_flags x bytes) start n)
  -- `and`, `and_not`, `or`, `or_not`, `xor`
  pub pair-first : (op : Op) (b : Bitmap) (b_bytes : List ℕ) (size : ℕ)
      → UnseenBoth m (λ x. pair_checks x bytes b b_bytes size) (λ x. pair_mask op x bytes b b_bytes) (λ x. pair_flags op x bytes b b_bytes)
  pub pair-second : (op : Op) (a : Bitmap) (a_bytes : List ℕ) (size : ℕ)
      → UnseenBoth m (λ x. pair_checks a a_bytes x bytes size) (λ x. pair_mask op a a_bytes x bytes) (λ x. pair_flags op a a_bytes x bytes)
  -- `not`
  pub invert : (size : ℕ)
      → UnseenBoth m (λ x. not_checks x bytes size) (λ x. result_mask (x ∷ []) x.length (uncounted x.length)) (λ x. not_flags x bytes)
  -- `select`
  pub select-first : (b : Bitmap) (b_bytes : List ℕ) (c : Bitmap) (c_bytes : List ℕ) (size : ℕ)
      → UnseenBoth m (λ x. select_checks x bytes b b_bytes c c_bytes size)
      (λ x. result_mask (x ∷ b ∷ c ∷ []) x.length (uncounted x.length)) (λ x. select_flags x bytes b b_bytes c c_bytes)
  pub select-second : (a : Bitmap) (a_bytes : List ℕ) (c : Bitmap) (c_bytes : List ℕ) (size : ℕ)
      → UnseenBoth m (λ x. select_checks a a_bytes x bytes c c_bytes size)
      (λ x. result_mask (a ∷ x ∷ c ∷ []) a.length (uncounted a.length)) (λ x. select_flags a a_bytes x bytes c c_bytes)
  pub select_third : (a : Bitmap) (a_bytes : List ℕ) (b : Bitmap) (b_bytes : List ℕ) (size : ℕ)
      → UnseenBoth m (λ x. select_checks a a_bytes b b_bytes x bytes size)
      (λ x. result_mask (a ∷ b ∷ x ∷ []) a.length (uncounted a.length)) (λ x. select_flags a a_bytes b b_bytes x bytes)
  -- `select_constant`
  pub constant-first : (b : Bitmap) (b_bytes : List ℕ) (flag : Bool) (size : ℕ)
      → UnseenBoth m (λ x. pair_checks x bytes b b_bytes size) (λ x. result_mask (x ∷ b ∷ []) x.length (uncounted x.length))
      (λ x. select_constant_flags x bytes b b_bytes flag)
  pub constant-second : (a : Bitmap) (a_bytes : List ℕ) (flag : Bool) (size : ℕ)
      → UnseenBoth m (λ x. pair_checks a a_bytes x bytes size) (λ x. result_mask (a ∷ x ∷ []) a.length (uncounted a.length))
      (λ x. select_constant_flags a a_bytes x bytes flag)
  -- `and_not_at`, where the other mask may be absent
  pub at_first : (second : Option Bitmap) (b_bytes : List ℕ) (i : ℕ)
      → UnseenCall m (λ x. and_not_at_checks (Some x) bytes second b_bytes i) (λ x. and_not_flag (Some x) bytes second b_bytes i)
  pub at_second : (first : Option Bitmap) (a_bytes : List ℕ) (i : ℕ)
      → UnseenCall m (λ x. and_not_at_checks first a_bytes (Some x) bytes i) (λ x. and_not_flag first a_bytes (Some x) bytes i)
  -- `eq`
  pub eq-first : (b : Bitmap) (b_bytes : List ℕ)
      → UnseenCall m (λ x. mask_checks x bytes ++ mask_checks b b_bytes) (λ x. same_flags (mask_flags x bytes) (mask_flags b b_bytes))
  pub eq-second : (a : Bitmap) (a_bytes : List ℕ)
      → UnseenCall m (λ x. mask_checks a a_bytes ++ mask_checks x bytes) (λ x. same_flags (mask_flags a a_bytes) (mask_flags x bytes))
  -- `num_edges`
  pub edges : UnseenCall m (λ x. mask_checks x bytes) (λ x. edges (mask_flags x bytes))
  -- `num_intersections_with`
  pub common-first : (b : Bitmap) (b_bytes : List ℕ)
      → UnseenCall m (λ x. common_checks x bytes b b_bytes) (λ x. common (mask_flags x bytes) (mask_flags b b_bytes))
  pub common-second : (a : Bitmap) (a_bytes : List ℕ)
      → UnseenCall m (λ x. common_checks a a_bytes x bytes) (λ x. common (mask_flags a a_bytes) (mask_flags x bytes))
  -- `superseding_part`; `superseding` and `superseding_bytes`, which return the mask of the part, and its bytes
  pub superseding-first : (b : Bitmap) (b_bytes : List ℕ)
      → UnseenCall m (λ x. superseding_checks x bytes b b_bytes) (λ x. forgot_part (winning x b))
  pub superseding-second : (a : Bitmap) (a_bytes : List ℕ)
      → UnseenCall m (λ x. superseding_checks a a_bytes x bytes) (λ x. forgot_part (winning a x))
  -- `next_and_not`, whose second mask may be absent
  pub next-first : (second : Option Bitmap) (b_bytes : List ℕ) (from : ℕ)
      → UnseenCall m (λ x. next_checks x bytes second b_bytes from) (λ x. next_set x.length (free_flags x bytes second b_bytes) from)
  pub next-second : (a : Bitmap) (a_bytes : List ℕ) (from : ℕ)
      → UnseenCall m (λ x. next_checks a a_bytes (Some x) bytes from) (λ x. next_set a.length (free_flags a a_bytes (Some x) bytes) from)
  -- `SlicesIterator::new`
  pub slices-new : UnseenCall m (λ x. mask_checks x bytes) (λ x. slices_at x.start x.length 0)
  -- `TrueIdxIter::new`
  pub true-new : (n : ℕ) → UnseenCall m (λ x. new_true_checks n (Some x) bytes) (λ x. first_true n (Some x))

-- the statement
abbrev pub CountsUnseen : Type 0
CountsUnseen = (m : Bitmap) (bytes : List ℕ) → first_failed (mask_checks m bytes) ≡ 0 → CountUnseen m bytes

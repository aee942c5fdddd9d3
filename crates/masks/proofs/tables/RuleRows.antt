-- Rules of the reference that the twelve examples leave open, and those on counts, as a table of rows, its words above each.
--
-- A row has the value of the definitions at one input, and that of the reference's words there, worked out by hand. Each call goes through
-- the definition that its contract cites, as in `Examples`. A definition that reads the rule otherwise fails a row: laws that serve the
-- functions' proofs would be changed together with it. `proofs/computed/RuleRows.antt` proves that the two columns are equal.
use Rattle.std.specs.Prelude.{ℕ, ◌≡◌, true, false, List, [], ◌∷◌, map, replicate, Option, Some, None}
use Rattle.words.specs.declared.ops.Op.{Op}
use Rattle.masks.specs.declared.bitmap.Recounted.{Recounted}
use Rattle.masks.specs.equations.Answer.{Answer, given, refused}
use Rattle.masks.specs.equations.Appends.{extend_constant, push_word, extend_gather, extend_opt_gather}
use Rattle.masks.specs.Combine.{And, AndNot, Or, Xor, not_checks, not_flags}
use Rattle.masks.specs.equations.Combine.{pair_of, pair_bytes, each_of, each_bytes}
use Rattle.masks.proofs.tables.Examples.{Value, mask, count, refusal, sliced_value, frozen_in, lent, first, mixed, sliced_to, A-bytes}
use Rattle.masks.specs.Mask.{mask_of}
use Rattle.masks.specs.equations.Mask.{slice_of, try_new_of, unset_bits_of}
use Rattle.masks.specs.declared.bitmap.Bitmap.{Bitmap}

-- ---- a row

pub record Row : Type 0 where
  pub computed : Value
  pub stated : Value

abbrev pub row : Value → Value → Row
row computed stated = record { computed = computed; stated = stated }

-- ---- the calls of the rows

-- what an accepted combination writes, and the count of its mask
abbrev pub result_value : Answer (Unit {0}) Bitmap → List ℕ → Value
result_value (given m) out = mask out m.unset
result_value (refused k s) out = refusal k

-- a combination of two masks of n flags with these counts, each in a byte of its own
abbrev pub pair_of_told : Op → ℕ → Option ℕ → ℕ → Option ℕ → ℕ → Value
pair_of_told op n u byte v other =
    result_value (pair_of op (mask_of 0 n u) (byte ∷ []) (mask_of 0 n v) (other ∷ []) (lent 8))
    (pair_bytes op (mask_of 0 n u) (byte ∷ []) (mask_of 0 n v) (other ∷ []) (lent 8))

-- `not` of a mask of no flags
abbrev pub not_of_none : Value
not_of_none =
    let m = mask_of 0 0 None in
    result_value (each_of (not_checks m [] 8) (m ∷ []) 0) (each_bytes (not_checks m [] 8) (not_flags m []) (lent 8))

-- the count of a mask that `try_new` returns
abbrev pub made_value : Answer (Unit {0}) Bitmap → Value
made_value (given m) = count m.unset
made_value (refused k s) = refusal k

-- `unset_bits` of 100 flags of 25 equal bytes, which makes their count known; then `slice` to the k flags starting at flag 16
abbrev pub cut_to : ℕ → List ℕ → Answer Bitmap Recounted → Value
cut_to k bytes (given r) = sliced_value (slice_of r.mask bytes 16 k)
cut_to k bytes (refused n m) = refusal n

abbrev pub evenly : ℕ → ℕ → Value
evenly byte k = cut_to k (replicate 25 byte) (unset_bits_of (mask_of 0 100 None) (replicate 25 byte))

-- ---- the table

unfoldable pub rows : List Row
rows =
    -- `extend_constant` appends copies of one flag. Three zeros, then two ones.
    row (frozen_in 8 (extend_constant 3 false ∷ extend_constant 2 true ∷ [])) (mask (first 0x18) (Some 3))
    -- A word appends its flags from bit 0. Five flags of 0x0D: 1,0,1,1,0.
    ∷ row (frozen_in 8 (push_word 0x0D 5 ∷ [])) (mask (first 0x0D) (Some 2))
    -- Gathers append the flag at each index, in the order of the indices. 1,0,2 of 1,0,1,1,0,1; 4,0,9 of 0,1,1,0,1, from bit 1.
    ∷ row (frozen_in 8 (extend_gather A-bytes 0 6 (1 ∷ 0 ∷ 2 ∷ []) ∷ [])) (mask (first 0x06) (Some 1))
    ∷ row (frozen_in 8 (extend_opt_gather A-bytes 1 5 (4 ∷ 0 ∷ 9 ∷ []) ∷ [])) (mask (first 0x01) (Some 2))
    -- `and` all zero if either count equals the length; its count is then known as its length. Four zeros, counted or not, on either side.
    ∷ row (pair_of_told And 4 (Some 4) 0xF0 None 0xFF) (mask (first 0) (Some 4))
    ∷ row (pair_of_told And 4 None 0xFF (Some 4) 0xF0) (mask (first 0) (Some 4))
    ∷ row (pair_of_told And 4 None 0xF0 None 0xFF) (mask (first 0) (Some 4))
    -- `or` all one if either count is 0; its count is unknown. Four ones on either side.
    ∷ row (pair_of_told Or 4 (Some 0) 0xFF None 0) (mask (first 0x0F) None)
    ∷ row (pair_of_told Or 4 None 0 (Some 0) 0xFF) (mask (first 0x0F) None)
    -- `xor` constant if both masks are constant by count: if these are equal, all zero with its count; else all one.
    ∷ row (pair_of_told Xor 4 (Some 0) 0xFF (Some 0) 0xFF) (mask (first 0) (Some 4))
    ∷ row (pair_of_told Xor 4 (Some 4) 0 None 0) (mask (first 0) (Some 4))
    ∷ row (pair_of_told Xor 4 (Some 0) 0xFF (Some 4) 0) (mask (first 0x0F) None)
    -- Each call that takes a mask checks a known count again and refuses it with 3 unless it is exact. Four ones with a count of
    -- 4, four zeros with one of 0, two of four with one of 1 and of 3; in the first mask, and in the second.
    ∷ row (pair_of_told And 4 (Some 4) 0xFF None 0xFF) (refusal 3)
    ∷ row (pair_of_told Or 4 None 0 (Some 0) 0) (refusal 3)
    ∷ row (pair_of_told AndNot 4 (Some 1) 0x03 (Some 2) 0x03) (refusal 3)
    ∷ row (pair_of_told AndNot 4 (Some 2) 0x03 (Some 3) 0x03) (refusal 3)
    ∷ row (pair_of_told AndNot 4 (Some 2) 0x03 (Some 2) 0x06) (mask (first 0x01) None)
    -- `try_new` gives known 0 for length 0; a result's count is known as 0 for length 0, with a shortcut or without.
    ∷ row (made_value (try_new_of [] 0 0)) (count (Some 0))
    ∷ row (pair_of_told AndNot 0 None 0 None 0) (mask (lent 8) (Some 0))
    ∷ row (pair_of_told Or 0 None 0 None 0) (mask (lent 8) (Some 0))
    ∷ row not_of_none (mask (lent 8) (Some 0))
    -- `slice` recounts if new length + max(old length div 5, 32) >= old length. 164 div 5 is 32, and 199 div 5 is 39: rounded down.
    ∷ row (sliced_to 132 (mixed 164)) (count (Some 65))
    ∷ row (sliced_to 131 (mixed 164)) (count None)
    ∷ row (sliced_to 160 (mixed 199)) (count (Some 80))
    ∷ row (sliced_to 159 (mixed 199)) (count None)
    -- A known count equal to the old length becomes the new length; a known count of 0 stays 0. Of 100 zeros, and of 100 ones: 5.
    ∷ row (evenly 0 5) (count (Some 5))
    ∷ row (evenly 0xFF 5) (count (Some 0))
    ∷ []

-- the statement: in every row the value of the definitions is that of the reference's words
abbrev pub RulesHold : Type 0
RulesHold = map (λ (r : Row). r.computed) rows ≡ map (λ (r : Row). r.stated) rows

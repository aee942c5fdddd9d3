-- The twelve proved examples of the reference as one table, its line above each row.
--
-- A row has the example's number, the value of the definitions, and what the reference states. Each call goes through the definition that
-- its contract cites; one call after another gets what the one before returned and wrote. `proofs/computed/Examples.antt` proves that the
-- two columns are equal.
use Rattle.std.specs.Prelude.{ℕ, ◌≡◌, true, List, [], ◌∷◌, ◌++◌, map, length, replicate, Option, Some, None}
use Rattle.words.specs.Flags.{is_one}
use Rattle.masks.specs.declared.bitmap.Recounted.{Recounted}
use Rattle.masks.specs.equations.Answer.{Answer, given, refused}
use Rattle.masks.specs.equations.Appends.{Append, push_flag, extend_constant, extend_slice, extend_repeated, extend_gather}
use Rattle.masks.specs.equations.Appends.{extend_opt_gather}
use Rattle.masks.specs.equations.Appends.{append_answer, append_bytes}
use Rattle.masks.specs.Builder.{new_builder}
use Rattle.masks.specs.Combine.{OrNot}
use Rattle.masks.specs.equations.Combine.{pair_of, pair_bytes, select_of, select_bytes}
use Rattle.masks.specs.equations.Compare.{edges_of}
use Rattle.masks.specs.equations.Freeze.{freeze_bytes, freeze_of, into_opt_validity_of}
use Rattle.masks.specs.Frozen.{frozen}
use Rattle.masks.proofs.statements.Listing.{listing}
use Rattle.masks.specs.Mask.{empty_mask, mask_of}
use Rattle.masks.specs.equations.Mask.{slice_of, try_new_of, unset_bits_of}
use Rattle.masks.specs.equations.Search.{search_from, search_back}
use Rattle.masks.specs.SliceIterator.{run_of}
use Rattle.masks.specs.equations.SliceIterator.{new_slices, next_slice}
use Rattle.masks.specs.declared.bitmap.Bitmap.{Bitmap}
use Rattle.masks.specs.declared.builder.BitmapBuilder.{BitmapBuilder}
use Rattle.masks.specs.declared.slice_iterator.Run.{Run}
use Rattle.masks.specs.declared.slice_iterator.SlicesIterator.{SlicesIterator}

-- ---- a row

-- what calls return and write. A mask is its bytes and its zero count.
pub data Value : Type 0 where
  mask : List ℕ → Option ℕ → Value
  count : Option ℕ → Value
  bytes : List ℕ → Value
  validity : Option Bitmap → Value
  runs : List Run → Value
  position : Option ℕ → Value
  edges : ℕ → Value
  accepted : Value
  refusal : ℕ → Value

pub record Example : Type 0 where
  pub number : ℕ
  pub computed : Value
  pub stated : Value

abbrev pub example : ℕ → Value → Value → Example
example n computed stated = record { number = n; computed = computed; stated = stated }

-- ---- answers as values

-- the mask that `freeze` returns, in the bytes that it leaves; the counts of the masks that `unset_bits` and `slice` return
abbrev pub mask_value : List ℕ → Answer BitmapBuilder Bitmap → Value
mask_value its (given m) = mask its m.unset
mask_value its (refused k b) = refusal k

abbrev pub count_value : Answer Bitmap Recounted → Value
count_value (given r) = count r.mask.unset
count_value (refused k m) = refusal k

abbrev pub sliced_value : Answer Bitmap Bitmap → Value
sliced_value (given m) = count m.unset
sliced_value (refused k m) = refusal k

abbrev pub validity_value : Answer BitmapBuilder (Option Bitmap) → Value
validity_value (given v) = validity v
validity_value (refused k b) = refusal k

-- the runs that `next` returns, starting with a new cursor, in at most seven calls
abbrev pub runs_value : List ℕ → Answer (Unit {0}) SlicesIterator → Value
runs_value its (given c) = runs (listing (λ (d : SlicesIterator). next_slice d its) 7 c)
runs_value its (refused k s) = refusal k

abbrev pub position_value : Answer (Unit {0}) (Option ℕ) → Value
position_value (given p) = position p
position_value (refused k s) = refusal k

abbrev pub edges_value : Answer (Unit {0}) ℕ → Value
edges_value (given n) = edges n
edges_value (refused k s) = refusal k

-- what an accepted combination writes
abbrev pub written_value : Answer (Unit {0}) Bitmap → List ℕ → Value
written_value (given m) out = bytes out
written_value (refused k s) out = refusal k

abbrev pub append_value : Answer BitmapBuilder BitmapBuilder → Value
append_value (given b) = accepted
append_value (refused k b) = refusal k

-- ---- the calls of the rows

-- a lent buffer of n bytes, none of them 0 before the call
abbrev pub lent : ℕ → List ℕ
lent n = replicate n 0xAA

-- `new` over a lent buffer of n bytes, these appends, `freeze`
abbrev pub frozen_after : List Append → List ℕ → Answer BitmapBuilder BitmapBuilder → Value
frozen_after [] buf (given b) = mask_value (freeze_bytes b buf) (freeze_of b buf)
frozen_after [] buf (refused k b) = refusal k
frozen_after (a ∷ appends) buf (given b) = frozen_after appends (append_bytes a b buf) (append_answer a b buf)
frozen_after (a ∷ appends) buf (refused k b) = refusal k

abbrev pub frozen_in : ℕ → List Append → Value
frozen_in n appends = frozen_after appends (lent n) (given new_builder)

-- `push` of each flag, written as 0 or 1
abbrev pub pushes : List ℕ → List Append
pushes flags = map (λ (x : ℕ). push_flag (is_one x)) flags

-- a mask of flags, written as 0 or 1, with no known count; and its bytes
abbrev pub mask_in : List ℕ → Bitmap
mask_in flags = mask_of 0 (length flags) None

abbrev pub bytes_in : List ℕ → List ℕ
bytes_in flags = frozen (map is_one flags)

-- `or_not` of p and q
abbrev pub or_not_of : List ℕ → List ℕ → Value
or_not_of p q =
    written_value (pair_of OrNot (mask_in p) (bytes_in p) (mask_in q) (bytes_in q) (lent 8))
    (pair_bytes OrNot (mask_in p) (bytes_in p) (mask_in q) (bytes_in q) (lent 8))

-- `select` by s from t and f
abbrev pub select_value : List ℕ → List ℕ → List ℕ → Value
select_value s t f =
    written_value (select_of (mask_in s) (bytes_in s) (mask_in t) (bytes_in t) (mask_in f) (bytes_in f) (lent 8))
    (select_bytes (mask_in s) (bytes_in s) (mask_in t) (bytes_in t) (mask_in f) (bytes_in f) (lent 8))

-- `try_new` of n flags over 25 bytes 0x2D, each with four zeros, and `unset_bits`, which makes their count known
abbrev pub mixed_bytes : List ℕ
mixed_bytes = replicate 25 0x2D

abbrev pub counted : Answer (Unit {0}) Bitmap → Answer Bitmap Recounted
counted (given m) = unset_bits_of m mixed_bytes
counted (refused k s) = refused k empty_mask

abbrev pub mixed : ℕ → Answer Bitmap Recounted
mixed n = counted (try_new_of mixed_bytes 0 n)

-- `slice` of such a mask to the k flags starting at flag 16
abbrev pub sliced_to : ℕ → Answer Bitmap Recounted → Value
sliced_to k (given r) = sliced_value (slice_of r.mask mixed_bytes 16 k)
sliced_to k (refused n m) = refusal n

-- this byte first, then seven zero bytes
abbrev pub first : ℕ → List ℕ
first b = b ∷ replicate 7 0

-- ---- the table

-- A = 1,0,1,1,0,1, in byte 0x2D.
abbrev pub A : List ℕ
A = 1 ∷ 0 ∷ 1 ∷ 1 ∷ 0 ∷ 1 ∷ []

abbrev pub A-bytes : List ℕ
A-bytes = 0x2D ∷ []

unfoldable pub examples : List Example
examples =
    -- 1. A freezes to 0x2D and seven zero bytes, 2 zeros.
    example 1 (frozen_in 8 (pushes A)) (mask (first 0x2D) (Some 2))
    -- 2. Start 2, length 4 of 0x2D: 0x0B first, 1 zero.
    ∷ example 2 (frozen_in 8 (extend_slice A-bytes 2 4 ∷ [])) (mask (first 0x0B) (Some 1))
    -- 3. Runs of A: (0,1), (2,2), (5,1).
    ∷ example 3 (runs_value A-bytes (new_slices (mask_in A) A-bytes)) (runs (run_of 0 1 ∷ run_of 2 2 ∷ run_of 5 1 ∷ []))
    -- 4. A forward from 0: n 2 gives 3; n 4 none. Backward from 5: n 1 gives 2; from 900, n 3 gives 0.
    ∷ example 4 (position_value (search_from A-bytes 0 6 2 0)) (position (Some 3))
    ∷ example 4 (position_value (search_from A-bytes 0 6 4 0)) (position None)
    ∷ example 4 (position_value (search_back A-bytes 0 6 1 5)) (position (Some 2))
    ∷ example 4 (position_value (search_back A-bytes 0 6 3 900)) (position (Some 0))
    -- 5. 60 ones, then 5: eight 0xFF, 0x01, seven zero bytes.
    ∷ example 5 (frozen_in 16 (extend_constant 60 true ∷ extend_constant 5 true ∷ [])) (mask (replicate 8 0xFF ++ first 0x01) (Some 0))
    -- 6. Empty: no bytes, 0 zeros, validity none. (No buffer is needed, and one that is lent stays as it was.)
    ∷ example 6 (frozen_in 0 []) (mask [] (Some 0))
    ∷ example 6 (frozen_in 8 []) (mask (lent 8) (Some 0))
    ∷ example 6 (validity_value (into_opt_validity_of new_builder [])) (validity None)
    -- 7. `or_not` of 0,0,1 and 1,0,0: 0x06 first.
    ∷ example 7 (or_not_of (0 ∷ 0 ∷ 1 ∷ []) (1 ∷ 0 ∷ 0 ∷ [])) (bytes (first 0x06))
    -- 8. `select` by 1,0,1,0 from 1,1,0,0 and 0,1,1,1: 0x0B first.
    ∷ example 8 (select_value (1 ∷ 0 ∷ 1 ∷ 0 ∷ []) (1 ∷ 1 ∷ 0 ∷ 0 ∷ []) (0 ∷ 1 ∷ 1 ∷ 1 ∷ [])) (bytes (first 0x0B))
    -- 9. `num_edges` of A: 4.
    ∷ example 9 (edges_value (edges_of (mask_in A) A-bytes)) (edges 4)
    -- 10. Optional gather 5,6,0 from A: 0x05 first; the strict one gives 6.
    ∷ example 10 (frozen_in 8 (extend_opt_gather A-bytes 0 6 (5 ∷ 6 ∷ 0 ∷ []) ∷ [])) (mask (first 0x05) (Some 1))
    ∷ example 10 (append_value (append_answer (extend_gather A-bytes 0 6 (5 ∷ 6 ∷ 0 ∷ [])) new_builder (lent 8))) (refusal 6)
    -- 11. Example 2 repeated twice: 0xCF first.
    ∷ example 11 (frozen_in 8 (extend_repeated A-bytes 2 4 2 ∷ [])) (mask (first 0xCF) (Some 2))
    -- 12. Mixed known mask of 100 flags: slice to 68 recounted, to 67 unknown; of 200: 160 and 159.
    ∷ example 12 (count_value (mixed 100)) (count (Some 49))
    ∷ example 12 (sliced_to 68 (mixed 100)) (count (Some 33))
    ∷ example 12 (sliced_to 67 (mixed 100)) (count None)
    ∷ example 12 (count_value (mixed 200)) (count (Some 100))
    ∷ example 12 (sliced_to 160 (mixed 200)) (count (Some 80))
    ∷ example 12 (sliced_to 159 (mixed 200)) (count None)
    ∷ []

-- the statement: in every row the value of the definitions is what the reference states
abbrev pub ExamplesHold : Type 0
ExamplesHold = map (λ (e : Example). e.computed) examples ≡ map (λ (e : Example). e.stated) examples

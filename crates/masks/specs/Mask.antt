-- The mask: its flags, its zero count, and what a slice makes of them.
use Rattle.std.specs.Prelude.{ℕ, ◌+◌, ◌-◌, ◌/◌, max, Bool, true, cond, not, ◌&&◌, List, [], ◌∷◌, ◌++◌, eqb, leb, length, Option}
use Rattle.std.specs.Prelude.{Some, None}
use Rattle.words.specs.Loops.{stretch}
use Rattle.masks.specs.Checks.{Check, check, output_checks, within_limit, span_checks}
use Rattle.masks.specs.Utils.{zeros}
use Rattle.masks.specs.declared.bitmap.Bitmap.{Bitmap}

-- a mask under a serial, with its start, length and count: the one place where its record is made
abbrev pub mask_under : ℕ → ℕ → ℕ → Option ℕ → Bitmap
mask_under serial start n unset = record { start = start; length = n; unset = unset; serial = serial }

-- a mask that is made of no other one, with its start, length and count: its serial is 0
abbrev pub mask_of : ℕ → ℕ → Option ℕ → Bitmap
mask_of start n unset = mask_under 0 start n unset

-- a mask cut to the n flags of its bytes starting at `start`, with their count, under its serial
abbrev pub cut_mask : Bitmap → ℕ → ℕ → Option ℕ → Bitmap
cut_mask m start n unset = mask_under m.serial start n unset

-- a mask with another count
abbrev pub with_count : Bitmap → Option ℕ → Bitmap
with_count m unset = cut_mask m m.start m.length unset

-- the flags of a mask in its bytes
abbrev pub mask_flags : Bitmap → List ℕ → List Bool
mask_flags m bytes = stretch bytes m.start m.length

-- ---- the zero count

-- whether a count, if known, is n
abbrev pub count_is : Option ℕ → ℕ → Bool
count_is (Some z) n = eqb z n
count_is None n = true

-- check 3: a known zero count is the number of zeros among the mask's flags
abbrev pub count_valid : Bitmap → List ℕ → Bool
count_valid m bytes = count_is m.unset (zeros (mask_flags m bytes))

-- how many of the mask's flags are zero
unfoldable pub zero_count : Bitmap → List ℕ → ℕ
zero_count m bytes = zeros (mask_flags m bytes)

-- the count of n flags that were not counted: known as 0 if there are none, else unknown
abbrev pub uncounted : ℕ → Option ℕ
uncounted n = cond (eqb n 0) (Some 0) None

-- the mask of n flags that are written: it starts at 0, its zeros are not counted, its serial is that of the mask they were taken from
abbrev pub written_mask : Bitmap → ℕ → Bitmap
written_mask m n = cut_mask m 0 n (uncounted n)

-- checks 1 to 3 of a mask
unfoldable pub mask_checks : Bitmap → List ℕ → List Check
mask_checks m bytes = span_checks m.start m.length (length bytes) ++ (check 3 (count_valid m bytes) ∷ [])

-- ---- new, try_new, unset_bits

abbrev pub empty_mask : Bitmap
empty_mask = mask_of 0 0 (Some 0)

-- checks 1 and 9 of a mask of n zeros in an output of `size` bytes
unfoldable pub zeroed_checks : ℕ → ℕ → List Check
zeroed_checks n size = within_limit n ∷ output_checks n size

-- ---- slice

-- the zeros that a slice of n flags starting at `offset` cuts off, before it and after it
unfoldable pub cut_zeros : Bitmap → List ℕ → ℕ → ℕ → ℕ
cut_zeros m bytes offset n =
    zeros (stretch bytes m.start offset) + zeros (stretch bytes (m.start + offset + n) (m.length - (offset + n)))

-- whether a slice of n of `old` flags recounts a known count z: z is neither 0 nor `old`, and at most max(old div 5, 32) are cut off
unfoldable pub recounts : ℕ → ℕ → ℕ → Bool
recounts old n z = not (eqb z 0) && (not (eqb z old) && leb old (n + max (old / 5) 32))

-- a known count z of `old` flags that is not recounted: 0 stays 0, `old` becomes the new length n, else it is unknown
unfoldable pub kept_count : ℕ → ℕ → ℕ → Option ℕ
kept_count z old n = cond (eqb z 0) (Some 0) (cond (eqb z old) (Some n) None)

-- the count of a slice of n of `old` flags that cuts off `cut` zeros
abbrev pub sliced_count : ℕ → ℕ → ℕ → Option ℕ → Option ℕ
sliced_count old n cut None = None
sliced_count old n cut (Some z) = cond (recounts old n z) (Some (z - cut)) (kept_count z old n)

-- check 7, made if the slice recounts: the known count is at least `cut`, and what is left at most n
abbrev pub recount_valid : ℕ → ℕ → ℕ → Option ℕ → Bool
recount_valid old n cut None = true
recount_valid old n cut (Some z) = cond (recounts old n z) (leb cut z && leb (z - cut) n) true

-- checks 1, 2, 3 and 6 of a slice of n flags starting at `offset`
unfoldable pub piece_checks : Bitmap → List ℕ → ℕ → ℕ → List Check
piece_checks m bytes offset n =
    mask_checks m bytes
    ++ (within_limit offset ∷ within_limit n ∷ within_limit (m.start + offset) ∷ check 6 (leb (offset + n) m.length) ∷ [])

unfoldable pub slice_checks : Bitmap → List ℕ → ℕ → ℕ → List Check
slice_checks m bytes offset n =
    piece_checks m bytes offset n
    ++ (check 7 (recount_valid m.length n (cut_zeros m bytes offset n) m.unset) ∷ [])

abbrev pub sliced_mask : Bitmap → List ℕ → ℕ → ℕ → Bitmap
sliced_mask m bytes offset n = cut_mask m (m.start + offset) n (sliced_count m.length n (cut_zeros m bytes offset n) m.unset)

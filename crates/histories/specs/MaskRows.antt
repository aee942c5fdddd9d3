-- The calls of masks that make a mask from masks, as rows: `slice`, `unset_bits` and the eight combinations.
use Rattle.std.specs.Prelude.{ℕ, Bool, List}
use Rattle.words.specs.declared.ops.Op.{Op}
use Rattle.words.specs.declared.ops.Op.TheVariants.{And, AndNot, Or, OrNot, Xor}
use Rattle.masks.specs.declared.bitmap.Recounted.{Recounted}
use Rattle.masks.specs.equations.Answer.{Answer, given, refused}
use Rattle.masks.specs.equations.Combine.{pair_of, pair_bytes, not_of, not_bytes, select_of, select_bytes, select_constant_of}
use Rattle.masks.specs.equations.Combine.{select_constant_bytes}
use Rattle.masks.specs.equations.Mask.{slice_of, unset_bits_of}
use Rattle.masks.specs.declared.bitmap.Bitmap.{Bitmap}
use Rattle.histories.specs.ReferenceList.{Pair, and, and_not, or, or_not, xor, inverted, flag_by_flag, piece, selected, selected_or}
use Rattle.histories.specs.Rows.{Argument, Keeps, Lent, RowCall, Tuple, Writes, keep, write, of_one, of_two, of_three}

-- ---- `slice` keeps its piece of the list; `unset_bits` leaves the list unchanged

abbrev pub slice_row : ℕ → ℕ → Keeps
slice_row offset n = record { answer = λ m bytes. slice_of m bytes offset n; flags = piece offset n }

-- the mask that `unset_bits` returns
abbrev pub recounted : Answer Bitmap Recounted → Answer Bitmap Bitmap
recounted (given r) = given r.mask
recounted (refused k m) = refused k m

abbrev pub count_row : Keeps
count_row = record { answer = λ m bytes. recounted (unset_bits_of m bytes); flags = λ l. l }

-- ---- the eight combinations

abbrev pub pair_op : Pair → Op
pair_op and = And
pair_op and_not = AndNot
pair_op or = Or
pair_op or_not = OrNot
pair_op xor = Xor

abbrev pub pair_row : Pair → List ℕ → Writes
pair_row op out =
    record {
      masks = 2;
      answer = of_two (λ (p q : Lent). pair_of (pair_op op) p.mask p.bytes q.mask q.bytes out);
      bytes = of_two (λ (p q : Lent). pair_bytes (pair_op op) p.mask p.bytes q.mask q.bytes out);
      flags = of_two (flag_by_flag op);
    }

abbrev pub not_row : List ℕ → Writes
not_row out =
    record {
      masks = 1;
      answer = of_one (λ (p : Lent). not_of p.mask p.bytes out);
      bytes = of_one (λ (p : Lent). not_bytes p.mask p.bytes out);
      flags = of_one inverted;
    }

abbrev pub select_row : List ℕ → Writes
select_row out =
    record {
      masks = 3;
      answer = of_three (λ (s t f : Lent). select_of s.mask s.bytes t.mask t.bytes f.mask f.bytes out);
      bytes = of_three (λ (s t f : Lent). select_bytes s.mask s.bytes t.mask t.bytes f.mask f.bytes out);
      flags = of_three selected;
    }

abbrev pub constant_row : Bool → List ℕ → Writes
constant_row x out =
    record {
      masks = 2;
      answer = of_two (λ (s t : Lent). select_constant_of s.mask s.bytes t.mask t.bytes x out);
      bytes = of_two (λ (s t : Lent). select_constant_bytes s.mask s.bytes t.mask t.bytes x out);
      flags = of_two (selected_or x);
    }

pub data Combination : Type 0 where
  pair : Pair → Combination
  invert : Combination
  select : Combination
  select_constant : Bool → Combination

abbrev pub combination_row : Combination → List ℕ → Writes
combination_row (pair op) out = pair_row op out
combination_row invert out = not_row out
combination_row select out = select_row out
combination_row (select_constant x) out = constant_row x out

-- ---- the table: the reference's calls that make a mask from masks

pub data MaskCall : Type 0 where
  slice : ℕ → ℕ → MaskCall
  unset_bits : MaskCall
  -- a combination, its output and its masks
  combine : (c : Combination) (out : List ℕ) → Tuple Argument (combination_row c out).masks → MaskCall

abbrev pub mask_call : MaskCall → RowCall
mask_call (slice offset n) = keep (slice_row offset n)
mask_call unset_bits = keep count_row
mask_call (combine c out a) = write (combination_row c out) a

-- Which masks have a known zero count, in the reference's words, for every call that returns a mask; of `superseding` and
-- `superseding_part`, which return the winner's count, `SupersedingPlain` states it.
--
-- Each line is about a call that was accepted. The statement names none of the definitions that compute a count.
use Rattle.std.specs.Prelude.{ℕ, suc, ◌+◌, ◌-◌, ◌/◌, ◌≤◌, ◌<◌, max, ◌≡◌, Bool, List, length, ◌⊎◌, Some, None}
use Rattle.words.specs.Flags.{count, word_flags}
use Rattle.words.specs.Loops.{stretch}
use Rattle.words.specs.declared.ops.Op.{Op}
use Rattle.masks.specs.declared.bitmap.Recounted.{Recounted}
use Rattle.masks.specs.equations.Answer.{Answer, given}
use Rattle.masks.specs.Combine.{And, AndNot, Or, OrNot, Xor}
use Rattle.masks.specs.equations.Combine.{pair_of, not_of, select_of, select_constant_of}
use Rattle.masks.specs.equations.Freeze.{freeze_of, into_opt_validity_of}
use Rattle.masks.specs.Mask.{mask_flags, empty_mask}
use Rattle.masks.specs.equations.Mask.{try_new_of, new_zeroed_of, unset_bits_of, slice_of}
use Rattle.masks.specs.Utils.{zeros}
use Rattle.masks.specs.declared.bitmap.Bitmap.{Bitmap}
use Rattle.masks.specs.declared.builder.BitmapBuilder.{BitmapBuilder}

-- z is the count of a mask: the known one, or the number of its zeros if the count is unknown
pub data Brings (m : Bitmap) (bytes : List ℕ) (z : ℕ) : Type 0 where
  told : m.unset ≡ Some z → Brings m bytes z
  counted : m.unset ≡ None → z ≡ zeros (mask_flags m bytes) → Brings m bytes z

-- ---- masks made, counted and cut

pub record MadeCounts : Type 0 where
  -- `new` is the empty mask with known 0; `try_new` has known 0 for length 0, else unknown; `new_zeroed` has its length
  pub new : empty_mask.unset ≡ Some 0
  pub try_new-none : (bytes : List ℕ) (start : ℕ) (m : Bitmap) → given m ≡ try_new_of bytes start 0 → m.unset ≡ Some 0
  pub try-new : (bytes : List ℕ) (start n : ℕ) (m : Bitmap) → given m ≡ try_new_of bytes start (suc n) → m.unset ≡ None
  pub new_zeroed : (n : ℕ) (out : List ℕ) (m : Bitmap) → given m ≡ new_zeroed_of n out → m.unset ≡ Some n
  -- `freeze`: length minus ones, those held and those in the word
  pub freeze : (b : BitmapBuilder) (buf : List ℕ) (m : Bitmap) → given m ≡ freeze_of b buf
      → m.unset ≡ Some (b.length - (b.ones + count (word_flags b.word)))
  -- `into_opt_validity`, if it returns a mask: as `freeze`
  pub into-opt-validity : (b : BitmapBuilder) (buf : List ℕ) (m : Bitmap) → given (Some m) ≡ into_opt_validity_of b buf
      → m.unset ≡ Some (b.length - (b.ones + count (word_flags b.word)))
  -- `unset_bits` returns the mask with its count known
  pub unset_bits : (m : Bitmap) (bytes : List ℕ) (r : Recounted) (z : ℕ) → given r ≡ unset_bits_of m bytes → Brings m bytes z
      → (r.zeros ≡ z) × (r.mask.unset ≡ Some z)

-- s is an accepted slice of n flags of a mask, starting at flag `offset`
pub record SliceCounts (m : Bitmap) (bytes : List ℕ) (offset n : ℕ) (s : Bitmap) : Type 0 where
  -- an unknown count stays unknown; 0 stays 0; one equal to the old length becomes the new length
  pub unknown : m.unset ≡ None → s.unset ≡ None
  pub none : m.unset ≡ Some 0 → s.unset ≡ Some 0
  pub all : m.unset ≡ Some m.length → s.unset ≡ Some n
  -- another is recounted if new length + max(old length div 5, 32) >= old length: less the zeros cut off before and after
  pub recounted : (z : ℕ) → m.unset ≡ Some z → (z ≡ 0 → ⊥) → (z ≡ m.length → ⊥) → m.length ≤ n + max (m.length / 5) 32
      → s.unset ≡ Some (z - (zeros (stretch bytes m.start offset) + zeros (stretch bytes (m.start + offset + n) (m.length - (offset + n)))))
  -- else it becomes unknown
  pub dropped : (z : ℕ) → m.unset ≡ Some z → (z ≡ 0 → ⊥) → (z ≡ m.length → ⊥) → n + max (m.length / 5) 32 < m.length → s.unset ≡ None

-- ---- combinations

-- two masks of n flags, with counts l and r, combined by `op` into a mask c
pub record PairCounts (n l r : ℕ) (op : Op) (c : Bitmap) : Type 0 where
  -- known as 0 for length 0
  pub none : n ≡ 0 → c.unset ≡ Some 0
  -- known as the length if a shortcut of `and` or `xor` makes all zeros
  pub and-zeros : op ≡ And → (l ≡ n) ⊎ (r ≡ n) → c.unset ≡ Some n
  pub xor-zeros : op ≡ Xor → ((l ≡ n) × (r ≡ n)) ⊎ ((l ≡ 0) × (r ≡ 0)) → c.unset ≡ Some n
  -- else unknown
  pub and-other : op ≡ And → (n ≡ 0 → ⊥) → (l ≡ n → ⊥) → (r ≡ n → ⊥) → c.unset ≡ None
  pub xor-other : op ≡ Xor → (n ≡ 0 → ⊥) → (l ≡ n → r ≡ n → ⊥) → (l ≡ 0 → r ≡ 0 → ⊥) → c.unset ≡ None
  pub others : (op ≡ Or) ⊎ ((op ≡ AndNot) ⊎ (op ≡ OrNot)) → (n ≡ 0 → ⊥) → c.unset ≡ None

-- the results of `not`, `select` and `select_constant`, by the number of their flags
pub record EachCounts (n : ℕ) (answer : Answer (Unit {0}) Bitmap) : Type 0 where
  pub none : (c : Bitmap) → given c ≡ answer → n ≡ 0 → c.unset ≡ Some 0
  pub other : (c : Bitmap) → given c ≡ answer → (n ≡ 0 → ⊥) → c.unset ≡ None

-- the statement
pub record CountsPlainly : Type 0 where
  -- zeros and ones together are all flags
  pub zeros-and-ones : (l : List Bool) → zeros l + count l ≡ length l
  pub made : MadeCounts
  pub slice : (m : Bitmap) (bytes : List ℕ) (offset n : ℕ) (s : Bitmap) → given s ≡ slice_of m bytes offset n
      → SliceCounts m bytes offset n s
  pub pair : (op : Op) (a : Bitmap) (a_bytes : List ℕ) (b : Bitmap) (b_bytes out : List ℕ) (c : Bitmap) (l r : ℕ)
      → given c ≡ pair_of op a a_bytes b b_bytes out → Brings a a_bytes l → Brings b b_bytes r → PairCounts a.length l r op c
  pub inverted : (m : Bitmap) (bytes out : List ℕ) → EachCounts m.length (not_of m bytes out)
  pub selected : (s : Bitmap) (s_bytes : List ℕ) (t : Bitmap) (t_bytes : List ℕ) (f : Bitmap) (f_bytes out : List ℕ)
      → EachCounts s.length (select_of s s_bytes t t_bytes f f_bytes out)
  pub selected-constant : (s : Bitmap) (s_bytes : List ℕ) (t : Bitmap) (t_bytes : List ℕ) (x : Bool) (out : List ℕ)
      → EachCounts s.length (select_constant_of s s_bytes t t_bytes x out)

-- The serial of every record that a call returns, in the words of the reference.
--
-- Each line is about a call that was accepted; a refused one returns the record passed to it (`Refusals`). The statement names none of the
-- definitions that make a serial.
use Rattle.std.specs.Prelude.{ℕ, ◌≤◌, ◌≡◌, Bool, List, [], ◌∷◌, ◌⊎◌, Some}
use Rattle.words.specs.declared.ops.Op.{Op}
use Rattle.masks.specs.declared.bitmap.Recounted.{Recounted}
use Rattle.masks.specs.equations.Answer.{given}
use Rattle.masks.specs.equations.Appends.{Append, append_answer}
use Rattle.masks.specs.Builder.{new_builder}
use Rattle.masks.specs.equations.Combine.{pair_of, not_of, select_of, select_constant_of}
use Rattle.masks.specs.equations.Freeze.{freeze_of, into_opt_validity_of}
use Rattle.masks.specs.Mask.{empty_mask}
use Rattle.masks.specs.equations.Mask.{try_new_of, new_zeroed_of, unset_bits_of, slice_of}
use Rattle.masks.specs.declared.bitmap.Bitmap.{Bitmap}
use Rattle.masks.specs.declared.builder.BitmapBuilder.{BitmapBuilder}

-- s is the largest of these numbers: each is at most s, and s is one of them
abbrev pub NoneAbove : ℕ → List ℕ → Type 0
NoneAbove s [] = Unit {0}
NoneAbove s (n ∷ ns) = (n ≤ s) × NoneAbove s ns

abbrev pub OneOf : ℕ → List ℕ → Type 0
OneOf s [] = ⊥
OneOf s (n ∷ ns) = (s ≡ n) ⊎ OneOf s ns

abbrev pub Largest : ℕ → List ℕ → Type 0
Largest s ns = NoneAbove s ns × OneOf s ns

pub record SerialsPlainly : Type 0 where
  -- a new builder, `new`, `new_zeroed` and `try_new`: 0
  pub new-builder : new_builder.serial ≡ 0
  pub new : empty_mask.serial ≡ 0
  pub new_zeroed : (n : ℕ) (out : List ℕ) (m : Bitmap) → given m ≡ new_zeroed_of n out → m.serial ≡ 0
  pub try-new : (bytes : List ℕ) (start n : ℕ) (m : Bitmap) → given m ≡ try_new_of bytes start n → m.serial ≡ 0
  -- extensions, both pushes among them, leave the builder's own; `freeze` and `into_opt_validity` hand it on
  pub append : (a : Append) (b : BitmapBuilder) (buf : List ℕ) (c : BitmapBuilder) → given c ≡ append_answer a b buf → c.serial ≡ b.serial
  pub freeze : (b : BitmapBuilder) (buf : List ℕ) (m : Bitmap) → given m ≡ freeze_of b buf → m.serial ≡ b.serial
  pub into-opt-validity : (b : BitmapBuilder) (buf : List ℕ) (m : Bitmap) → given (Some m) ≡ into_opt_validity_of b buf
      → m.serial ≡ b.serial
  -- `slice` and `unset_bits` keep their mask's
  pub slice : (m : Bitmap) (bytes : List ℕ) (offset n : ℕ) (s : Bitmap) → given s ≡ slice_of m bytes offset n → s.serial ≡ m.serial
  pub unset_bits : (m : Bitmap) (bytes : List ℕ) (r : Recounted) → given r ≡ unset_bits_of m bytes → r.mask.serial ≡ m.serial
  -- a combination takes the largest of its masks
  pub pair : (op : Op) (a : Bitmap) (a_bytes : List ℕ) (b : Bitmap) (b_bytes out : List ℕ) (c : Bitmap)
      → given c ≡ pair_of op a a_bytes b b_bytes out
      → Largest c.serial (a.serial ∷ b.serial ∷ [])
  pub inverted : (m : Bitmap) (bytes out : List ℕ) (c : Bitmap) → given c ≡ not_of m bytes out → c.serial ≡ m.serial
  pub selected : (s : Bitmap) (s_bytes : List ℕ) (t : Bitmap) (t_bytes : List ℕ) (f : Bitmap) (f_bytes out : List ℕ) (c : Bitmap)
      → given c ≡ select_of s s_bytes t t_bytes f f_bytes out → Largest c.serial (s.serial ∷ t.serial ∷ f.serial ∷ [])
  pub selected-constant : (s : Bitmap) (s_bytes : List ℕ) (t : Bitmap) (t_bytes : List ℕ) (x : Bool) (out : List ℕ) (c : Bitmap)
      → given c ≡ select_constant_of s s_bytes t t_bytes x out → Largest c.serial (s.serial ∷ t.serial ∷ [])

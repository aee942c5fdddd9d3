-- What must be proved of a row's call; no history, no state and no reference list is named here. The statement on
-- histories (`OneMeaning`) does not cite this file; its proof uses these definitions and knows no call by name.
use Rattle.std.specs.Prelude.{ℕ, ◌≡◌, Bool, List}
use Rattle.masks.specs.equations.Answer.{given, refused}
use Rattle.masks.specs.Mask.{mask_flags}
use Rattle.masks.proofs.statements.TrueCounts.{Sound, Truthful}
use Rattle.masks.specs.declared.bitmap.Bitmap.{Bitmap}
use Rattle.histories.specs.Rows.{Every, Keeps, Lent, RowCall, Tuple, Writes, each, keep, write}

-- a mask whose count is unknown or true
abbrev pub Honest : Lent → Type 0
Honest x = Truthful x.mask x.bytes

abbrev pub lent_flags : Lent → List Bool
lent_flags x = mask_flags x.mask x.bytes

-- a mask that is sound in its bytes and has these flags
pub record Stands (m : Bitmap) (bytes : List ℕ) (l : List Bool) : Type 0 where
  pub sound : Sound m bytes
  pub flags : mask_flags m bytes ≡ l

-- if the call is accepted, its masks have unknown or true counts, and its result is sound, with the flags that the row makes of theirs
pub record LawfulWrites (r : Writes) : Type 0 where
  pub honest : (a : Tuple Lent r.masks) (m : Bitmap) → r.answer a ≡ given m → Every Honest r.masks a
  pub made : (a : Tuple Lent r.masks) (m : Bitmap) → r.answer a ≡ given m
      → Stands m (r.bytes a) (r.flags (each lent_flags r.masks a))

-- an accepted call on a sound mask returns a sound mask in the same bytes, with the row's flags; a refusal returns the mask unchanged
pub record LawfulKeeps (r : Keeps) : Type 0 where
  pub made : (m : Bitmap) (bytes : List ℕ) → Sound m bytes → (g : Bitmap) → r.answer m bytes ≡ given g
      → Stands g bytes (r.flags (mask_flags m bytes))
  pub left : (m : Bitmap) (bytes : List ℕ) (k : ℕ) (g : Bitmap) → r.answer m bytes ≡ refused k g → g ≡ m

abbrev pub Lawful : RowCall → Type 0
Lawful (keep r) = LawfulKeeps r
Lawful (write r a) = LawfulWrites r

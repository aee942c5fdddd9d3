-- Calls that make a mask from masks, as rows: what the call answers, the bytes in which its mask lies, and what it makes of lists of
-- flags.
--
-- A row's answer and bytes are the definitions that the call's contract cites. Its flags are the reference list's own words: by their
-- type they see only lists of flags, no record, no byte and no count of the masks.
use Rattle.std.specs.Prelude.{ℕ, zero, suc, Bool, List}
use Rattle.masks.specs.equations.Answer.{Answer}
use Rattle.masks.specs.declared.bitmap.Bitmap.{Bitmap}

-- ---- the masks that a call takes

-- a mask with the bytes in which it lies
pub record Lent : Type 0 where
  pub mask : Bitmap
  pub bytes : List ℕ

abbrev pub with_bytes : Bitmap → List ℕ → Lent
with_bytes m bytes = record { mask = m; bytes = bytes }

-- n items of one type, the first one outermost
abbrev pub Tuple : Type 0 → ℕ → Type 0
Tuple A zero = Unit {0}
Tuple A (suc n) = A × Tuple A n

abbrev pub one : {A : Type 0} → A → Tuple A 1
one x = (x, tt)

abbrev pub two : {A : Type 0} → A → A → Tuple A 2
two x y = (x, (y, tt))

abbrev pub three : {A : Type 0} → A → A → A → Tuple A 3
three x y z = (x, (y, (z, tt)))

-- a function of one, two or three arguments, applied to a tuple
abbrev pub of_one : {A B : Type 0} → (A → B) → Tuple A 1 → B
of_one f t = f t.0

abbrev pub of_two : {A B : Type 0} → (A → A → B) → Tuple A 2 → B
of_two f t = f t.0 t.1.0

abbrev pub of_three : {A B : Type 0} → (A → A → A → B) → Tuple A 3 → B
of_three f t = f t.0 t.1.0 t.1.1.0

abbrev pub each : {A B : Type 0} → (A → B) → (n : ℕ) → Tuple A n → Tuple B n
each f zero t = tt
each f (suc n) t = (f t.0, each f n t.1)

abbrev pub Every : {A : Type 0} → (A → Type 0) → (n : ℕ) → Tuple A n → Type 0
Every P zero t = Unit {0}
Every P (suc n) t = P t.0 × Every P n t.1

-- ---- rows

-- a call that takes `masks` masks and writes a mask into an output; the output and the call's numbers are in the row
pub record Writes : Type 0 where
  pub masks : ℕ
  pub answer : Tuple Lent masks → Answer (Unit {0}) Bitmap
  pub bytes : Tuple Lent masks → List ℕ
  pub flags : Tuple (List Bool) masks → List Bool

-- a call on a mask that stays in the mask's bytes; a refusal returns a record
pub record Keeps : Type 0 where
  pub answer : Bitmap → List ℕ → Answer Bitmap Bitmap
  pub flags : List Bool → List Bool

-- ---- a row with the masks that are its call's arguments

-- the history's own mask, or another with its bytes
pub data Argument : Type 0 where
  own : Argument
  other : Bitmap → List ℕ → Argument

-- a call that stays in its bytes is made on the history's own mask; one that writes gets a mask for each of its places
pub data RowCall : Type 0 where
  keep : Keeps → RowCall
  write : (r : Writes) → Tuple Argument r.masks → RowCall

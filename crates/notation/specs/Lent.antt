-- What the lines lend, by letter.
use Rattle.std.specs.Prelude.{◌≡◌, ◌==◌, ℕ, ℤ, Bool, false, List, [], ◌∷◌, length}
use Rattle.notation.specs.List.{Listed}
use Rattle.notation.specs.Fault.{IsOfMemory}
use Rattle.notation.specs.declared.fault.Fault.{Fault}
use Rattle.notation.specs.declared.last.Last.{Last}
use Rattle.notation.specs.declared.lent.ByLetter.{ByLetter}
use Rattle.notation.specs.declared.lent.Letter.{Letter}
use Rattle.notation.specs.declared.lent.Letter.TheVariants.{X, Y, Z, O, I, E}

-- bytes, numbers and ends by their letters
abbrev pub Lists : Type 0
Lists = ByLetter (Listed ℕ) (Listed ℕ) (Listed ℤ)

-- how many bytes, numbers and ends are lent
abbrev pub sizes_of : Lists → ByLetter ℕ ℕ ℕ
sizes_of l = record {
  x = length l.x.items;
  y = length l.y.items;
  z = length l.z.items;
  o = length l.o.items;
  i = length l.i.items;
  e = length l.e.items;
}

-- except for this letter, `old` and `new` lend the same
abbrev pub KeptBut : Letter → Lists → Lists → Type 0
KeptBut X old new = new ≡ record old { x = new.x }
KeptBut Y old new = new ≡ record old { y = new.y }
KeptBut Z old new = new ≡ record old { z = new.z }
KeptBut O old new = new ≡ record old { o = new.o }
KeptBut I old new = new ≡ record old { i = new.i }
KeptBut E old new = new ≡ record old { e = new.e }

-- whether a text of pieces begins with `@`, for the bytes or the ends that the last call left
abbrev pub is_again : List ℕ → Bool
is_again [] = false
is_again (b ∷ rest) = b == 64

-- this letter lends, in l, what the last call left; of i, which lends numbers, nothing is stated
abbrev pub IsLeft : Letter → Lists → Last → Type 0
IsLeft X l last = l.x.items ≡ last.bytes.items
IsLeft Y l last = l.y.items ≡ last.bytes.items
IsLeft Z l last = l.z.items ≡ last.bytes.items
IsLeft O l last = l.o.items ≡ last.bytes.items
IsLeft I l last = Unit {0}
IsLeft E l last = l.e.items ≡ last.ends.items

-- why a line that lends what the last call left ends early: memory; of i, which lends numbers, nothing is stated
abbrev pub IsUnlent : Letter → Fault → Type 0
IsUnlent X e = IsOfMemory e
IsUnlent Y e = IsOfMemory e
IsUnlent Z e = IsOfMemory e
IsUnlent O e = IsOfMemory e
IsUnlent I e = Unit {0}
IsUnlent E e = IsOfMemory e

-- What lies in eight bytes: the test, and three words combined.
use Rattle.std.proofs.Common.{◌≡◌, refl, sym, ap, ◌∙◌, Bool, true, ◌&&◌, List, ℕ, ◌+◌, ◌-◌, ◌*◌, ◌/◌, ◌%◌, ◌≤◌, ◌<◌, arith}
use Rattle.std.proofs.Common.{⊎_elim, leb, take}
use Rattle.std.proofs.lemmas.Bool.{and_parts, cases_lt}
use Rattle.std.proofs.lemmas.Bool.{le-leb, lt-leb, leb-true}
use Rattle.words.specs.Flags.{bits, window}
use Rattle.words.specs.Ops.{zip3}
use Rattle.words.specs.Short.{lies_near}
use Rattle.words.proofs.flags.Windows.{in_window}
use Rattle.words.proofs.ops.Combining.{cut_word}

-- what the test says
pub record Near (size start n : ℕ) : Type 0 where
  pub inside : start % 8 + n ≤ 64
  pub lent : start / 8 + 8 ≤ size

pub near : (size start n : ℕ) → lies_near size start n ≡ true → Near size start n
unfolding lies_near
near size start n e =
    let both = and_parts (leb (start % 8 + n) 64) (leb (start / 8 + 8) size) e in
    record { inside = leb-true (start % 8 + n) 64 both.0; lent = leb-true (start / 8 + 8) size both.1 }

-- the test of a sum that could overflow
no-sum : (s n : ℕ) → s < 8 → leb n (64 - s) ≡ leb (s + n) 64
no-sum s n h =
    ⊎_elim
    (λ (p : 64 - s < n). lt-leb n (64 - s) p ∙ sym (lt-leb (s + n) 64 (omega arith)))
    (λ (p : n ≤ 64 - s). le-leb n (64 - s) p ∙ sym (le-leb (s + n) 64 (omega arith)))
    (cases_lt (64 - s) n)

pub lies-by : (size start n : ℕ) → (leb n (64 - start % 8) && leb (start / 8 + 8) size) ≡ lies_near size start n
unfolding lies_near
lies-by size start n = ap (λ (t : Bool). t && leb (start / 8 + 8) size) (no-sum (start % 8) n (omega arith))

pub short-length : (p n : ℕ) → p % 8 + n ≤ 64 → n ≤ 64
short-length p n h = omega arith

first-part : (l : List Bool) (p n : ℕ) → p % 8 + n ≤ 64 → window (window l p (64 - p % 8)) 0 n ≡ window l p n
first-part l p n h =
    let z : p + 0 ≡ p = omega arith in
    in_window l p (64 - p % 8) 0 n (omega arith) ∙ ap (λ (k : ℕ). window l k n) z

-- three words of `near_load` combined, and cut where the length ends
pub near-combined : (f : Bool → Bool → Bool → Bool) (A B C : List Bool) (p q r n u v w t s : ℕ)
    → p % 8 + n ≤ 64 → q % 8 + n ≤ 64 → r % 8 + n ≤ 64
    → bits 64 u ≡ window (window A p (64 - p % 8)) 0 64 → bits 64 v ≡ window (window B q (64 - q % 8)) 0 64
    → bits 64 w ≡ window (window C r (64 - r % 8)) 0 64
    → bits 64 t ≡ zip3 f (bits 64 u) (bits 64 v) (bits 64 w) → bits 64 s ≡ window (take n (bits 64 t)) 0 64
    → bits 64 s ≡ window (zip3 f (window A p n) (window B q n) (window C r n)) 0 64
near-combined f A B C p q r n u v w t s hp hq hr pu pv pw op cut =
    let z : n ≡ n - 64 * 0 = omega arith in
    cut_word f (window A p (64 - p % 8)) (window B q (64 - q % 8)) (window C r (64 - r % 8)) 0 0 0 n 0 u v w t s pu pv pw op
    (cut ∙ ap (λ (k : ℕ). window (take k (bits 64 t)) 0 64) z)
    ∙ rw (first-part A p n hp, first-part B q n hq, first-part C r n hr) refl

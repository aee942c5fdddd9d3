-- What a caller can infer from an answer: the number of the checks, and the value. For callers in other crates, and theorems.
use mathlib.Core.Path.{◌≡◌, refl}
use Prim.Native.Nat.{ℕ, zero, suc}
use native.Mathlib.Omega.{arith}
use Rattle.masks.specs.equations.Answer.{given, refused, decided}

pub refused-number : {S A : Type 0} (n m : ℕ) (s s' : S) (a : A) → refused n s ≡ decided m s' a → n ≡ m
unfolding decided
refused-number n zero s s' a e = absurd (let z : ◌≡◌ {A = ℕ} 0 1 = cc in omega arith)
refused-number n (suc m) s s' a e = cc

pub given-number : {S A : Type 0} (m : ℕ) (s : S) (a a' : A) → given a ≡ decided m s a' → 0 ≡ m
unfolding decided
given-number zero s a a' e = refl
given-number (suc m) s a a' e = absurd (let z : ◌≡◌ {A = ℕ} 0 1 = cc in omega arith)

pub refused-failed : {S A : Type 0} (n m : ℕ) (s s' : S) (a : A) → refused n s ≡ decided m s' a → m ≡ 0 → ⊥
unfolding decided
refused-failed n zero s s' a e z = let z : ◌≡◌ {A = ℕ} 0 1 = cc in omega arith
refused-failed n (suc m) s s' a e z = omega arith

pub given-value : {S A : Type 0} (m : ℕ) (s : S) (a a' : A) → given a ≡ decided m s a' → a ≡ a'
unfolding decided
given-value zero s a a' e = cc
given-value (suc m) s a a' e = absurd (let z : ◌≡◌ {A = ℕ} 0 1 = cc in omega arith)

pub refused-state : {S A : Type 0} (n m : ℕ) (s s' : S) (a : A) → refused n s ≡ decided m s' a → s ≡ s'
unfolding decided
refused-state n zero s s' a e = absurd (let z : ◌≡◌ {A = ℕ} 0 1 = cc in omega arith)
refused-state n (suc m) s s' a e = cc

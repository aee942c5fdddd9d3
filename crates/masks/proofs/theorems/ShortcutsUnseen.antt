-- If the counts are true, a shortcut makes no difference: the flags written are the operation on the arguments' flags.
use Rattle.std.specs.Prelude.{Option, Some, None}
use Rattle.std.proofs.Math.Bool.{and-false, or-true}
use mathlib.Core.Path.{◌≡◌, refl, sym, ap, ap₂, ◌∙◌}
use mathlib.Core.Bool.{Bool, true, false, cond, ◌&&◌, ◌||◌, xor}
use mathlib.Core.List.{List, [], ◌∷◌}
use Prim.Native.Nat.{ℕ, zero, suc, ◌≤◌}
use native.Mathlib.Omega.{arith}
use lib.Dec.{eqb}
use lib.ListN.{length}
use borrow.Author.Tests.{eqb-true}
use Rattle.words.specs.Flags.{copies, count}
use Rattle.words.specs.Ops.{op_of, zip3}
use Rattle.words.specs.declared.ops.Op.{Op}
use Rattle.words.specs.declared.ops.Op.TheVariants.{And, AndNot, Or, OrNot, Xor, Not, Select}
use Rattle.words.proofs.flags.Windows.{length-window}
use Rattle.masks.specs.Combine.{shortcut, pair_each, pair_shortcut}
use Rattle.masks.specs.Workers.{result_flags}
use Rattle.masks.specs.Mask.{mask_flags, zero_count}
use Rattle.masks.proofs.statements.TrueCounts.{TrueCount, Truthful}
use Rattle.masks.specs.Utils.{zeros}
use Rattle.masks.specs.Workers.{count_or, known_or_counted}
use Rattle.masks.specs.declared.bitmap.Bitmap.{Bitmap}

-- ---- lists that are constant by their count

zeros-le : (l : List Bool) → zeros l ≤ length l
unfolding zeros count
zeros-le [] = omega arith
zeros-le (true ∷ l) = omega (arith, zeros-le l)
zeros-le (false ∷ l) = omega (arith, zeros-le l)

pub all-zero : (l : List Bool) (n : ℕ) → length l ≡ n → zeros l ≡ n → l ≡ copies n false
unfolding zeros count copies
all-zero [] zero e h = refl
all-zero [] (suc n) e h = absurd (omega arith)
all-zero (x ∷ l) zero e h = absurd (omega arith)
all-zero (true ∷ l) (suc n) e h = absurd (omega (arith, zeros-le l))
all-zero (false ∷ l) (suc n) e h = ap (λ (t : List Bool). false ∷ t) (all-zero l n (omega arith) (omega arith))

pub all_one : (l : List Bool) (n : ℕ) → length l ≡ n → zeros l ≡ 0 → l ≡ copies n true
unfolding zeros count copies
all_one [] zero e h = refl
all_one [] (suc n) e h = absurd (omega arith)
all_one (x ∷ l) zero e h = absurd (omega arith)
all_one (true ∷ l) (suc n) e h = ap (λ (t : List Bool). true ∷ t) (all_one l n (omega arith) (omega arith))
all_one (false ∷ l) (suc n) e h = absurd (omega arith)

-- ---- an operation whose result a constant list fixes

zip-first-constant : (f : Bool → Bool → Bool → Bool) (x w : Bool) → ((y z : Bool) → f x y z ≡ w) → (n : ℕ) (m : List Bool) → length m ≡ n
    → zip3 f (copies n x) m m ≡ copies n w
unfolding zip3 copies
zip-first-constant f x w h zero m e = refl
zip-first-constant f x w h (suc n) [] e = absurd (omega arith)
zip-first-constant f x w h (suc n) (y ∷ m) e =
    ap₂ (λ (b : Bool) (t : List Bool). b ∷ t) (h y y) (zip-first-constant f x w h n m (omega arith))

zip-second-constant : (f : Bool → Bool → Bool → Bool) (y w : Bool) → ((x : Bool) → f x y y ≡ w)
    → (n : ℕ) (l : List Bool) → length l ≡ n → zip3 f l (copies n y) (copies n y) ≡ copies n w
unfolding zip3 copies
zip-second-constant f y w h zero [] e = refl
zip-second-constant f y w h zero (x ∷ l) e = absurd (omega arith)
zip-second-constant f y w h (suc n) [] e = absurd (omega arith)
zip-second-constant f y w h (suc n) (x ∷ l) e =
    ap₂ (λ (b : Bool) (t : List Bool). b ∷ t) (h x) (zip-second-constant f y w h n l (omega arith))

-- both lists constant
zip_constants : (f : Bool → Bool → Bool → Bool) (x y : Bool) (n : ℕ) → zip3 f (copies n x) (copies n y) (copies n y) ≡ copies n (f x y y)
unfolding zip3 copies
zip_constants f x y zero = refl
zip_constants f x y (suc n) = ap (λ (t : List Bool). f x y y ∷ t) (zip_constants f x y n)

-- ---- one law for all operations

module _ (l m : List Bool) (n : ℕ) (el : length l ≡ n) (em : length m ≡ n) where
  and-seen : (a b : Bool) → eqb (zeros l) n ≡ a → eqb (zeros m) n ≡ b
      → result_flags (cond (a || b) (Some false) None) n (zip3 (op_of And) l m m) ≡ zip3 (op_of And) l m m
  and-seen true b p q =
      sym (ap (λ (t : List Bool). zip3 (op_of And) t m m) (all-zero l n el (eqb-true (zeros l) n p))
      ∙ zip-first-constant (op_of And) false false (λ y z. refl) n m em)
  and-seen false true p q =
      sym (ap (λ (t : List Bool). zip3 (op_of And) l t t) (all-zero m n em (eqb-true (zeros m) n q))
      ∙ zip-second-constant (op_of And) false false and-false n l el)
  and-seen false false p q = refl

  or-seen : (a b : Bool) → eqb (zeros l) 0 ≡ a → eqb (zeros m) 0 ≡ b
      → result_flags (cond (a || b) (Some true) None) n (zip3 (op_of Or) l m m) ≡ zip3 (op_of Or) l m m
  or-seen true b p q =
      sym (ap (λ (t : List Bool). zip3 (op_of Or) t m m) (all_one l n el (eqb-true (zeros l) 0 p))
      ∙ zip-first-constant (op_of Or) true true (λ y z. refl) n m em)
  or-seen false true p q =
      sym (ap (λ (t : List Bool). zip3 (op_of Or) l t t) (all_one m n em (eqb-true (zeros m) 0 q))
      ∙ zip-second-constant (op_of Or) true true or-true n l el)
  or-seen false false p q = refl

  both_constant : (x y w : Bool) → l ≡ copies n x → m ≡ copies n y → xor x y ≡ w → copies n w ≡ zip3 (op_of Xor) l m m
  both_constant x y w p q e =
      ap (copies n) (sym e) ∙ sym (ap₂ (λ (s t : List Bool). zip3 (op_of Xor) s t t) p q ∙ zip_constants (op_of Xor) x y n)

  xor-seen : (a b c d : Bool) → eqb (zeros l) n ≡ a → eqb (zeros m) n ≡ b → eqb (zeros l) 0 ≡ c → eqb (zeros m) 0 ≡ d
      → result_flags (cond ((a && b) || (c && d)) (Some false) (cond ((c && b) || (a && d)) (Some true) None)) n (zip3 (op_of Xor) l m m)
      ≡ zip3 (op_of Xor) l m m
  unfolding xor
  xor-seen true true c d p q r s =
      both_constant false false false (all-zero l n el (eqb-true (zeros l) n p)) (all-zero m n em (eqb-true (zeros m) n q)) refl
  xor-seen true false true true p q r s =
      both_constant true true false (all_one l n el (eqb-true (zeros l) 0 r)) (all_one m n em (eqb-true (zeros m) 0 s)) refl
  xor-seen true false false true p q r s =
      both_constant false true true (all-zero l n el (eqb-true (zeros l) n p)) (all_one m n em (eqb-true (zeros m) 0 s)) refl
  xor-seen true false true false p q r s = refl
  xor-seen true false false false p q r s = refl
  xor-seen false b true true p q r s =
      both_constant true true false (all_one l n el (eqb-true (zeros l) 0 r)) (all_one m n em (eqb-true (zeros m) 0 s)) refl
  xor-seen false true true false p q r s =
      both_constant true false true (all_one l n el (eqb-true (zeros l) 0 r)) (all-zero m n em (eqb-true (zeros m) n q)) refl
  xor-seen false false true false p q r s = refl
  xor-seen false b false d p q r s = refl

  pub shortcut_unseen : (op : Op) → result_flags (shortcut op n (zeros l) (zeros m)) n (zip3 (op_of op) l m m) ≡ zip3 (op_of op) l m m
  unfolding shortcut
  shortcut_unseen And = and-seen (eqb (zeros l) n) (eqb (zeros m) n) refl refl
  shortcut_unseen Or = or-seen (eqb (zeros l) 0) (eqb (zeros m) 0) refl refl
  shortcut_unseen Xor = xor-seen (eqb (zeros l) n) (eqb (zeros m) n) (eqb (zeros l) 0) (eqb (zeros m) 0) refl refl refl refl
  shortcut_unseen AndNot = refl
  shortcut_unseen OrNot = refl
  shortcut_unseen Not = refl
  shortcut_unseen Select = refl

-- a mask's known count, if it is true, is the number of its zeros
pub true-count : (m : Bitmap) (bytes : List ℕ) → Truthful m bytes → known_or_counted m bytes ≡ zero_count m bytes
unfolding zero_count
true-count m bytes t = go m.unset t
  where
    go : (u : Option ℕ) → TrueCount u (mask_flags m bytes) → count_or u (zeros (mask_flags m bytes)) ≡ zeros (mask_flags m bytes)
    go (Some z) e = e
    go None e = refl

-- the flags that a shortcut gives are the operation on the arguments' flags
pub flags-by_operation : (op : Op) (a : Bitmap) (a_bytes : List ℕ) (b : Bitmap) (b_bytes : List ℕ) → a.length ≡ b.length
    → result_flags (pair_shortcut op a a_bytes b b_bytes) a.length (pair_each op a a_bytes b b_bytes) ≡ pair_each op a a_bytes b b_bytes
unfolding zero_count
flags-by_operation op a a_bytes b b_bytes e =
    shortcut_unseen (mask_flags a a_bytes) (mask_flags b b_bytes) a.length (length-window _ a.start a.length)
    (length-window _ b.start b.length ∙ sym e) op

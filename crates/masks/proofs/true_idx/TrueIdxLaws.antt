-- The first one at or after a place, found by the zeros before it, and the answers of a cursor over ones. For `TrueIdxIter`.
use Rattle.std.specs.Prelude.{Some, None}
use mathlib.Core.Path.{◌≡◌, refl, sym, ap, ◌∙◌}
use mathlib.Core.Bool.{Bool, true, false, cond}
use mathlib.Core.List.{List, [], ◌∷◌, ◌++◌}
use Prim.Native.Nat.{ℕ, zero, suc, ◌+◌, ◌≤◌, ◌<◌}
use native.Mathlib.Omega.{arith}
use lib.Dec.{leb}
use lib.ListN.{length, drop, length-drop}
use borrow.Author.Tests.{leb-true, lt-ltb, le-ltb}
use Rattle.words.specs.Ends.{leading}
use Rattle.words.specs.Flags.{copies, count}
use Rattle.words.specs.Loops.{stretch}
use Rattle.words.specs.Nth.{nth_place}
use Rattle.words.proofs.ends.EndLaws.{leading_le}
use Rattle.words.proofs.flags.Windows.{length-copies, length-window}
use Rattle.masks.specs.Checks.{check, first_failed, limit, within_limit}
use Rattle.masks.specs.Cursor.{item, ended, cursor_checks}
use Rattle.masks.specs.Iterator.{leading_from}
use Rattle.masks.specs.Search.{nth_from}
use Rattle.masks.specs.TrueIdx.{true_moved, true_flags, true_checks, true_step}
use Rattle.masks.specs.declared.true_idx.TrueIdxIter.{TrueIdxIter}
use Rattle.masks.proofs.checks.CheckLaws.{check-allowed, both_left, both_right}
use Rattle.masks.proofs.cursor.CursorLaws.{CursorAllowed, cursor-allowed}

-- ---- the first one comes after the leading zeros

first-there : (l : List Bool) → leading false l < length l → 0 < count l
unfolding leading count
first-there [] h = absurd (omega arith)
first-there (true ∷ l) h = omega arith
first-there (false ∷ l) h = omega (arith, first-there l (omega arith))

first-place : (l : List Bool) → leading false l < length l → nth_place l 0 ≡ leading false l
unfolding leading nth_place
first-place [] h = absurd (omega arith)
first-place (true ∷ l) h = refl
first-place (false ∷ l) h = ap suc (first-place l (omega arith))

first-none : (l : List Bool) → length l ≤ leading false l → count l ≡ 0
unfolding leading count
first-none [] h = refl
first-none (true ∷ l) h = absurd (omega arith)
first-none (false ∷ l) h = omega (arith, first-none l (omega arith))

pub first-from : (l : List Bool) (at r : ℕ) → r ≡ leading_from false l at → at + r < length l → Some (at + r) ≡ nth_from l 0 at
unfolding leading_from nth_from
first-from l at r e h =
    let k : leading false (drop at l) < length (drop at l) = omega (arith, length-drop at l) in
    rw (lt-ltb 0 (count (drop at l)) (first-there (drop at l) k)) (ap (λ (x : ℕ). Some (at + x)) (e ∙ sym (first-place (drop at l) k)))

pub none_from_lem : (l : List Bool) (at r : ℕ) → r ≡ leading_from false l at → length l ≤ at + r → None ≡ nth_from l 0 at
unfolding leading_from nth_from
none_from_lem l at r e h = rw (le-ltb 0 (count (drop at l)) (omega (arith, first-none (drop at l) (omega (arith, length-drop at l)))))

-- ---- with a mask and without

pub with-mask : (c : TrueIdxIter) (bytes : List ℕ) → c.masked ≡ true → true_flags c bytes ≡ stretch bytes c.start c.length
unfolding true_flags
with-mask c bytes e = rw e

no-zeros : (n place : ℕ) → leading false (drop place (copies n true)) ≡ 0
unfolding leading copies
no-zeros zero zero = refl
no-zeros zero (suc place) = refl
no-zeros (suc n) zero = refl
no-zeros (suc n) (suc place) = no-zeros n place

pub without-mask : (c : TrueIdxIter) (bytes : List ℕ) → c.masked ≡ false → 0 ≡ leading_from false (true_flags c bytes) c.place
unfolding true_flags leading_from
without-mask c bytes e = rw e (sym (no-zeros c.length c.place))

by_mask : (t : Bool) (a b : List Bool) (n : ℕ) → length a ≡ n → length b ≡ n → length (cond t a b) ≡ n
by_mask true a b n p q = p
by_mask false a b n p q = q

pub flags-length : (c : TrueIdxIter) (bytes : List ℕ) → length (true_flags c bytes) ≡ c.length
unfolding true_flags
flags-length c bytes =
    by_mask c.masked (stretch bytes c.start c.length) (copies c.length true) c.length
    (length-window _ c.start c.length) (length-copies c.length true)

-- ---- what follows if the checks pass

pub record TrueAllowed (c : TrueIdxIter) : Type 0 where
  pub starts : c.start ≤ limit
  pub short : c.length ≤ limit
  pub reached : c.place ≤ c.length

three-passed : (a b c : Bool) → first_failed (check 1 a ∷ check 1 b ∷ check 6 c ∷ []) ≡ 0 → (a ≡ true) × ((b ≡ true) × (c ≡ true))
three-passed a b c e =
    let rest : first_failed ((check 1 b ∷ []) ++ (check 6 c ∷ [])) ≡ 0 = both_right (check 1 a ∷ []) (check 1 b ∷ check 6 c ∷ []) e in (
      check-allowed 0 a (both_left (check 1 a ∷ []) (check 1 b ∷ check 6 c ∷ []) e),
      (
        check-allowed 0 b (both_left (check 1 b ∷ []) (check 6 c ∷ []) rest),
        check-allowed 5 c (both_right (check 1 b ∷ []) (check 6 c ∷ []) rest),
      ),
    )

-- what follows for a cursor over a mask
pub masked-allowed : (c : TrueIdxIter) (size : ℕ) → c.masked ≡ true → first_failed (true_checks c size) ≡ 0
    → CursorAllowed c.start c.length c.place size
unfolding true_checks
masked-allowed c size m e = cursor-allowed c.start c.length c.place size (rw m at e)

pub true-allowed : (c : TrueIdxIter) (size : ℕ) → first_failed (true_checks c size) ≡ 0 → TrueAllowed c
unfolding true_checks
true-allowed c size e = go c.masked e
  where
    go : (t : Bool)
        → first_failed (cond t (cursor_checks c.start c.length c.place size)
        (within_limit c.start ∷ within_limit c.length ∷ check 6 (leb c.place c.length) ∷ [])) ≡ 0
        → TrueAllowed c
    go true e =
        let a : CursorAllowed c.start c.length c.place size = cursor-allowed c.start c.length c.place size e in
        record { starts = a.starts; short = a.short; reached = a.reached }
    go false e =
        let all = three-passed (leb c.start limit) (leb c.length limit) (leb c.place c.length) e in
        record {
          starts = leb-true c.start limit all.0;
          short = leb-true c.length limit all.1.0;
          reached = leb-true c.place c.length all.1.1;
        }

-- ---- the two answers of a cursor

pub a_one : (c : TrueIdxIter) (bytes : List ℕ) (r : ℕ) → r ≡ leading_from false (true_flags c bytes) c.place → c.place + r < c.length
    → item (c.place + r) (true_moved c (c.place + r + 1)) ≡ true_step c (nth_from (true_flags c bytes) 0 c.place)
unfolding true_step
a_one c bytes r e h = ap (true_step c) (first-from (true_flags c bytes) c.place r e (omega (arith, flags-length c bytes)))

pub no_one : (c : TrueIdxIter) (bytes : List ℕ) (r : ℕ) → r ≡ leading_from false (true_flags c bytes) c.place → c.length ≤ c.place + r
    → ended (true_moved c c.length) ≡ true_step c (nth_from (true_flags c bytes) 0 c.place)
unfolding true_step
no_one c bytes r e h = ap (true_step c) (none_from_lem (true_flags c bytes) c.place r e (omega (arith, flags-length c bytes)))

pub zeros_within : (c : TrueIdxIter) (bytes : List ℕ) (r : ℕ) → r ≡ leading_from false (true_flags c bytes) c.place → r ≤ c.length
unfolding leading_from
zeros_within c bytes r e =
    omega (arith, leading_le false (drop c.place (true_flags c bytes)), length-drop c.place (true_flags c bytes), flags-length c bytes)

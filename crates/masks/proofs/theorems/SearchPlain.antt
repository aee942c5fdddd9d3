-- The plain reading of the two searches: when they return a position, which one, and when none.
use Rattle.std.specs.Prelude.{Some, None}
use mathlib.Core.Path.{◌≡◌, sym, ap, ◌∙◌}
use mathlib.Core.Bool.{Bool, true, false}
use mathlib.Core.List.{List}
use Prim.Native.Nat.{ℕ, suc, ◌+◌, ◌-◌, ◌≤◌, ◌<◌}
use native.Mathlib.Omega.{arith}
use lib.ListN.{length, take, drop, get_or, length-take, length-drop, take-append-drop}
use lib.Seq.{get_or-drop, get_or-take}
use borrow.Author.Tests.{lt-ltb, le-ltb}
use Rattle.words.specs.Flags.{count, digit, window}
use Rattle.words.specs.Nth.{nth_place}
use Rattle.words.proofs.counts.Counting.{count-append}
use Rattle.words.proofs.nth.NthLaws.{nth-lt}
use Rattle.words.proofs.theorems.Plain.{count-first, nth-set, nth-before, window-part}
use Rattle.masks.specs.Search.{nth_from, nth_back}

-- ---- forward

-- p is in the list, at or after `from`; its flag is set; n set flags lie between
pub record Forward (l : List Bool) (n from p : ℕ) : Type 0 where
  pub after : from ≤ p
  pub inside : p < length l
  pub is_set : get_or l p false ≡ true
  pub between : count (window l from (p - from)) ≡ n

-- If more than n flags are set at or after `from`, a position is returned, that of the n-th,
pub forward-some : (l : List Bool) (n from : ℕ) → n < count (drop from l) → (p : ℕ) × ((nth_from l n from ≡ Some p) × Forward l n from p)
unfolding nth_from
forward-some l n from h =
    let k : nth_place (drop from l) n < length (drop from l) = nth-lt (drop from l) n h in
    let e : from + nth_place (drop from l) n - from ≡ nth_place (drop from l) n = omega arith in (
      from + nth_place (drop from l) n,
      (
        rw (lt-ltb n (count (drop from l)) h),
        record {
          after = omega arith;
          inside = omega (arith, length-drop from l);
          is_set = sym (get_or-drop from l (nth_place (drop from l) n) false) ∙ nth-set (drop from l) n h;
          between =
              ap (λ (x : ℕ). count (window l from x)) e
              ∙ ap count (window-part l from (nth_place (drop from l) n) (omega (arith, length-drop from l)))
              ∙ nth-before (drop from l) n h;
        },
      ),
    )

-- and if at most n are, none is.
pub forward-none : (l : List Bool) (n from : ℕ) → count (drop from l) ≤ n → nth_from l n from ≡ None
unfolding nth_from
forward-none l n from h = rw (le-ltb n (count (drop from l)) h)

-- ---- down from below an end

-- p is in the list, below `end`; its flag is set; n set flags lie between it and the end
pub record Backward (l : List Bool) (n end p : ℕ) : Type 0 where
  pub below : p < end
  pub inside : p < length l
  pub is_set : get_or l p false ≡ true
  pub between : count (drop (suc p) (take end l)) ≡ n

-- If more than n flags are set below `end`, a position is returned, that of the n-th counted down,
pub backward-some : (l : List Bool) (n end : ℕ) → n < count (take end l) → (p : ℕ) × ((nth_back l n end ≡ Some p) × Backward l n end p)
unfolding nth_back
backward-some l n end h =
    let m : ℕ = count (take end l) - 1 - n in
    let few : m < count (take end l) = omega arith in
    let p : ℕ = nth_place (take end l) m in
    let k : p < length (take end l) = nth-lt (take end l) m few in
    let low : p < end = omega (arith, length-take end l) in
    let one : get_or (take end l) p false ≡ true = nth-set (take end l) m few in
    let before : count (take p (take end l)) ≡ m = nth-before (take end l) m few in
    let up_to : count (take (suc p) (take end l)) ≡ m + 1 =
    count-first (take end l) p ∙ ap (λ (x : ℕ). x + digit (get_or (take end l) p false)) before ∙ ap (λ (t : Bool). m + digit t) one in
    let whole : count (take end l) ≡ count (take (suc p) (take end l)) + count (drop (suc p) (take end l)) =
    ap count (sym (take-append-drop (suc p) (take end l))) ∙ count-append (take (suc p) (take end l)) (drop (suc p) (take end l)) in (
      p,
      (
        rw (lt-ltb n (count (take end l)) h),
        record {
          below = low;
          inside = omega (arith, length-take end l);
          is_set = sym (get_or-take end l p false low) ∙ one;
          between = omega arith;
        },
      ),
    )

-- and if at most n are, none is.
pub backward-none : (l : List Bool) (n end : ℕ) → count (take end l) ≤ n → nth_back l n end ≡ None
unfolding nth_back
backward-none l n end h = rw (le-ltb n (count (take end l)) h)

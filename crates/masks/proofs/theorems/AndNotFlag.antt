-- `and_not_at` of two masks returns the flag at the index of the flags that `and_not` makes of them; of one mask it returns that
-- mask's flag, or its inverse; of none it returns true.
use Rattle.std.specs.Prelude.{Some, None}
use Rattle.std.proofs.Math.Bool.{and-true}
use mathlib.Core.Path.{◌≡◌, refl, sym, ap, ◌∙◌, subst}
use mathlib.Core.Bool.{Bool, true, false, not, ◌&&◌}
use mathlib.Core.List.{List, [], ◌∷◌, ◌++◌}
use Prim.Native.Nat.{ℕ, ◌<◌}
use lib.Dec.{eqb, ltb}
use lib.ListN.{length, get_or}
use borrow.Author.Tests.{eq-eqb, eqb-true, lt-ltb}
use Rattle.masks.specs.equations.Answer.{given, decided, checked}
use Rattle.masks.specs.AtIndex.{and_not_at_checks, and_not_flag, flag_or, index_checks, index_inside, length_checks}
use Rattle.masks.specs.equations.AtIndex.{and_not_at_of}
use Rattle.masks.specs.Checks.{first_failed}
use Rattle.masks.specs.Combine.{AndNot, pair_checks, pair_flags, pair_mask}
use Rattle.masks.specs.Frozen.{with_frozen}
use Rattle.masks.specs.Mask.{mask_checks, mask_flags}
use Rattle.masks.specs.declared.bitmap.Bitmap.{Bitmap}
use Rattle.masks.proofs.at_index.AtIndexLaws.{passed-masks}
use Rattle.masks.proofs.checks.CheckLaws.{both_right, check-allowed, is-given, one-check, passed-before}
use Rattle.masks.proofs.theorems.PairPlain.{at-and-not, written-flags}

-- ---- both masks

-- a mask that passes its own checks is accepted at each index below its length
at-accepted : (m : Bitmap) (bytes : List ℕ) (i : ℕ) → 0 ≡ first_failed (mask_checks m bytes) → i < m.length
    → 0 ≡ first_failed (index_checks (Some m) bytes i)
unfolding index_checks
at-accepted m bytes i p inside =
    passed-before (mask_checks m bytes) (index_inside i m ∷ []) 0 0 p refl
    (one-check 0 6 true (ltb i m.length) refl (sym (lt-ltb i m.length inside)))

-- and so are two masks of equal lengths
pub both-accepted : (a : Bitmap) (a_bytes : List ℕ) (b : Bitmap) (b_bytes : List ℕ) (i : ℕ)
    → 0 ≡ first_failed (mask_checks a a_bytes) → 0 ≡ first_failed (mask_checks b b_bytes)
    → a.length ≡ b.length → i < a.length → 0 ≡ first_failed (and_not_at_checks (Some a) a_bytes (Some b) b_bytes i)
unfolding and_not_at_checks length_checks
both-accepted a a_bytes b b_bytes i p q same inside =
    let other : i < b.length = subst (λ (n : ℕ). i < n) same inside in
    let lengths = one-check 0 5 true (eqb a.length b.length) refl (sym (eq-eqb a.length b.length same)) in
    passed-before (index_checks (Some a) a_bytes i) (index_checks (Some b) b_bytes i ++ length_checks (Some a) (Some b)) 0 0
    (at-accepted a a_bytes i p inside) refl
    (passed-before (index_checks (Some b) b_bytes i) (length_checks (Some a) (Some b)) 0 0
    (at-accepted b b_bytes i q other) refl lengths)

module _ (a : Bitmap) (a_bytes : List ℕ) (b : Bitmap) (b_bytes : List ℕ) (i : ℕ)
    (accepted : first_failed (and_not_at_checks (Some a) a_bytes (Some b) b_bytes i) ≡ 0) where
  one-length : a.length ≡ b.length
  unfolding and_not_at_checks length_checks
  one-length =
      let rest = index_checks (Some b) b_bytes i ++ length_checks (Some a) (Some b) in
      let second = both_right (index_checks (Some a) a_bytes i) rest accepted in
      eqb-true a.length b.length (check-allowed 4 (eqb a.length b.length)
      (both_right (index_checks (Some b) b_bytes i) (length_checks (Some a) (Some b)) second))

  inside : i < a.length
  inside = (passed-masks (Some a) a_bytes (Some b) b_bytes i accepted).0.1.1

  -- the flag at the index of the flags that `and_not` makes of the two masks
  pub flag-of-and-not : and_not_at_of (Some a) a_bytes (Some b) b_bytes i ≡ given (get_or (pair_flags AndNot a a_bytes b b_bytes) i false)
  unfolding and_not_at_of and_not_flag flag_or
  flag-of-and-not =
      sym (is-given 0 (first_failed (and_not_at_checks (Some a) a_bytes (Some b) b_bytes i)) tt
      (get_or (mask_flags a a_bytes) i false && not (get_or (mask_flags b b_bytes) i false)) (sym accepted) refl)
      ∙ ap given (sym (at-and-not a a_bytes b b_bytes one-length i inside))

  -- and the flag at the index of the mask that `and_not` returns, in the bytes that it writes to an output that holds them
  pub flag-of-written : (out : List ℕ) → first_failed (pair_checks a a_bytes b b_bytes (length out)) ≡ 0
      → and_not_at_of (Some a) a_bytes (Some b) b_bytes i
      ≡ given (get_or (mask_flags (pair_mask AndNot a a_bytes b b_bytes) (with_frozen out (pair_flags AndNot a a_bytes b b_bytes))) i false)
  flag-of-written out e =
      flag-of-and-not ∙ ap (λ (l : List Bool). given (get_or l i false)) (sym (written-flags AndNot a a_bytes b b_bytes out e))

-- ---- an absent mask

pub no_second : (a : Bitmap) (a_bytes b_bytes : List ℕ) (i : ℕ)
    → and_not_at_of (Some a) a_bytes None b_bytes i
    ≡ checked (and_not_at_checks (Some a) a_bytes None b_bytes i) tt (get_or (mask_flags a a_bytes) i false)
unfolding and_not_at_of and_not_flag flag_or
no_second a a_bytes b_bytes i =
    ap (λ (x : Bool). checked (and_not_at_checks (Some a) a_bytes None b_bytes i) tt x) (and-true (get_or (mask_flags a a_bytes) i false))

pub no-first : (a_bytes : List ℕ) (b : Bitmap) (b_bytes : List ℕ) (i : ℕ)
    → and_not_at_of None a_bytes (Some b) b_bytes i
    ≡ checked (and_not_at_checks None a_bytes (Some b) b_bytes i) tt (not (get_or (mask_flags b b_bytes) i false))
unfolding and_not_at_of and_not_flag flag_or
no-first a_bytes b b_bytes i = refl

pub no_mask : (a_bytes b_bytes : List ℕ) (i : ℕ) → and_not_at_of None a_bytes None b_bytes i ≡ given true
unfolding and_not_at_of and_not_flag flag_or and_not_at_checks index_checks length_checks first_failed decided
no_mask a_bytes b_bytes i = refl

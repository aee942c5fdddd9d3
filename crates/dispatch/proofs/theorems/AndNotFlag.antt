-- The answer of `may_reassign`, mask by mask: with no permission mask no, for every truck and whether or not there is a revocation mask;
-- with both masks flag t of the combination `and_not`; with only a permission mask that mask's flag.
use Rattle.std.specs.Prelude.{Option, Some, None}
use mathlib.Core.Path.{◌≡◌, refl, sym, ◌∙◌}
use mathlib.Core.Bool.{true, false}
use mathlib.Core.List.{List}
use Prim.Native.Nat.{ℕ}
use native.Mathlib.Omega.{arith}
use lib.ListN.{length, get_or}
use Rattle.masks.specs.equations.Answer.{given, checked, decided}
use Rattle.masks.specs.AtIndex.{and_not_at_checks, index_checks, length_checks}
use Rattle.masks.specs.Checks.{first_failed}
use Rattle.masks.specs.Combine.{AndNot, pair_checks, pair_flags, pair_mask}
use Rattle.masks.specs.Frozen.{with_frozen}
use Rattle.masks.specs.Mask.{mask_flags}
use Rattle.masks.specs.declared.bitmap.Bitmap.{Bitmap}
use Rattle.masks.proofs.theorems.AndNotFlag.{flag-of-and-not as at-and-not, flag-of-written as at-written, no_second}
use Rattle.masks.proofs.refusal.AnswerLaws.{given-value}
use Rattle.dispatch.specs.Reassign.{reassignable}
use Rattle.dispatch.specs.equations.Reassign.{may_reassign}
use Rattle.dispatch.proofs.reassign.ReassignLaws.{is-and-not-at}

-- ---- no permission mask

-- no truck may be reassigned: with a revocation mask or without one, the answer of an accepted call is no
pub no-permission : (p_bytes : List ℕ) (revocation : Option Bitmap) (r_bytes : List ℕ) (t : ℕ)
    → may_reassign None p_bytes revocation r_bytes t ≡ checked (and_not_at_checks None p_bytes revocation r_bytes t) tt false
unfolding may_reassign reassignable
no-permission p_bytes revocation r_bytes t = refl

-- so the answer is never yes
pub never_permitted : (p_bytes : List ℕ) (revocation : Option Bitmap) (r_bytes : List ℕ) (t : ℕ)
    → may_reassign None p_bytes revocation r_bytes t ≡ given true → ⊥
never_permitted p_bytes revocation r_bytes t e =
    let number = first_failed (and_not_at_checks None p_bytes revocation r_bytes t) in
    let same : true ≡ false = given-value number tt true false (sym e ∙ no-permission p_bytes revocation r_bytes t) in
    let z : ◌≡◌ {A = ℕ} 0 1 = cc same in
    omega arith

-- and with no mask at all nothing is refused
pub no_mask : (p_bytes r_bytes : List ℕ) (t : ℕ) → may_reassign None p_bytes None r_bytes t ≡ given false
unfolding may_reassign reassignable and_not_at_checks index_checks length_checks first_failed decided
no_mask p_bytes r_bytes t = refl

-- ---- both masks

module _ (p : Bitmap) (p_bytes : List ℕ) (r : Bitmap) (r_bytes : List ℕ) (t : ℕ)
    (accepted : first_failed (and_not_at_checks (Some p) p_bytes (Some r) r_bytes t) ≡ 0) where
  -- the answer is flag t of the combination `and_not` of the two masks
  pub flag-of-and-not : may_reassign (Some p) p_bytes (Some r) r_bytes t ≡ given (get_or (pair_flags AndNot p p_bytes r r_bytes) t false)
  flag-of-and-not = sym (is-and-not-at p p_bytes (Some r) r_bytes t) ∙ at-and-not p p_bytes r r_bytes t accepted

  -- and so it is flag t of the mask that `and_not` returns, in the bytes that it writes to an output that holds them
  pub flag-of-written : (out : List ℕ) → first_failed (pair_checks p p_bytes r r_bytes (length out)) ≡ 0
      → may_reassign (Some p) p_bytes (Some r) r_bytes t
      ≡ given (get_or (mask_flags (pair_mask AndNot p p_bytes r r_bytes) (with_frozen out (pair_flags AndNot p p_bytes r r_bytes))) t false)
  flag-of-written out e = sym (is-and-not-at p p_bytes (Some r) r_bytes t) ∙ at-written p p_bytes r r_bytes t accepted out e

-- ---- no revocation mask

pub no-revocation : (p : Bitmap) (p_bytes r_bytes : List ℕ) (t : ℕ)
    → may_reassign (Some p) p_bytes None r_bytes t
    ≡ checked (and_not_at_checks (Some p) p_bytes None r_bytes t) tt (get_or (mask_flags p p_bytes) t false)
no-revocation p p_bytes r_bytes t = sym (is-and-not-at p p_bytes None r_bytes t) ∙ no_second p p_bytes r_bytes t

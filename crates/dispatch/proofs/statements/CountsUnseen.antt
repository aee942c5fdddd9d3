-- The theorem on counts for `may_reassign` and `offer`: if a mask's checks pass, their checks and their value are those with its count
-- unknown. That they answer by these is their clauses `refused`, and `flag` or `offering`.
use Rattle.std.specs.Prelude.{ℕ, ◌≡◌, List, Option, Some}
use Rattle.masks.specs.AtIndex.{and_not_at_checks}
use Rattle.masks.specs.Checks.{first_failed}
use Rattle.masks.proofs.statements.CountsUnseen.{UnseenCall}
use Rattle.masks.specs.Mask.{mask_checks}
use Rattle.masks.specs.declared.bitmap.Bitmap.{Bitmap}
use Rattle.dispatch.specs.Reassign.{reassignable}
use Rattle.dispatch.specs.Offer.{offer_checks, offered_of}

pub record CountsUnseen : Type 0 where
  -- `may_reassign`
  pub permission : (p : Bitmap) (p_bytes : List ℕ) → first_failed (mask_checks p p_bytes) ≡ 0
      → (r : Option Bitmap) (r_bytes : List ℕ) (t : ℕ)
      → UnseenCall p (λ x. and_not_at_checks (Some x) p_bytes r r_bytes t) (λ x. reassignable (Some x) p_bytes r r_bytes t)
  pub revocation : (r : Bitmap) (r_bytes : List ℕ) → first_failed (mask_checks r r_bytes) ≡ 0
      → (p : Option Bitmap) (p_bytes : List ℕ) (t : ℕ)
      → UnseenCall r (λ x. and_not_at_checks p p_bytes (Some x) r_bytes t) (λ x. reassignable p p_bytes (Some x) r_bytes t)
  -- `offer`
  pub offer-permission : (p : Bitmap) (p_bytes : List ℕ) → first_failed (mask_checks p p_bytes) ≡ 0
      → (r : Option Bitmap) (r_bytes : List ℕ) (cursor : ℕ)
      → UnseenCall p (λ x. offer_checks (Some x) p_bytes r r_bytes cursor) (λ x. offered_of (Some x) p_bytes r r_bytes cursor)
  pub offer-revocation : (r : Bitmap) (r_bytes : List ℕ) → first_failed (mask_checks r r_bytes) ≡ 0
      → (p : Option Bitmap) (p_bytes : List ℕ) (cursor : ℕ)
      → UnseenCall r (λ x. offer_checks p p_bytes (Some x) r_bytes cursor) (λ x. offered_of p p_bytes (Some x) r_bytes cursor)

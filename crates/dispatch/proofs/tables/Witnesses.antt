-- For `may_reassign` and `offer` an input for each number by which they may refuse, over one byte.
use Rattle.std.specs.Prelude.{ℕ, ◌≡◌, [], ◌∷◌, ◌++◌, Option, Some, None}
use Rattle.masks.specs.declared.bitmap.Bitmap.{Bitmap}
use Rattle.masks.proofs.tables.Witnesses.{number_of, byte, whole, shorter, at_masks}
use Rattle.dispatch.specs.equations.Reassign.{may_reassign}
use Rattle.dispatch.specs.equations.Offer.{offer_of}
use Rattle.dispatch.proofs.statements.Refusals.{may_give, offer_gives}

-- the number of `may_reassign` at a truck
abbrev pub number_at : Option Bitmap → Option Bitmap → ℕ → ℕ
number_at permission revocation truck = number_of (may_reassign permission byte revocation byte truck)

-- the numbers that come out are all that may: of two masks with either refused, and of one mask
pub record Witnessed : Type 0 where
  pub first : at_masks (λ m. number_at (Some m) (Some whole) 0)
      ++ (number_at (Some shorter) (Some whole) 0 ∷ number_at (Some whole) (Some whole) 8 ∷ [])
      ≡ may_give (Some whole) (Some whole)
  pub second : at_masks (λ m. number_at (Some whole) (Some m) 0)
      ++ (number_at (Some whole) (Some shorter) 0 ∷ number_at (Some whole) (Some whole) 8 ∷ [])
      ≡ may_give (Some whole) (Some whole)
  pub permission : at_masks (λ m. number_at (Some m) None 0) ++ (number_at (Some whole) None 8 ∷ []) ≡ may_give (Some whole) None
  pub revocation : at_masks (λ m. number_at None (Some m) 0) ++ (number_at None (Some whole) 8 ∷ []) ≡ may_give None (Some whole)

-- the number of `offer`; with no permission mask it is tried at a cursor past the length
abbrev pub offer_at : Option Bitmap → Option Bitmap → ℕ → ℕ
offer_at permission revocation cursor = number_of (offer_of permission byte revocation byte cursor)

pub record OfferWitnessed : Type 0 where
  pub first : at_masks (λ m. offer_at (Some m) (Some whole) 0)
      ++ (offer_at (Some shorter) (Some whole) 0 ∷ offer_at (Some whole) (Some whole) 9 ∷ [])
      ≡ offer_gives (Some whole) (Some whole)
  pub second : at_masks (λ m. offer_at (Some whole) (Some m) 0)
      ++ (offer_at (Some whole) (Some shorter) 0 ∷ offer_at (Some whole) (Some whole) 9 ∷ [])
      ≡ offer_gives (Some whole) (Some whole)
  pub permission : at_masks (λ m. offer_at (Some m) None 0) ++ (offer_at (Some whole) None 9 ∷ []) ≡ offer_gives (Some whole) None
  pub revocation : at_masks (λ m. offer_at None (Some m) 9) ≡ offer_gives None (Some whole)

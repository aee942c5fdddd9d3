-- The numbers by which `may_reassign` and `offer` may refuse, of their lists of checks. That they refuse by the number of these is their
-- clause `refused`; that a refused `offer` has the caller's cursor is its clause `state`.
use Rattle.std.specs.Prelude.{ℕ, List, [], ◌∷◌, Option, Some, None}
use Rattle.masks.specs.declared.bitmap.Bitmap.{Bitmap}
use Rattle.masks.specs.AtIndex.{and_not_at_checks}
use Rattle.masks.proofs.statements.Refusals.{FailsBy}
use Rattle.dispatch.specs.Offer.{offer_checks}

-- of `may_reassign`: with both masks, with one, with none
abbrev pub may_give : Option Bitmap → Option Bitmap → List ℕ
may_give (Some p) (Some r) = 1 ∷ 2 ∷ 3 ∷ 5 ∷ 6 ∷ []
may_give (Some p) None = 1 ∷ 2 ∷ 3 ∷ 6 ∷ []
may_give None (Some r) = 1 ∷ 2 ∷ 3 ∷ 6 ∷ []
may_give None None = []

-- of `offer`: without a permission mask the cursor is not checked, and checks 1, 2 and 3 apply to a revocation mask
abbrev pub offer_gives : Option Bitmap → Option Bitmap → List ℕ
offer_gives (Some p) (Some r) = 1 ∷ 2 ∷ 3 ∷ 5 ∷ 6 ∷ []
offer_gives (Some p) None = 1 ∷ 2 ∷ 3 ∷ 6 ∷ []
offer_gives None (Some r) = 1 ∷ 2 ∷ 3 ∷ []
offer_gives None None = []

-- the statements
abbrev pub Refusals : Type 0
Refusals = (permission : Option Bitmap) (p_bytes : List ℕ) (revocation : Option Bitmap) (r_bytes : List ℕ) (truck : ℕ)
    → FailsBy (may_give permission revocation) (and_not_at_checks permission p_bytes revocation r_bytes truck)

abbrev pub OfferRefusals : Type 0
OfferRefusals = (permission : Option Bitmap) (p_bytes : List ℕ) (revocation : Option Bitmap) (r_bytes : List ℕ) (cursor : ℕ)
    → FailsBy (offer_gives permission revocation) (offer_checks permission p_bytes revocation r_bytes cursor)

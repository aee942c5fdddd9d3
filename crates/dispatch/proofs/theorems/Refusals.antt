-- `may_reassign` and `offer` refuse only by the numbers listed for them.
use Rattle.std.specs.Prelude.{Some, None}
use mathlib.Core.Path.{◌≡◌, refl, subst, sym}
use mathlib.Core.Bool.{true}
use Prim.Native.Nat.{ℕ}
use Rattle.masks.specs.AtIndex.{and_not_at_checks, index_checks, length_checks}
use Rattle.masks.specs.Checks.{span_checks}
use Rattle.masks.specs.Mask.{mask_checks}
use Rattle.masks.specs.NextAndNot.{next_checks, other_checks}
use Rattle.masks.proofs.statements.Refusals.{numbers, among, all_among}
use Rattle.masks.proofs.theorems.Refusals.{fails-by}
use Rattle.dispatch.specs.Offer.{offer_checks}
use Rattle.dispatch.proofs.offer.OfferLaws.{lone-number}
use Rattle.dispatch.proofs.statements.Refusals.{OfferRefusals, Refusals, offer_gives}

pub refusals : Refusals
unfolding and_not_at_checks index_checks length_checks mask_checks span_checks numbers among all_among
refusals (Some p) p_bytes (Some r) r_bytes t = fails-by _ (and_not_at_checks (Some p) p_bytes (Some r) r_bytes t) refl
refusals (Some p) p_bytes None r_bytes t = fails-by _ (and_not_at_checks (Some p) p_bytes None r_bytes t) refl
refusals None p_bytes (Some r) r_bytes t = fails-by _ (and_not_at_checks None p_bytes (Some r) r_bytes t) refl
refusals None p_bytes None r_bytes t = fails-by _ (and_not_at_checks None p_bytes None r_bytes t) refl

pub offer_refusals : OfferRefusals
unfolding offer_checks next_checks other_checks mask_checks span_checks numbers among all_among
offer_refusals (Some p) p_bytes (Some r) r_bytes c = fails-by _ (offer_checks (Some p) p_bytes (Some r) r_bytes c) refl
offer_refusals (Some p) p_bytes None r_bytes c = fails-by _ (offer_checks (Some p) p_bytes None r_bytes c) refl
offer_refusals None p_bytes (Some r) r_bytes c =
    record {
      number = subst (λ (k : ℕ). (k ≡ 0 → ⊥) → among k (offer_gives None (Some r)) ≡ true) (sym (lone-number r r_bytes p_bytes))
          (fails-by (offer_gives None (Some r)) (mask_checks r r_bytes) refl).number;
    }
offer_refusals None p_bytes None r_bytes c = fails-by _ (offer_checks None p_bytes None r_bytes c) refl

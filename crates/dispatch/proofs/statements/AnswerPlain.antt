-- The plain reading of the answers of `offer`: their value, or the number and the caller's cursor. Those of `may_reassign` are read by the
-- definitions of masks, and stated there.
use Rattle.std.specs.Prelude.{◌≡◌, Ok, Err}
use Rattle.masks.specs.equations.Answer.{given, refused}
use Rattle.masks.specs.Refusal.{number}
use Rattle.dispatch.specs.declared.offer.RefusedOffer.{RefusedOffer}
use Rattle.dispatch.specs.declared.offer.Offering.{Offering}
use Rattle.dispatch.specs.Offer.{offer_failure}
use Rattle.dispatch.specs.equations.Offer.{offer_answer}

-- `passes` and `fails` are of the number that the contract names, `gives` and `refuses` of the equation
pub record OfferPlain : Type 0 where
  pub passes : (o : Offering) → offer_failure (Ok o) ≡ 0
  pub fails : (e : RefusedOffer) → offer_failure (Err e) ≡ number e.refusal
  pub gives : (o : Offering) → offer_answer (Ok o) ≡ given o
  pub refuses : (e : RefusedOffer) → offer_answer (Err e) ≡ refused (number e.refusal) e.cursor

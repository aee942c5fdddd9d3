-- The calls of `Offer` as one equation each: their answers by their checks.
use Rattle.std.specs.Prelude.{ℕ, List, Option, Result}
use Rattle.std.specs.Prelude.{Ok, Err}
use Rattle.masks.specs.declared.bitmap.Bitmap.{Bitmap}
use Rattle.masks.specs.equations.Answer.{Answer, given, refused, checked}
use Rattle.masks.specs.Refusal.{number}
use Rattle.dispatch.specs.declared.offer.RefusedOffer.{RefusedOffer}
use Rattle.dispatch.specs.declared.offer.Offering.{Offering}
use Rattle.dispatch.specs.Offer.{offer_checks, offered_of}

-- a result as an answer; a refusal has the caller's cursor
abbrev pub offer_answer : Result Offering RefusedOffer → Answer ℕ Offering
offer_answer (Ok o) = given o
offer_answer (Err e) = refused (number e.refusal) e.cursor

unfoldable pub offer_of : Option Bitmap → List ℕ → Option Bitmap → List ℕ → ℕ → Answer ℕ Offering
offer_of permission p_bytes revocation r_bytes cursor =
    checked (offer_checks permission p_bytes revocation r_bytes cursor) cursor (offered_of permission p_bytes revocation r_bytes cursor)

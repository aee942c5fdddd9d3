-- The rows of `tables/Witnesses.antt`, by computation.
use mathlib.Core.Path.{refl}
use Rattle.masks.specs.equations.Answer.{decided}
use Rattle.masks.specs.AtIndex.{and_not_at_checks, index_checks, length_checks}
use Rattle.masks.specs.Checks.{earlier, first_failed, rank, place_in, span_checks}
use Rattle.masks.specs.Mask.{mask_checks}
use Rattle.masks.specs.NextAndNot.{next_checks, other_checks}
use Rattle.masks.specs.Utils.{zeros}
use Rattle.masks.proofs.computed.WrongAnswers.{bits, count, flags_of, window}
use Rattle.dispatch.specs.equations.Reassign.{may_reassign}
use Rattle.dispatch.specs.Offer.{offer_checks}
use Rattle.dispatch.specs.equations.Offer.{offer_of}
use Rattle.dispatch.proofs.tables.Witnesses.{OfferWitnessed, Witnessed}

pub witnessed : Witnessed
unfolding
    may_reassign and_not_at_checks index_checks length_checks mask_checks span_checks first_failed earlier rank place_in decided
    zeros count window flags_of bits
witnessed = record { first = refl; second = refl; permission = refl; revocation = refl }

pub offer_witnessed : OfferWitnessed
unfolding
    offer_of offer_checks next_checks other_checks mask_checks span_checks first_failed earlier rank place_in decided
    zeros count window flags_of bits
offer_witnessed = record { first = refl; second = refl; permission = refl; revocation = refl }

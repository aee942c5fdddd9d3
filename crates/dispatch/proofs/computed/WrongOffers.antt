-- The wrong answers of `proofs/tables/WrongOffers.antt` are ruled out, by computation.
use mathlib.Core.Path.{refl}
use mathlib.Core.List.{◌++◌}
use Rattle.masks.proofs.computed.WrongAnswers.{answer, bits, Code, flags_of, number, option, same_code, tried, window}
use Rattle.masks.proofs.computed.WrongNext.{count, nth_place, zip3}
use Rattle.masks.specs.equations.Answer.{decided}
use Rattle.masks.specs.Checks.{earlier, first_failed, rank, place_in, span_checks}
use Rattle.masks.specs.Combine.{pair_flags, shortcut}
use Rattle.masks.specs.Mask.{mask_checks}
use Rattle.masks.specs.NextAndNot.{free_flags, next_checks, other_checks}
use Rattle.masks.specs.Search.{nth_from}
use Rattle.dispatch.specs.declared.offer.Offering.{Offering}
use Rattle.dispatch.specs.Offer.{beginning, in_order, next_truck, offer_checks, offered_of, offering, up_to, windows_read}
use Rattle.dispatch.specs.equations.Offer.{offer_of}
use Rattle.dispatch.proofs.tables.WrongOffers.{WrongOffers}

abbrev offering_code : Code Offering
offering_code o = option number o.truck ++ (number o.cursor ++ number o.windows)

pub offers-ruled-out : WrongOffers
unfolding
    same_code bits flags_of count window nth_place zip3
    first_failed earlier rank place_in span_checks mask_checks decided pair_flags shortcut
    nth_from free_flags other_checks next_checks next_truck beginning in_order up_to windows_read offering offer_checks offered_of offer_of
offers-ruled-out =
    record {
      round = tried (answer number offering_code) refl refl refl;
      edge = tried (answer number offering_code) refl refl refl;
      unrevoked = tried (answer number offering_code) refl refl refl;
      ahead = tried (answer number offering_code) refl refl refl;
      nothing = tried (answer number offering_code) refl refl refl;
      most-read = tried (answer number offering_code) refl refl refl;
      bound = tried number refl refl refl;
      bound-absent = tried number refl refl refl;
      said = tried number refl refl refl;
      outside = tried (answer number offering_code) refl refl refl;
      no-permission = tried (answer number offering_code) refl refl refl;
    }

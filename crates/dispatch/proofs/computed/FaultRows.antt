-- The rows of `proofs/tables/FaultRows.antt`, by computation.
use mathlib.Core.Path.{refl}
use Rattle.masks.proofs.computed.WrongAnswers.{bits, flags_of, window}
use Rattle.masks.proofs.computed.WrongNext.{count}
use Rattle.masks.specs.equations.Answer.{decided}
use Rattle.masks.specs.AtIndex.{and_not_at_checks, index_checks, length_checks}
use Rattle.masks.specs.Checks.{earlier, first_failed, rank, place_in, span_checks}
use Rattle.masks.specs.Mask.{mask_checks}
use Rattle.masks.specs.NextAndNot.{next_checks, other_checks}
use Rattle.masks.specs.Utils.{zeros}
use Rattle.dispatch.specs.equations.Reassign.{may_reassign}
use Rattle.dispatch.specs.Offer.{offer_checks}
use Rattle.dispatch.specs.equations.Offer.{offer_of}
use Rattle.dispatch.proofs.tables.FaultRows.{fault_rows, FaultsHold}

pub all_hold : FaultsHold
unfolding
    fault_rows bits flags_of window count zeros decided first_failed earlier rank place_in span_checks mask_checks
    and_not_at_checks index_checks length_checks may_reassign next_checks other_checks offer_checks offer_of
all_hold = record { faults = refl }

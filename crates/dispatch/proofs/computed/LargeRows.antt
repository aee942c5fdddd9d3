-- The rows of `proofs/tables/LargeRows.antt`, by computation.
use mathlib.Core.Path.{refl}
use Rattle.masks.proofs.computed.WrongAnswers.{bits, flags_of, window}
use Rattle.masks.proofs.computed.WrongNext.{count, nth_place, zip3}
use Rattle.masks.specs.equations.Answer.{decided}
use Rattle.masks.specs.AtIndex.{and_not_at_checks, and_not_flag, flag_or, index_checks, length_checks}
use Rattle.masks.specs.Checks.{earlier, first_failed, rank, place_in, span_checks}
use Rattle.masks.specs.Combine.{pair_flags, shortcut}
use Rattle.masks.specs.Mask.{mask_checks, zero_count}
use Rattle.masks.specs.NextAndNot.{free_flags, next_checks, other_checks}
use Rattle.masks.specs.Search.{nth_from}
use Rattle.masks.specs.Utils.{zeros}
use Rattle.dispatch.specs.Reassign.{reassignable}
use Rattle.dispatch.specs.equations.Reassign.{may_reassign}
use Rattle.dispatch.specs.Offer.{beginning, in_order, next_truck, offer_checks, offered_of, offering, up_to, windows_read}
use Rattle.dispatch.specs.equations.Offer.{offer_of}
use Rattle.dispatch.proofs.tables.LargeRows.{truck_rows, cursor_rows, LargeHolds}

pub all_hold : LargeHolds
unfolding
    truck_rows cursor_rows bits flags_of window count nth_place zip3 zeros
    decided first_failed earlier rank place_in span_checks mask_checks zero_count
    and_not_at_checks and_not_flag flag_or index_checks length_checks may_reassign reassignable pair_flags shortcut
    nth_from free_flags other_checks next_checks next_truck beginning in_order up_to windows_read offering offer_checks offered_of offer_of
all_hold = record { trucks = refl; cursors = refl }

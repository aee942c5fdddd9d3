-- If the checks pass, both spans lie within the limit; the larger serial wins: `second_wins` or `first_wins`.
use mathlib.Core.Path.{sym}
use Rattle.masks.proofs.superseding.SupersedingLaws.{first-allowed-mask, first_wins, second-allowed-mask, second_wins}
use Rattle.masks.proofs.superseding.superseding_part.Goals as goal

pub winner_of-requires : goal.winner_of-requires
winner_of-requires c =
    let span = second-allowed-mask _ _ _ _ (sym c.in_ok-check_superseding.ensures) in
    (span.starts, span.short)

pub returns-then-first-second-clause-part : goal.returns-then-first-second-clause-part
returns-then-first-second-clause-part c = second_wins _ _ _ c.if-first-second.true c.winner_of.ensures

pub winner_of-requires-2 : goal.winner_of-requires-2
winner_of-requires-2 c =
    let span = first-allowed-mask _ _ _ _ (sym c.in_ok-check_superseding.ensures) in
    (span.starts, span.short)

pub returns-clause-part : goal.returns-clause-part
returns-clause-part c = first_wins _ _ _ c.if-first-second.false c.winner_of-2.ensures

-- The checks of the span and, if they pass, that of the place, which comes after them: `first-number`, `passed-before`.
use Rattle.std.proofs.Common.{refl, ◌∙◌}
use Rattle.masks.specs.Checks.{rank, place_in, span_checks}
use Rattle.masks.specs.Cursor.{cursor_checks}
use Rattle.masks.proofs.checks.CheckLaws.{first-number, one-check, passed-before}
use Rattle.masks.proofs.refusal.RefusalLaws.{number-ne0, exit-number}
use Rattle.masks.proofs.cursor.check_cursor.Goals as goal

pub returns-in_err-check_span : goal.returns-in_err-check_span
unfolding cursor_checks span_checks rank place_in
returns-in_err-check_span c =
    exit-number _ _ c.from_residual.ensures.1 ∙ first-number _ _ 5 _ refl c.in_err-check_span.ensures.refused (number-ne0 _)

pub returns : goal.returns
unfolding cursor_checks
returns c =
    passed-before _ _ _ _ c.in_ok-check_span.ensures.refused refl
    (one-check _ _ _ _ c.check.ensures.refused refl)

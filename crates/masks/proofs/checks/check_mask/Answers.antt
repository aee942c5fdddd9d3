-- The checks of the span and, if they pass, that of the count, which comes after them: `first-number`, `passed-before`.
use Rattle.std.proofs.Common.{refl, sym, ◌∙◌}
use Rattle.masks.specs.Checks.{rank, place_in, span_checks}
use Rattle.masks.specs.Mask.{mask_checks}
use Rattle.masks.proofs.checks.CheckLaws.{first-number, one-check, passed-before, span-allowed}
use Rattle.masks.proofs.refusal.RefusalLaws.{number-ne0, exit-number}
use Rattle.masks.proofs.checks.check_mask.Goals as goal

pub returns-in_err-check_span : goal.returns-in_err-check_span
unfolding mask_checks span_checks rank place_in
returns-in_err-check_span c = record {
  refused =
      exit-number _ _ c.from_residual.ensures.1 ∙ first-number _ _ 2 _ refl c.in_err-check_span.ensures.refused (number-ne0 _);
}

pub count_valid-requires : goal.count_valid-requires
count_valid-requires c =
    let a = span-allowed _ _ _ (sym c.in_ok-check_span.ensures.refused) in
    (a.starts, a.short)

pub returns : goal.returns
unfolding mask_checks
returns c = record {
  refused =
      passed-before _ _ _ _ c.in_ok-check_span.ensures.refused refl
      (one-check _ _ _ _ c.check.ensures.refused c.count_valid.ensures);
}

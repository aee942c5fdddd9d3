-- A number is over the limit, and 1 comes first (`span-refused`), or both are within it, and the number is that of check 2 (`span-within`).
use Rattle.std.proofs.Common.{◌∙◌, ◌&&◌, sym, rules}
use Rattle.std.proofs.lemmas.Bool.{and_parts}
use mathlib.Core.Path.{ap₂}
use borrow.Author.Tests.{leb-true}
use Rattle.masks.proofs.checks.CheckLaws.{passed-one, span-refused, span-within}
use Rattle.masks.proofs.refusal.RefusalLaws.{exit-number, number-ne0}
use Rattle.masks.proofs.checks.check_span.Goals as goal

pub returns-in_err-check : goal.returns-in_err-check
returns-in_err-check c = record {
  refused =
      exit-number _ _ c.from_residual.ensures.1
      ∙ span-refused _ _ _ _ _ c.in_err-check.ensures.refused (number-ne0 _) (ap₂ ◌&&◌ c.within_limit.ensures c.within_limit-2.ensures);
}

pub returns : goal.returns
returns c = record {
  refused =
      let short = and_parts _ _ (passed-one _ _ (sym c.in_ok-check.ensures.refused)) in
      span-within _ _ _ _ _
      (leb-true _ _ (sym c.within_limit.ensures ∙ short.0))
      (leb-true _ _ (sym c.within_limit-2.ensures ∙ short.1))
      c.check-2.ensures.refused (search rules);
}

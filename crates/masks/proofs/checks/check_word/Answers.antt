-- The check of the limit and, if it passes, that of the word, which comes after it: `first-number`, `passed-before`.
use Rattle.std.proofs.Common.{refl}
use mathlib.Core.Path.{◌∙◌}
use borrow.Author.Tests.{le-leb, lt-leb}
use Rattle.masks.specs.Checks.{rank, place_in}
use Rattle.masks.proofs.checks.CheckLaws.{first-number, one-check, passed-before}
use Rattle.masks.proofs.refusal.RefusalLaws.{number-ne0, exit-number}
use Rattle.masks.proofs.checks.check_word.Goals as goal
use Rattle.masks.proofs.checks.check_word.Goals.{then-k-le64, else-k-le64}

pub returns-in_err-check_limit : goal.returns-in_err-check_limit
unfolding rank place_in
returns-in_err-check_limit c =
    exit-number _ _ c.from_residual.ensures.1 ∙ first-number _ _ 5 _ refl c.in_err-check_limit.ensures (number-ne0 _)

pub returns : goal.returns
returns c =
    passed-before _ _ _ _ c.in_ok-check_limit.ensures refl
    (one-check _ _ _ _ c.check.ensures.refused
    (elim c.if-k-le64.branch [
      | then-k-le64 w ↦ w.check-is ∙ w.none_from.ensures ∙ rw (le-leb c.args.k 64 w.if-k-le64.true)
      | else-k-le64 w ↦ w.check-is ∙ rw (lt-leb c.args.k 64 w.if-k-le64.false)
    ]))

-- The checks in two pieces (`two_pieces`); masks of unequal lengths differ (`lengths_differ`), else the flags are compared.
use mathlib.Core.Path.{sym, ◌∙◌}
use Rattle.words.proofs.flags.Windows.{length-window}
use Rattle.masks.proofs.checks.CheckLaws.{two_pieces}
use Rattle.masks.proofs.compare.CompareLaws.{lengths_differ, same-length-eq}
use Rattle.masks.proofs.refusal.RefusalLaws.{exit-number}
use borrow.Author.Tests.{ne_eqb}
use Rattle.masks.proofs.compare.eq.Goals as goal

pub returns-in_err-earlier-clause-refused : goal.returns-in_err-earlier-clause-refused
returns-in_err-earlier-clause-refused c =
    exit-number _ _ c.from_residual.ensures.1
    ∙ two_pieces _ _ _ _ _ c.in_err-earlier.ensures.refused c.check_mask.ensures.refused c.check_mask-2.ensures.refused

pub returns-else-n-rhs-clause-refused : goal.returns-else-n-rhs-clause-refused
returns-else-n-rhs-clause-refused c =
    two_pieces _ _ _ _ _ c.in_ok-earlier.ensures.refused c.check_mask.ensures.refused c.check_mask-2.ensures.refused

pub returns-else-n-rhs-clause-flag : goal.returns-else-n-rhs-clause-flag
returns-else-n-rhs-clause-flag c =
    ne_eqb _ _ c.if-n-rhs.false ∙ lengths_differ _ _ (λ h. c.if-n-rhs.false (sym (length-window _ _ _) ∙ h ∙ length-window _ _ _))

pub returns-then-n-rhs-clause-refused : goal.returns-then-n-rhs-clause-refused
returns-then-n-rhs-clause-refused c =
    two_pieces _ _ _ _ _ c.in_ok-earlier.ensures.refused c.check_mask.ensures.refused c.check_mask-2.ensures.refused

pub returns-then-n-rhs-clause-flag : goal.returns-then-n-rhs-clause-flag
returns-then-n-rhs-clause-flag c =
    same-length-eq _ _ _ _ _ _ _ c.if-n-rhs.true
    (rw (c.flags-a.ensures.0, c.flags-a.ensures.1, c.flags-b.ensures.0, c.flags-b.ensures.1) at c.equal.ensures)

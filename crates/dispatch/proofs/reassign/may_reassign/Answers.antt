-- The flag of `and_not_at` is known, and whether there is a permission mask (`ReassignLaws`).
use Rattle.std.proofs.Common.{sym}
use Rattle.dispatch.proofs.reassign.ReassignLaws.{by-flag, by-none}
use Rattle.dispatch.proofs.reassign.may_reassign.Goals as goal

pub returns-then-is_some-clause-flag : goal.returns-then-is_some-clause-flag
returns-then-is_some-clause-flag c = by-flag _ _ _ _ _ _ (sym c.if-is_some.ensures) c.in_ok-flag.ensures.flag

pub returns-else-is_some-clause-flag : goal.returns-else-is_some-clause-flag
returns-else-is_some-clause-flag c = by-none _ _ _ _ _ _ (sym c.if-is_some.ensures) c.if-is_some.false

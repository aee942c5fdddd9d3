-- `good_of`: what a record that passes the check fulfils, fact by fact.
use Rattle.std.proofs.Common.{sym, ◌∙◌, ◌≡◌, true, rules}
use Rattle.activity.proofs.checks.CheckLaws.{good_of}
use Rattle.activity.proofs.lent.push_minute.Goals as goal

pub minute_in-requires : goal.minute_in-requires
minute_in-requires c =
    let passed : c.left_by_minutes.result ≡ true = search rules in
    good_of _ (sym c.left_by_minutes.ensures ∙ passed)

use Rattle.std.proofs.Common.{ap, Bool, ◌&&◌, length, eqb}
use Rattle.masks.proofs.checks.CheckLaws.{one-check}
use Rattle.run_ends.proofs.rules.check_runs.Goals as goal

pub returns : goal.returns
returns c =
    record {
      refused =
          one-check _ _ _ _ c.check.ensures.refused
          (ap (λ (t : Bool). t && eqb (length c.args.ends.now) c.args.values) c.ends_hold.ensures);
    }

-- The invariant: the first i flags are appended, each repeated. One more is the law `runs-step`, with the room of `runs-room`.
use mathlib.Core.Path.{sym, ap, ◌∙◌}
use Rattle.masks.proofs.builder.AppendLaws.{append-none}
use Rattle.masks.proofs.builder.RepeatLaws.{nothing_yet, runs-step, runs-room}
use Rattle.masks.specs.Builder.{filling, appended}
use Rattle.masks.proofs.builder.repeat.append_runs.Goals as goal

pub loop-i-init : goal.loop-i-init
loop-i-init c =
    sym (append-none (filling _ _) c.well_formed.0.1.1.1.0.1 c.requires.low) ∙ ap (appended _) (nothing_yet _ _ _)

pub append_copies-grown-requires : goal.append_copies-grown-requires
append_copies-grown-requires c = runs-room _ _ _ _ _ _ _ c.loop-i.invariant c.loop-i-test.true c.requires

pub loop-i-preserved : goal.loop-i-preserved
loop-i-preserved c = runs-step _ _ _ _ _ _ _ _ c.loop-i.invariant c.flag_at-flag.ensures c.append_copies-grown.ensures

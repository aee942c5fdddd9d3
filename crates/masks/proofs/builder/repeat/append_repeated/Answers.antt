-- By cases on the repeats: for none nothing is appended (`no-repeats`), for one the stretch itself (`one-repeat`), else `append_runs`.
use mathlib.Core.Path.{sym, ap, ◌∙◌}
use Rattle.masks.specs.Builder.{filling, appended}
use Rattle.masks.proofs.builder.AppendLaws.{append-none}
use Rattle.masks.proofs.builder.RepeatLaws.{no-repeats, one-repeat}
use Rattle.masks.proofs.builder.repeat.append_repeated.Goals as goal

pub returns-then-repeats-eq0 : goal.returns-then-repeats-eq0
returns-then-repeats-eq0 c =
    sym (append-none (filling _ _) c.well_formed.0.1.1.1.0.1 c.requires.low) ∙ ap (appended _) (no-repeats _ _ c.if-repeats-eq0.true)

pub returns-then-repeats-eq1 : goal.returns-then-repeats-eq1
returns-then-repeats-eq1 c = c.append_stretch.ensures ∙ ap (appended _) (one-repeat _ _ c.if-repeats-eq1.true)

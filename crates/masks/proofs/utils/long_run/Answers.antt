-- The flags of the split are the span's (`split-number`).
use Rattle.std.proofs.Common.{ap, ◌∙◌}
use Rattle.masks.specs.Workers.{split_flags}
use Rattle.masks.proofs.aligned.SplitLaws.{split-number}
use Rattle.masks.proofs.utils.long_run.Goals as goal

pub returns : goal.returns
returns g c =
    let run = g.E.End.run c.args.flag in
    split-number run _ _ _ _ _ _ c.new.ensures.parts (c.run.ensures ∙ ap (λ b. run (split_flags b c.new.result.parts)) c.new.ensures.bytes)

-- One more part is `part-step`, with the room that `part-room` leaves; at the end nothing is left.
use Rattle.std.proofs.Common.{rules}
use Rattle.masks.specs.Builder.{filling}
use Rattle.masks.proofs.builder.AppendLaws.{append-none}
use Rattle.masks.proofs.builder.GatherLaws.{none-more, nothing-left, part-room, part-step}
use Rattle.masks.proofs.builder.gather.append_gathered.Goals as goal

pub loop-part-init : goal.loop-part-init
loop-part-init c = record {
  parts = search rules;
  left = search rules;
  none = append-none (filling _ _) (search rules) c.requires.low;
  room = search rules;
}

pub loop-part-preserved : goal.loop-part-preserved
loop-part-preserved c =
    let inv = c.loop-part.invariant in
    let step = c.in-Some.ensures.steps in
    let word = c.gather_word-word in
    let push = c.push_flags-grown.ensures in
    record {
      parts = search rules;
      left = part-step _ _ _ _ c.in-Some.part.now _ _ word.result inv.left step.1.0 word.ensures push;
      none = none-more _ _ _ push;
      room = part-room _ _ _ c.in-Some.part.now _ _ word.result step.1.0 word.ensures push inv.room;
    }

pub returns : goal.returns
returns c = let inv = c.loop-part.invariant in nothing-left _ _ _ _ inv.left c.in-None.ensures.steps.1.0 inv.none

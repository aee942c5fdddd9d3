-- A buffer that is too small sets the number (`small-room`); else the ones do (`ones_over`), and then the word (`word-decides`).
use Rattle.std.proofs.Common.{arith}
use Rattle.masks.proofs.builder.RoomLaws.{small-room, ones_over, word-decides}
use Rattle.masks.proofs.checks.check_room.Goals as goal

pub returns-then-size-div_ceil : goal.returns-then-size-div_ceil
returns-then-size-div_ceil c = small-room _ _ _ _ c.check_small.ensures (omega (arith, c.div_ceil.ensures, c.if-size-div_ceil.true))

pub returns-then-b : goal.returns-then-b
returns-then-b c = ones_over _ _ _ (omega (arith, c.div_ceil.ensures, c.if-size-div_ceil.false)) c.requires.1 c.if-b.true

pub returns : goal.returns
returns c =
    word-decides _ _ _ (omega (arith, c.div_ceil.ensures, c.if-size-div_ceil.false))
    c.requires.1 _ _ c.if-b.false c.check.ensures.refused c.none_from.ensures

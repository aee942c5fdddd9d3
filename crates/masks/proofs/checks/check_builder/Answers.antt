-- The new length is over the limit, and 1 comes first (`over-limit`), or it is within the limit (`in-limit`).
use Prim.Native.Nat.{◌+◌}
use native.Mathlib.Omega.{arith}
use borrow.Author.Tests.{le-leb, lt-leb}
use Rattle.masks.specs.Checks.{limit}
use Rattle.masks.proofs.builder.RoomLaws.{in-limit, over-limit}
use Rattle.masks.proofs.checks.check_builder.Goals as goal

pub returns-then-b-gt-LIMIT : goal.returns-then-b-gt-LIMIT
returns-then-b-gt-LIMIT c =
    let a = c.args in
    over-limit _ _ _ (lt-leb (a.b.length + a.more) limit (omega (arith, c.if-b-gt-LIMIT.true)))

pub returns-then-b-more : goal.returns-then-b-more
returns-then-b-more c =
    let a = c.args in
    over-limit _ _ _ (lt-leb (a.b.length + a.more) limit (omega (arith, c.if-b-gt-LIMIT.false, c.if-b-more.true)))

pub returns : goal.returns
returns c =
    let a = c.args in
    in-limit _ _ _ _ (le-leb (a.b.length + a.more) limit (omega (arith, c.if-b-gt-LIMIT.false, c.if-b-more.false))) c.check_room.ensures

-- The word in progress has room for all flags (`push_inside`), or it is completed and the rest begins the next word (`push-begun`); the
-- two parts joined are the flags (`cut-whole`).
use Prim.Native.Nat.{◌-◌, ◌%◌, ◌≤◌}
use mathlib.Core.Path.{ap, ◌∙◌}
use native.Mathlib.Omega.{arith}
use borrow.Author.Rules.{rules}
use Rattle.masks.specs.Builder.{appended}
use Rattle.masks.proofs.builder.AppendLaws.{append-then}
use Rattle.masks.proofs.builder.InsideLaws.{cut-whole, front-padded, inside-padded, length-rest, none-padded, rest-padded}
use Rattle.masks.proofs.utils.PartLaws.{length-low}
use Rattle.masks.proofs.builder.PushLaws.{rebuilt-way, push-begun}
use Rattle.masks.proofs.builder.RoomLaws.{length-then, room-less}
use Rattle.masks.proofs.builder.push_flags.Goals as goal

pub push_inside-requires : goal.push_inside-requires
push_inside-requires c =
    inside-padded _ _ _ _ _ _ c.requires.1 c.if-fill-k-lt64.true (length-low _ _ c.requires.0) c.low_flags-flags.ensures

pub returns-then-fill-k-lt64 : goal.returns-then-fill-k-lt64
returns-then-fill-k-lt64 c =
    c.push_inside.ensures _ ∙ ap (appended _) (front-padded _ _ _ (length-low _ _ c.requires.0) c.requires.0 c.low_flags-flags.ensures)

pub close_word-closed-requires : goal.close_word-closed-requires
close_word-closed-requires c = room-less _ _ _ _ (omega (arith, c.if-fill-k-lt64.false)) c.requires.1

pub returns : goal.returns
returns c =
    let b = c.args.b in
    let less : 64 - b.length % 64 ≤ c.args.k = omega (arith, c.if-fill-k-lt64.false) in
    let head : 64 - b.length % 64 ≤ 64 = omega arith in
    let long = length-then _ _ _ _ c.close_word-closed.ensures (length-low _ _ head) in
    let none = none-padded _ (c.args.k - (64 - b.length % 64)) _
    (length-rest _ _ _ _ _ c.requires.0 less c.low_flags-flags.ensures c.shr_or_zero-rest.ensures) (omega (arith, c.requires.0))
    (rest-padded _ _ _ _ _ c.requires.0 less c.low_flags-flags.ensures c.shr_or_zero-rest.ensures) in
    rebuilt-way _ _ _ _ c.rebuilt.ensures
    (append-then _ _ _ _ _ c.close_word-closed.ensures
    (push-begun _ _ _ _ _ (omega (arith, long)) (omega (arith, c.requires.0)) none (search rules) (omega (arith, long, less)))
    ∙ ap (appended _) (cut-whole _ _ _ _ _ c.requires.0 less c.low_flags-flags.ensures c.shr_or_zero-rest.ensures))

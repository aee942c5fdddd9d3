-- Few copies go into the word in progress (`front-padded`); else `append-three`: copies that complete it, whole words of copies and the
-- rest are all the copies (`copies-three`).
use Prim.Native.Nat.{◌-◌, ◌%◌, ◌≤◌}
use mathlib.Core.Path.{ap, ◌∙◌}
use native.Mathlib.Omega.{arith}
use Rattle.words.proofs.flags.Windows.{length-copies}
use Rattle.masks.specs.Builder.{appended}
use Rattle.masks.proofs.builder.AppendLaws.{constant-front}
use Rattle.masks.proofs.builder.ExtendLaws.{append-three, copies-three}
use Rattle.masks.proofs.builder.InsideLaws.{front-padded, inside-padded}
use Rattle.masks.proofs.utils.PartLaws.{length-low}
use Rattle.masks.proofs.builder.RoomLaws.{room-then, length-then}
use Rattle.masks.proofs.builder.extend.append_copies.Goals as goal

pub push_inside-requires : goal.push_inside-requires
push_inside-requires c = inside-padded _ _ _ _ _ _ c.requires c.if-fill-n-lt64.true (length-copies _ _) c.constant_flags.ensures

pub returns-then-fill-n-lt64 : goal.returns-then-fill-n-lt64
returns-then-fill-n-lt64 c =
    c.push_inside.ensures _
    ∙ ap (appended _) (front-padded _ _ _ (length-copies _ _) (omega (arith, c.if-fill-n-lt64.true)) c.constant_flags.ensures)

pub fill_words-filled-requires : goal.fill_words-filled-requires
fill_words-filled-requires c =
    let head : 64 - c.args.b.length % 64 ≤ 64 = omega arith in
    let long = length-then _ _ _ _ c.close_word-started.ensures (length-low _ _ head) in
    (omega (arith, long), room-then _ _ _ _ _ _ c.close_word-started.ensures (length-low _ _ head) c.requires (omega arith))

pub push_inside-requires-2 : goal.push_inside-requires-2
push_inside-requires-2 c =
    let head : 64 - c.args.b.length % 64 ≤ 64 = omega arith in
    let long = length-then _ _ _ _ c.close_word-started.ensures (length-low _ _ head) in
    let longer = length-then _ _ _ _ c.fill_words-filled.ensures (length-copies _ _) in
    let left = c.args.n - (64 - c.args.b.length % 64) in
    let room = room-then _ _ _ _ _ left c.close_word-started.ensures (length-low _ _ head) c.requires (omega arith) in
    inside-padded _ _ _ _ _ _ (room-then _ _ _ _ _ (left % 64) c.fill_words-filled.ensures (length-copies _ _) room (omega arith))
    (omega (arith, long, longer)) (length-copies _ _) c.constant_flags-2.ensures

pub returns : goal.returns
returns c =
    append-three _ _ _ _ _ _ _ _
    (c.close_word-started.ensures ∙ ap (appended _) (constant-front (64 - c.args.b.length % 64) _ _ (omega arith) c.constant_word.ensures))
    c.fill_words-filled.ensures
    (c.push_inside-2.ensures _ ∙ ap (appended _) (front-padded _ _ _ (length-copies _ _) (omega arith) c.constant_flags-2.ensures))
    (copies-three _ _ _ _ _ (omega arith))

-- Up to 64 flags are pushed as one word; else `append-three`: flags up to a full word, whole words and a last word are the stretch
-- (`window-three`).
use Prim.Native.Nat.{◌-◌, ◌*◌, ◌/◌, ◌≤◌}
use mathlib.Core.Path.{ap, ◌∙◌}
use native.Mathlib.Omega.{arith}
use Rattle.words.proofs.flags.Windows.{length-window}
use Rattle.masks.specs.Builder.{appended}
use Rattle.masks.proofs.builder.ExtendLaws.{append-three, window-three, stretch-front}
use Rattle.masks.proofs.utils.PartLaws.{length-low}
use Rattle.masks.proofs.builder.RoomLaws.{room-then, length-then}
use Rattle.masks.proofs.builder.extend.append_stretch.Goals as goal

pub returns-then-n-le64 : goal.returns-then-n-le64
returns-then-n-le64 c = c.push_flags.ensures ∙ ap (appended _) (stretch-front _ _ _ _ c.if-n-le64.true c.word_from-first.ensures)

pub copy_words-copied-requires : goal.copy_words-copied-requires
copy_words-copied-requires c =
    let low : c.to_whole-head.result ≤ 64 = omega arith in
    let long = length-then _ _ _ _ c.push_flags-started.ensures (length-low _ _ low) in
    (omega (arith, long), room-then _ _ _ _ _ _ c.push_flags-started.ensures (length-low _ _ low) c.requires (omega arith))

pub push_flags-requires-2 : goal.push_flags-requires-2
push_flags-requires-2 c =
    let low : c.to_whole-head.result ≤ 64 = omega arith in
    let room =
    room-then _ _ _ _ _ (c.args.span.now.length - c.to_whole-head.result) c.push_flags-started.ensures (length-low _ _ low) c.requires
    (omega arith) in
    (omega arith, room-then _ _ _ _ _ _ c.copy_words-copied.ensures (length-window _ _ _) room (omega arith))

pub returns : goal.returns
returns c =
    let n = c.args.span.now.length in
    append-three _ _ _ _ _ _ _ _ (c.push_flags-started.ensures
    ∙ ap (appended _) (stretch-front _ _ c.to_whole-head.result _ (omega arith) c.word_from-first.ensures)) c.copy_words-copied.ensures
    (c.push_flags-2.ensures
    ∙ ap (appended _)
    (stretch-front _ _ (n - c.to_whole-head.result - 64 * ((n - c.to_whole-head.result - 1) / 64)) _ (omega arith)
    c.word_from-last.ensures))
    (window-three _ _ _ _ _ _ _ _ (omega arith) (omega arith) (omega arith))

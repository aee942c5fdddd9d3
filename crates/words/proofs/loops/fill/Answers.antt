-- After the whole words at most one more is stored (`write_step`); then the output is full or has all flags (`write-end`).
use Rattle.std.proofs.Common.{ap, refl, ◌∙◌, arith}
use Rattle.words.specs.Flags.{over}
use Rattle.words.proofs.flags.Bytes.{length-flags}
use Rattle.words.proofs.flags.Windows.{copies-window, length-copies}
use Rattle.words.proofs.loops.Writing.{fill-front, write_step, write-end, copies-cut}
use Rattle.words.proofs.loops.fill.Goals as goal

pub returns-then-done-len : goal.returns-then-done-len
returns-then-done-len c =
    write-end _ _ _ _ _ _
    (write_step _ _ _ _ _ _
    (fill-front _ _ _ _ _ (omega arith) refl c.fill_bytes.ensures ∙ ap (over _) (copies-window _ _ 0 _ (omega arith)))
    (copies-cut _ _ _ _ _ (omega arith) c.constant_word.ensures c.low_flags.ensures)
    c.store_at.ensures)
    (length-flags _) (length-copies _ _) (λ l. omega arith) (omega arith)

pub returns-else-done-len : goal.returns-else-done-len
returns-else-done-len c =
    write-end _ _ _ _ _ _ (fill-front _ _ _ _ _ (omega arith) refl c.fill_bytes.ensures ∙ ap (over _) (copies-window _ _ 0 _ (omega arith)))
    (length-flags _) (length-copies _ _) (λ l. omega arith) (omega arith)

-- Of at most a word one store has all flags (`write-once`); where there are none nothing is written (`write-nothing`). Else the
-- invariant: where the loop began with the whole words over flags F, i words are over F. One more is `write_step`, the end `write-end`.
use Rattle.std.proofs.Common.{refl, ap, ◌∙◌, arith, rules}
use Rattle.words.specs.Flags.{over}
use Rattle.words.proofs.flags.Bytes.{length-flags}
use Rattle.words.proofs.ops.Combining.{zip-later, length-zip}
use Rattle.words.proofs.loops.Writing.{write-once, write-nothing, write_step, write-end}
use Rattle.words.proofs.loops.combine.Goals as goal

pub returns-then-len-gt0 : goal.returns-then-len-gt0
returns-then-len-gt0 c =
    write-once _ _ _ _ _ (length-zip _ _ _ _ _ _ _ _) c.if-len-gt0.true c.if-len-le64.true c.triple_word.ensures c.store_le_u64.ensures

pub returns-else-len-gt0 : goal.returns-else-len-gt0
returns-else-len-gt0 c = write-nothing _ _ _ (length-zip _ _ _ _ _ _ _ _) c.if-len-gt0.false

pub loop-i-preserved : goal.loop-i-preserved
loop-i-preserved c =
    let inv = c.loop-i.invariant in
    (omega arith, (search rules, λ F p. write_step F _ _ _ _ _ (inv.1.1 F p) c.triple_word-in-loop-i.ensures c.store_at.ensures))

pub returns : goal.returns
returns c =
    write-end _ _ _ _ _ _
    (c.loop-i.invariant.1.1 _
    (c.combine_whole-done.ensures.1.1
    ∙ ap (over _) (zip-later _ _ _ _ _ _ _ _ _ _ _ _ _ _ 0 _ refl (omega arith) refl (omega arith) refl (omega arith) (omega arith))))
    (length-flags _) (length-zip _ _ _ _ _ _ _ _) (λ l. omega arith) (omega arith)

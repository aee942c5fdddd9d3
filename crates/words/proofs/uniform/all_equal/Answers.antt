-- What fits the first load is read by it (`near-are`). Else there are three parts: one with another flag ends the check (`all-exit`), and
-- if the first two have none, the answer is that of the last (`all_more`).
use Rattle.std.proofs.Common.{refl, sym, ◌∙◌, ◌-◌, ◌%◌, arith}
use Rattle.std.proofs.lemmas.Bool.{true≢false}
use Rattle.words.proofs.uniform.UniformLaws.{all-exit, all_more, first-are, near-are}
use Rattle.words.proofs.uniform.all_equal.Goals as goal
use Rattle.words.proofs.uniform.all_equal.Goals.{then-low_all_equal, else-low_all_equal}

pub returns-then-len-k : goal.returns-then-len-k
returns-then-len-k c = near-are _ _ _ _ _ _ (omega arith) c.near_word-w.ensures c.low_all_equal.ensures

pub returns-then-words_all_equal : goal.returns-then-words_all_equal
returns-then-words_all_equal c =
    let a = c.args in
    elim c.if-low_all_equal.branch [
      | then-low_all_equal w ↦ (
          let one = sym w.if-low_all_equal.true ∙ near-are _ _ _ (64 - a.start % 8) _ _ (omega arith) c.near_word-w.ensures
          c.low_all_equal-2.ensures in
          all_more _ _ _ _ _ _ _ _
          (sym c.if-words_all_equal.true ∙ all_more _ _ _ _ _ _ _ _ one (w.value-is ∙ w.words_all_equal.ensures) (omega arith) refl)
          (first-are _ _ _ ((a.len - (64 - a.start % 8)) % 64) _ _ (omega arith) c.byte_word.ensures
          c.low_all_equal-then-words_all_equal.ensures)
          (omega arith) (omega arith))
      | else-low_all_equal w ↦ absurd (true≢false (sym c.if-words_all_equal.true ∙ w.value-is ∙ w.if-low_all_equal.false))
    ]

pub returns-else-words_all_equal : goal.returns-else-words_all_equal
returns-else-words_all_equal c =
    let a = c.args in
    c.if-words_all_equal.false ∙ elim c.if-low_all_equal.branch [
      | then-low_all_equal w ↦
          all-exit _ _ _ _ _ _ _ w.words_all_equal.ensures (sym w.value-is ∙ c.if-words_all_equal.false) (omega arith) (omega arith)
      | else-low_all_equal w ↦
          all-exit _ _ _ _ _ _ _
          (near-are _ _ _ (64 - a.start % 8) _ _ (omega arith) c.near_word-w.ensures c.low_all_equal-2.ensures)
          w.if-low_all_equal.false (omega arith) (omega arith)
    ]

-- In each arm the operation is known, and reads the first list, the first two, or all three.
use Rattle.std.proofs.Common.{◌≡◌, sym, ◌∙◌, not, ◌&&◌, ◌||◌, ℕ, length}
use Rattle.std.proofs.Math.Bool.{xor}
use Rattle.words.specs.Flags.{bits}
use Rattle.words.specs.Ops.{and_not, or_not}
use Rattle.words.proofs.flags.Bits.{length-bits}
use Rattle.words.proofs.ops.Combining.{zip_first, zip_two}
use Rattle.words.proofs.ops.combine_word.Goals as goal

same : (x y : ℕ) → length (bits 64 x) ≡ length (bits 64 y)
same x y = length-bits 64 x ∙ sym (length-bits 64 y)

pub returns-in-And : goal.returns-in-And
returns-in-And c = rw c.in-And.is (c.and_word.ensures ∙ sym (zip_two ◌&&◌ _ _ _ (same _ _) (same _ _)))

pub returns-in-AndNot : goal.returns-in-AndNot
returns-in-AndNot c = rw c.in-AndNot.is (c.and_not_word.ensures ∙ sym (zip_two and_not _ _ _ (same _ _) (same _ _)))

pub returns-in-Or : goal.returns-in-Or
returns-in-Or c = rw c.in-Or.is (c.or_word.ensures ∙ sym (zip_two ◌||◌ _ _ _ (same _ _) (same _ _)))

pub returns-in-OrNot : goal.returns-in-OrNot
returns-in-OrNot c = rw c.in-OrNot.is (c.or_not_word.ensures ∙ sym (zip_two or_not _ _ _ (same _ _) (same _ _)))

pub returns-in-Xor : goal.returns-in-Xor
returns-in-Xor c = rw c.in-Xor.is (c.xor_word.ensures ∙ sym (zip_two xor _ _ _ (same _ _) (same _ _)))

pub returns-in-Not : goal.returns-in-Not
returns-in-Not c = rw c.in-Not.is (c.not_word.ensures ∙ sym (zip_first not _ _ _ (same _ _) (same _ _)))

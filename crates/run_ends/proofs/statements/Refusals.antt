-- Refusals: with which numbers each call on run ends may refuse, as in `Refusals` of masks. That it refuses by the number of these checks
-- is its clause `refused`; what a refusal leaves as it was, its clause `unchanged`.
use Rattle.std.specs.Prelude.{ℕ, ℤ, List, [], ◌∷◌}
use Rattle.masks.specs.declared.bitmap.Bitmap.{Bitmap}
use Rattle.masks.proofs.statements.Refusals.{FailsBy}
use Rattle.run_ends.specs.Read.{read_checks}
use Rattle.run_ends.specs.Write.{write_checks}

-- ---- the table

pub data Family : Type 0 where
  reading : Family
  writing : Family

abbrev pub may_give : Family → List ℕ
-- `from_run_ends`
may_give reading = 1 ∷ 2 ∷ 13 ∷ 3 ∷ 9 ∷ []
-- `to_run_ends`
may_give writing = 1 ∷ 2 ∷ 3 ∷ 9 ∷ []

-- ---- the statement

pub record Refusals : Type 0 where
  pub read : (ends : List ℤ) (m : Bitmap) (bytes : List ℕ) (n size : ℕ) → FailsBy (may_give reading) (read_checks ends m bytes n size)
  pub write : (m : Bitmap) (bytes : List ℕ) (places size : ℕ) → FailsBy (may_give writing) (write_checks m bytes places size)

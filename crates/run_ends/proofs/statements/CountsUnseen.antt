-- The theorem on counts for the calls on run ends: if the checks of the mask pass, their checks and what they return and write are those
-- for the same mask with its count unknown. That they answer by these is said by their clauses.
use Rattle.std.specs.Prelude.{ℕ, ◌≡◌, ℤ, List}
use Rattle.masks.specs.Checks.{first_failed}
use Rattle.masks.specs.Mask.{mask_checks, mask_flags, written_mask}
use Rattle.masks.specs.declared.bitmap.Bitmap.{Bitmap}
use Rattle.masks.proofs.statements.CountsUnseen.{Unseen, UnseenBoth}
use Rattle.run_ends.specs.Read.{flags_read, read_checks}
use Rattle.run_ends.specs.Write.{run_count, run_flags, write_checks, written_ends}

pub record CountUnseen (m : Bitmap) (bytes : List ℕ) : Type 0 where
  -- `from_run_ends`, of its values
  pub read : (ends : List ℤ) (n size : ℕ)
      → UnseenBoth m (λ x. read_checks ends x bytes n size) (λ x. written_mask x n) (λ x. flags_read ends (mask_flags x bytes) n)
  -- `to_run_ends`
  pub write : (places size : ℕ)
      → UnseenBoth m (λ x. write_checks x bytes places size) (λ x. written_mask x (run_count x bytes))
      (λ x. run_flags (mask_flags x bytes))
  pub write_ends : Unseen m (λ x. written_ends (mask_flags x bytes))

abbrev pub CountsUnseen : Type 0
CountsUnseen = (m : Bitmap) (bytes : List ℕ) → first_failed (mask_checks m bytes) ≡ 0 → CountUnseen m bytes

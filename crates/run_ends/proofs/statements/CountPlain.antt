-- Which of the masks that the calls on run ends return have a known zero count, in the reference's words. Each line is about an accepted
-- call.
use Rattle.std.specs.Prelude.{ℕ, ℤ, List}
use Rattle.masks.specs.declared.bitmap.Bitmap.{Bitmap}
use Rattle.masks.proofs.statements.CountPlain.{EachCounts}
use Rattle.run_ends.specs.Write.{run_count}
use Rattle.run_ends.specs.equations.Read.{from_run_ends_of}
use Rattle.run_ends.specs.equations.Write.{to_run_ends_of}

-- `unset` of a mask that is written is unknown, save 0 for no flags
pub record CountsPlainly : Type 0 where
  pub read : (ends : List ℤ) (m : Bitmap) (bytes : List ℕ) (n size : ℕ) → EachCounts n (from_run_ends_of ends m bytes n size)
  pub write : (m : Bitmap) (bytes : List ℕ) (places size : ℕ)
      → EachCounts (run_count m bytes) (to_run_ends_of m bytes places size)

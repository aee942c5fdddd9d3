-- The counts after a run of minutes, by bits: 64 numbers, of which number c is how many of the last `width` words have bit c set.
use Rattle.std.specs.Prelude.{ℕ, ◌≤◌, ◌<◌, ◌≡◌, List, length, get_or}
use Rattle.words.proofs.statements.ColumnPlain.{set_in}
use Rattle.activity.specs.Window.{new_of, counts_of}
use Rattle.activity.proofs.statements.Minutes.{last_of, pushes}

-- Each width from 1 to 256, each run of minutes that begins with a new record, and then a call of `counts`.
pub record CountPlain : Type 0 where
  -- the call is accepted,
  pub accepted : (width : ℕ) (minutes : List ℕ) → 1 ≤ width → width ≤ 256 → (counts_of (pushes (new_of width) minutes).value).refusal ≡ 0
  -- its answer has 64 counts,
  pub long : (width : ℕ) (minutes : List ℕ) → 1 ≤ width → width ≤ 256
      → length (counts_of (pushes (new_of width) minutes).value).value ≡ 64
  -- and truck c was busy in so many of the last minutes.
  pub each : (width : ℕ) (minutes : List ℕ) → 1 ≤ width → width ≤ 256 → (c : ℕ) → c < 64
      → get_or (counts_of (pushes (new_of width) minutes).value).value c 0 ≡ set_in c (last_of width minutes)

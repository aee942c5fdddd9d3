-- The window that a run of minutes leaves, and statements on the calls in its terms.
use Rattle.std.specs.Prelude.{ℕ, suc, ◌-◌, ◌%◌, ◌^◌, ◌<◌, min, ◌≡◌, true, List, [], ◌∷◌, length, drop, set}
use Rattle.words.specs.Columns.{column_counts}
use Rattle.activity.specs.Checks.{width_fits, left_by_minutes}
use Rattle.activity.specs.Window.{Answer, zeros, holding, accepted, new_of, push_of, counts_of}
use Rattle.activity.specs.declared.window.ActivityWindow.{ActivityWindow}

-- at width `width`, minutes of which the first is minute k, put into `words`: minute k at place k mod width
unfoldable pub placed : ℕ → ℕ → List ℕ → List ℕ → List ℕ
placed width k [] words = words
placed width k (m ∷ minutes) words = placed width (suc k) minutes (set words (k % width) m)

-- the record that a run of minutes leaves: unused words are zero, and each count is the number of kept words with its flag set
unfoldable pub left_by : ℕ → List ℕ → ActivityWindow
left_by width minutes = holding (placed width 0 minutes (zeros 256)) (length minutes % width) (min (length minutes) width) width

-- the last `width` words of the minutes, or all if there are fewer
abbrev pub last_of : ℕ → List ℕ → List ℕ
last_of width minutes = drop (length minutes - width) minutes

-- `push_minute` for each minute; each call gets the record that the one before left
unfoldable pub pushes : Answer ActivityWindow → List ℕ → Answer ActivityWindow
pushes a [] = a
pushes a (m ∷ minutes) = pushes (push_of a.value m) minutes

-- ---- the statements

-- words of 64 bits
abbrev pub Words : List ℕ → Type 0
Words [] = Unit {0}
Words (w ∷ words) = (w < 2 ^ 64) × Words words

-- a run of minutes of 64 bits that leaves the record a
pub record Run (a : ActivityWindow) : Type 0 where
  pub minutes : List ℕ
  pub fit : Words minutes
  pub leaves : left_by a.width minutes ≡ a

pub record Statements : Type 0 where
  -- Starting with a new record every minute is accepted, and the record is that of the run.
  pub every-run : (width : ℕ) (minutes : List ℕ) → width_fits width ≡ true
      → pushes (new_of width) minutes ≡ accepted (left_by width minutes)
  -- Each count is then a fresh count over the last words.
  pub fresh-counts : (width : ℕ) (minutes : List ℕ) → width_fits width ≡ true
      → counts_of (pushes (new_of width) minutes).value ≡ accepted (column_counts (last_of width minutes))
  -- What a run leaves passes the check,
  pub run-passes : (width : ℕ) (minutes : List ℕ) → width_fits width ≡ true → left_by_minutes (left_by width minutes) ≡ true
  -- and a record of 256 words that passes it is left by a run at its width.
  pub passes-run : (a : ActivityWindow) → length a.words ≡ 256 → Words a.words → left_by_minutes a ≡ true → Run a

-- Wrong answers that the contracts rule out.
--
-- Rows as in `WrongAnswers` of words: the definition at one input, its value there, and two answers of a faulty call.
use Rattle.std.specs.Prelude.{[], ◌∷◌, ◌++◌}
use Rattle.words.proofs.tables.WrongAnswers.{Tried}
use Rattle.activity.specs.Window.{no_minute, accepted, refused, uncounted, new_of, push_of, counts_of}
use Rattle.activity.proofs.tables.Witnesses.{padded, window_of, three_minutes}

pub record WrongAnswers : Type 0 where
  -- `ActivityWindow::new` of width 3
  pub new : Tried (new_of 3)
      (accepted (no_minute 3))
      -- the width not kept
      (accepted (no_minute 0))
      -- widths that are no multiple of 64 refused
      (refused (no_minute 0))
  -- `ActivityWindow::new` of width 257
  pub new-above : Tried (new_of 257)
      (refused (no_minute 0))
      -- widths above 256 taken
      (accepted (no_minute 257))
      -- the width kept though it was refused
      (refused (no_minute 257))
  -- `ActivityWindow::push_minute` of 4 after the minutes 4, 1 and 3 at width 2
  pub push_minute : Tried (push_of three_minutes 4)
      (accepted (window_of (3 ∷ 4 ∷ []) (1 ∷ 1 ∷ 1 ∷ []) 0 2 2))
      -- the oldest word's flags not taken off
      (accepted (window_of (3 ∷ 4 ∷ []) (2 ∷ 1 ∷ 1 ∷ []) 0 2 2))
      -- the latest word replaced instead of the oldest
      (accepted (window_of (4 ∷ 1 ∷ []) (1 ∷ 0 ∷ 1 ∷ []) 0 2 2))
  -- `ActivityWindow::push_minute` of 1 after one minute at width 2
  pub push-second : Tried (push_of (window_of (3 ∷ []) (1 ∷ 1 ∷ []) 1 1 2) 1)
      (accepted (window_of (3 ∷ 1 ∷ []) (2 ∷ 1 ∷ []) 0 2 2))
      -- the place not taken back to the first
      (accepted (window_of (3 ∷ 1 ∷ []) (2 ∷ 1 ∷ []) 2 2 2))
      -- the number of kept words not raised
      (accepted (window_of (3 ∷ 1 ∷ []) (2 ∷ 1 ∷ []) 0 1 2))
  -- `ActivityWindow::counts` after the minutes 4, 1 and 3 at width 2
  pub counts : Tried (counts_of three_minutes)
      (accepted (padded 64 (2 ∷ 1 ∷ [])))
      -- minutes that are no longer kept counted
      (accepted (padded 64 (2 ∷ 1 ∷ 1 ∷ [])))
      -- flags counted from the other end
      (accepted (padded 62 [] ++ (1 ∷ 2 ∷ [])))
  -- `ActivityWindow::counts` of a record with a false count
  pub counts-false : Tried (counts_of (window_of (3 ∷ 1 ∷ []) (3 ∷ 1 ∷ []) 1 2 2))
      uncounted
      -- the counts of the record believed
      (accepted (padded 64 (3 ∷ 1 ∷ [])))
      -- the counts computed again
      (accepted (padded 64 (2 ∷ 1 ∷ [])))

-- Records that no run of minutes leaves, each wrong at one place, and the answers of the calls.
--
-- `ActivityWindow::new` is witnessed by widths, `ActivityWindow::push_minute` and `ActivityWindow::counts` by records.
-- `proofs/computed/Witnesses.antt` computes the rows.
use Rattle.std.specs.Prelude.{ℕ, ◌-◌, ◌≡◌, List, [], ◌∷◌, ◌++◌, length, Ok, Err, codes}
use Rattle.activity.specs.Lent.{window_at, numbers_of}
use Rattle.activity.specs.Window.{zeros, no_minute, accepted, refused, uncounted, failure_of, said, answer, new_of, push_of, counts_of}
use Rattle.activity.specs.declared.window.ActivityWindow.{ActivityWindow}
use Rattle.activity.specs.declared.window.WindowRefusal.TheVariants.{ImpossibleWindow}

-- n numbers: those of the list, then zeros
abbrev pub padded : ℕ → List ℕ → List ℕ
padded n l = l ++ zeros (n - length l)

abbrev pub window_of : List ℕ → List ℕ → ℕ → ℕ → ℕ → ActivityWindow
window_of words counts place fill width =
    record { words = padded 256 words; counts = padded 64 counts; place = place; fill = fill; width = width }

-- the words of three minutes, 4, 1 and 3, at width 2: minute 2 is at place 0, instead of minute 0
abbrev pub three_minutes : ActivityWindow
three_minutes = window_of (3 ∷ 1 ∷ []) (2 ∷ 1 ∷ []) 1 2 2

-- the record a is refused by 16: it comes back unchanged, and the counts are zeros
pub record Refused (a : ActivityWindow) : Type 0 where
  pub push : (w : ℕ) → push_of a w ≡ refused a
  pub counts : counts_of a ≡ uncounted

pub record Accepted (a : ActivityWindow) : Type 0 where
  pub push : (push_of a 0).refusal ≡ 0
  pub counts : counts_of a ≡ accepted a.counts

pub record Witnessed : Type 0 where
  -- widths: none, the least, the largest, one above it, and the largest number
  pub new_0 : new_of 0 ≡ refused (no_minute 0)
  pub new_1 : new_of 1 ≡ accepted (no_minute 1)
  pub new_256 : new_of 256 ≡ accepted (no_minute 256)
  pub new_257 : new_of 257 ≡ refused (no_minute 0)
  pub new_largest : new_of 0xFFFFFFFFFFFFFFFF ≡ refused (no_minute 0)
  -- a new window has kept no word; a refusal has the number 16, and an answer the number 0
  pub new-window : (new_of 3).value ≡ window_of [] [] 0 0 3
  pub new-number : (new_of 0).refusal ≡ 16
  pub push-number : (push_of (no_minute 0) 1).refusal ≡ 16
  pub counts-number : (counts_of (no_minute 0)).refusal ≡ 16
  pub no_number : (new_of 3).refusal ≡ 0
  pub counted-number : (counts_of three_minutes).refusal ≡ 0
  -- lent arrays and numbers as a record, and the numbers of an answered window
  pub lent-window : window_at (3 ∷ []) (1 ∷ []) (record { place = 1; fill = 2; width = 4 })
      ≡ record { words = 3 ∷ []; counts = 1 ∷ []; place = 1; fill = 2; width = 4 }
  pub lent-numbers : numbers_of (refused (record { words = 3 ∷ []; counts = 1 ∷ []; place = 1; fill = 2; width = 4 }))
      ≡ record { value = record { place = 1; fill = 2; width = 4 }; refusal = 16 }
  -- how a result is read: the value of a refused answer is the one in the error
  pub read-ok : (a : ActivityWindow) → answer (Ok a) ≡ accepted a
  pub read-refused : (a : ActivityWindow) → answer (Err (record { refusal = ImpossibleWindow; state = a })) ≡ refused a
  pub passed : (n : ℕ) → failure_of (Ok n) ≡ 0
  pub failed : failure_of {A = ℕ} (Err ImpossibleWindow) ≡ 16
  -- the text of the refusal
  pub text : said ImpossibleWindow ≡ codes "refused with 16: the width is not 1 to 256, or no run of minutes leaves the window"
  pub width_0 : Refused (no_minute 0)
  pub width_257 : Refused (no_minute 257)
  pub width_largest : Refused (no_minute 0xFFFFFFFFFFFFFFFF)
  -- a record that minutes leave, and one that is not full
  pub left : Accepted three_minutes
  pub one-minute : Accepted (window_of (3 ∷ []) (1 ∷ 1 ∷ []) 1 1 2)
  -- the place at the width, and at the largest number
  pub place-at-width : Refused (window_of (3 ∷ 1 ∷ []) (2 ∷ 1 ∷ []) 2 2 2)
  pub place_largest : Refused (window_of (3 ∷ 1 ∷ []) (2 ∷ 1 ∷ []) 0xFFFFFFFFFFFFFFFF 2 2)
  -- more kept words than places
  pub fill-above : Refused (window_of (3 ∷ 1 ∷ []) (2 ∷ 1 ∷ []) 1 3 2)
  pub fill_largest : Refused (window_of (3 ∷ 1 ∷ []) (2 ∷ 1 ∷ []) 1 0xFFFFFFFFFFFFFFFF 2)
  -- one word kept, and the place of the next on top of it
  pub place-not-fill : Refused (window_of (3 ∷ []) (1 ∷ 1 ∷ []) 0 1 2)
  -- a word after the kept ones: below the width, at the width, and at the last place
  pub stray_below-width : Refused (window_of (3 ∷ 1 ∷ []) (1 ∷ 1 ∷ []) 1 1 2)
  pub stray_behind-width : Refused (window_of (3 ∷ 1 ∷ 8 ∷ []) (2 ∷ 1 ∷ []) 1 2 2)
  pub stray_last : Refused (window_of (3 ∷ 1 ∷ zeros 253 ++ (1 ∷ [])) (2 ∷ 1 ∷ []) 1 2 2)
  -- a count one too large, one too small, one for the last flag, and the largest of 32 bits
  pub count-more : Refused (window_of (3 ∷ 1 ∷ []) (3 ∷ 1 ∷ []) 1 2 2)
  pub count_less : Refused (window_of (3 ∷ 1 ∷ []) (2 ∷ 0 ∷ []) 1 2 2)
  pub count-last : Refused (window_of (3 ∷ 1 ∷ []) (2 ∷ 1 ∷ zeros 61 ++ (1 ∷ [])) 1 2 2)
  pub count_largest : Refused (window_of (3 ∷ 1 ∷ []) (0xFFFFFFFF ∷ 1 ∷ []) 1 2 2)

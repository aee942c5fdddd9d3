-- A window of the last minutes and the answers of its calls.
--
-- The record has 256 words, of which the first `fill` are kept, 64 counts, the place where the next word goes, and the width:
-- how many words it keeps at most.
use Rattle.std.specs.Prelude.{ℕ, ◌+◌, ◌%◌, min, cond, List, take, set, replicate, ◌++◌, Result, Ok, Err, codes, decimal}
use Rattle.words.specs.Columns.{column_counts}
use Rattle.activity.specs.Checks.{width_fits, left_by_minutes}
use Rattle.activity.specs.declared.window.ActivityWindow.{ActivityWindow}
use Rattle.activity.specs.declared.window.Refused.{Refused}
use Rattle.activity.specs.declared.window.WindowRefusal.{WindowRefusal}
use Rattle.activity.specs.declared.window.WindowRefusal.TheVariants.{ImpossibleWindow}

unfoldable pub zeros : ℕ → List ℕ
zeros n = replicate n 0

-- the record of these words and numbers: each count is the number of kept words with its flag set
abbrev pub holding : List ℕ → ℕ → ℕ → ℕ → ActivityWindow
holding words place fill width =
    record { words = words; counts = column_counts (take fill words); place = place; fill = fill; width = width }

-- the record of no minute, at this width
unfoldable pub no_minute : ℕ → ActivityWindow
no_minute width = record { words = zeros 256; counts = zeros 64; place = 0; fill = 0; width = width }

-- the record a after one more minute: w at the record's place, in place of the oldest word if all places are taken
unfoldable pub minute_on : ActivityWindow → ℕ → ActivityWindow
minute_on a w = holding (set a.words a.place w) ((a.place + 1) % a.width) (min (a.fill + 1) a.width) a.width

-- ---- the answers: a value and the number of the refusal, 0 for none

pub record Answer (A : Type 0) : Type 0 where
  pub value : A
  pub refusal : ℕ

abbrev pub accepted : {A : Type 0} → A → Answer A
accepted a = record { value = a; refusal = 0 }

abbrev pub refused : {A : Type 0} → A → Answer A
refused a = record { value = a; refusal = 16 }

abbrev pub uncounted : Answer (List ℕ)
uncounted = refused (zeros 64)

-- the number by which a call refused
abbrev pub number : WindowRefusal → ℕ
number ImpossibleWindow = 16

-- the words for a failed check
abbrev pub reason : WindowRefusal → List ℕ
reason ImpossibleWindow = codes "the width is not 1 to 256, or no run of minutes leaves the window"

-- the text of a refusal
abbrev pub said : WindowRefusal → List ℕ
said r = codes "refused with " ++ (decimal (number r) ++ (codes ": " ++ reason r))

-- the number of a result whose error holds no state, 0 for none
abbrev pub failure_of : {A : Type 0} → Result A WindowRefusal → ℕ
failure_of (Ok a) = 0
failure_of (Err e) = number e

-- a call's result as an answer: an error holds the value of a refused one
abbrev pub answer : {A : Type 0} → Result A (Refused A) → Answer A
answer (Ok a) = accepted a
answer (Err e) = record { value = e.state; refusal = number e.refusal }

-- the answer of `new`: refused, a record of zeros, whose width every call refuses
unfoldable pub new_of : ℕ → Answer ActivityWindow
new_of width = cond (width_fits width) (accepted (no_minute width)) (refused (no_minute 0))

-- the answer of `push_minute`: refused, the record unchanged
unfoldable pub push_of : ActivityWindow → ℕ → Answer ActivityWindow
push_of a w = cond (left_by_minutes a) (accepted (minute_on a w)) (refused a)

-- the answer of `counts`: refused, 64 zeros
unfoldable pub counts_of : ActivityWindow → Answer (List ℕ)
counts_of a = cond (left_by_minutes a) (accepted a.counts) uncounted

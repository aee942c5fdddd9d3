-- A window of minutes in the C interface: its two arrays are lent, and its numbers are passed and returned with them.
use Rattle.std.specs.Prelude.{ℕ, cond, List, eqb}
use Rattle.activity.specs.Window.{Answer}
use Rattle.activity.specs.declared.window.ActivityWindow.{ActivityWindow}
use Rattle.capi.specs.declared.answers.WindowAnswer.{WindowAnswer}

unfoldable pub window_in : List ℕ → List ℕ → ℕ → ℕ → ℕ → ActivityWindow
window_in words counts place fill width = record { words = words; counts = counts; place = place; fill = fill; width = width }

unfoldable pub as_window : Answer ActivityWindow → WindowAnswer
as_window a = record { refusal = a.refusal; place = a.value.place; fill = a.value.fill; width = a.value.width }

-- an array that a call writes, unchanged on refusal
unfoldable pub unless_refused : ℕ → List ℕ → List ℕ → List ℕ
unless_refused k came new = cond (eqb k 0) new came

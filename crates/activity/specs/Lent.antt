-- A window whose arrays are lent: its record, and the answer of a call without the arrays.
use Rattle.std.specs.Prelude.{ℕ, List}
use Rattle.activity.specs.Window.{Answer}
use Rattle.activity.specs.declared.lent.Numbers.{Numbers}
use Rattle.activity.specs.declared.window.ActivityWindow.{ActivityWindow}

-- the record of the arrays `words` and `counts` and the numbers `at`
abbrev pub window_at : List ℕ → List ℕ → Numbers → ActivityWindow
window_at words counts at = record { words = words; counts = counts; place = at.place; fill = at.fill; width = at.width }

-- the numbers of an answered window, whose arrays are those that were lent
abbrev pub numbers_of : Answer ActivityWindow → Answer Numbers
numbers_of a =
    record {
      value = record { place = a.value.place; fill = a.value.fill; width = a.value.width };
      refusal = a.refusal;
    }

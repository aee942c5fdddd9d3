-- When a line has ended, and what a step takes of the bytes that were read.
use Rattle.std.specs.Prelude.{ℕ, ◌-◌, ◌==◌, Bool, true, false, List, [], ◌++◌, length, take, drop, position}
use Rattle.std.specs.Prelude.{Option, Some, None, if◌then◌else◌}
use Rattle.std.specs.List.{before_first, after_first}
use Rattle.notation.specs.declared.lines.Lines.{Lines}
use Rattle.notation.specs.declared.lines.Step.{Step}
use Rattle.notation.specs.declared.lines.Step.TheVariants.{Part, Line, Last}

-- whether the step took a line feed, so that the next one begins a new line
abbrev pub ends : Step → Bool
ends Part = false
ends Line = true
ends Last = false

-- the beginning of the line that the next step goes on with
module _ {R : Type 0} where
  abbrev pub begun : Lines R → List ℕ
  begun lines = if lines.ended then [] else lines.line.items

-- the bytes that were read and are not taken
module _ {R : Type 0} where
  abbrev pub unread : Lines R → List ℕ
  unread lines = drop lines.taken lines.window.items

-- whether a byte is a line feed
abbrev pub is_feed : ℕ → Bool
is_feed b = b == 10

-- the line with the bytes that were read, up to a line feed, as far as 16,384 bytes
abbrev pub gone_on : List ℕ → List ℕ → List ℕ
gone_on line read = line ++ take (16384 - length line) (before_first is_feed read)

-- what is left of the bytes that were read, after the line feed
abbrev pub left_of : List ℕ → List ℕ
left_of read = after_first is_feed read

-- the step by the place of a line feed: with one it ends the line
abbrev pub step_by : Option ℕ → Step
step_by (Some at) = Line
step_by None = Part

abbrev pub step_over : List ℕ → Step
step_over read = step_by (position is_feed read)

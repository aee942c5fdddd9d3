-- The calls of `Cursor` as one equation each: their answers by their checks.
use Rattle.std.specs.Prelude.{Result, Ok, Err}
use Rattle.masks.specs.equations.Answer.{Answer, given, refused}
use Rattle.masks.specs.Refusal.{number}
use Rattle.masks.specs.declared.cursor.Step.{Step as Stepped}
use Rattle.masks.specs.declared.refusal.Refused.{Refused}
use Rattle.masks.specs.Cursor.{Step, step_of}

-- the answer of a call on a cursor
abbrev pub answer_step : {A C : Type 0} → Result (Stepped A C) (Refused C) → Answer C (Step C A)
answer_step (Ok s) = given (step_of s.item s.cursor)
answer_step (Err e) = refused (number e.refusal) e.state

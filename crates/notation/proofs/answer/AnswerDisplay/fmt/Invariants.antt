-- The tokens before this one are printed.
use Rattle.std.proofs.Common.{take}
use Rattle.std.specs.Fmt.{HasWritten, IsPlainFormatter}
use Rattle.notation.specs.Answer.{answer_text}
use Rattle.notation.proofs.answer.AnswerDisplay.fmt.Given as goal

abbrev pub invariant-loop-token : goal.invariant-loop-token
invariant-loop-token g l =
    IsPlainFormatter l.fn.f → HasWritten g.W.Write.write_str_gives l.fn.f (answer_text (take l.token-index l.token-items)) l.f

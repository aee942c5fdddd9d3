-- Each token adds its text.
use Rattle.std.proofs.Common.{arith}
use Rattle.std.proofs.lemmas.Grind.{common_steps}
use Rattle.notation.proofs.answer.AnswerDisplay.fmt.Goals as goal

pub loop-token-preserved : goal.loop-token-preserved
loop-token-preserved g c = grind (arith, common_steps)

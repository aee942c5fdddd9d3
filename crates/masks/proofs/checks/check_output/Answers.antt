-- `one-check`, and `output-test`: comparing words equals comparing bytes.
use Rattle.masks.specs.Checks.{output_checks}
use Rattle.masks.proofs.checks.CheckLaws.{one-check, output-test}
use Rattle.masks.proofs.checks.check_output.Goals as goal

pub returns : goal.returns
unfolding output_checks
returns c = record { refused = one-check _ _ _ _ c.check.ensures.refused (output-test c.args.n c.args.size _ c.div_ceil.ensures) }

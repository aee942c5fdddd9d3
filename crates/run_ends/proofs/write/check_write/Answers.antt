-- There is one run more than edges (`counted`). The checks are made in their order: `mask-decides`, `ends-refused`, `output-answers`.
use Rattle.std.proofs.Common.{refl, sym, ◌∙◌, arith}
use Rattle.words.specs.Flags.{flags_of}
use Rattle.words.proofs.flags.Windows.{length-window}
use Rattle.masks.specs.Mask.{mask_flags}
use Rattle.masks.proofs.bitmap.MaskLaws.{mask-allowed}
use Rattle.masks.proofs.refusal.RefusalLaws.{number-ne0, exit-number}
use Rattle.run_ends.proofs.write.CheckLaws.{ends-refused, mask-decides, output-answers}
use Rattle.run_ends.proofs.write.RunFlags.{counted, edges-short}
use Rattle.run_ends.proofs.write.check_write.Goals as goal

pub runs_of-runs-requires : goal.runs_of-runs-requires
runs_of-runs-requires c =
    let a = mask-allowed _ _ (sym c.in_ok-edges.ensures.refused) in
    let l = mask_flags c.args.mask c.args.bytes.now in
    let long = length-window (flags_of c.args.bytes.now) c.args.mask.start c.args.mask.length in
    (omega (arith, c.in_ok-edges.ensures.edges, edges-short l, long), a.short)

pub returns-in_err-edges-clause-refused : goal.returns-in_err-edges-clause-refused
returns-in_err-edges-clause-refused c =
    exit-number _ _ c.from_residual.ensures.1 ∙ mask-decides _ _ _ _ _ c.in_err-edges.ensures.refused (number-ne0 _)

pub returns-in_err-check-clause-refused : goal.returns-in_err-check-clause-refused
returns-in_err-check-clause-refused c =
    let runs = counted _ _ _ _ (length-window _ _ _) c.in_ok-edges.ensures.edges c.runs_of-runs.ensures in
    exit-number _ _ c.from_residual-in_err-check.ensures.1
    ∙ ends-refused _ _ _ _ _ _ _ c.in_ok-edges.ensures.refused refl runs c.in_err-check.ensures.refused (number-ne0 _)

pub returns-in_err-check_output-clause-refused : goal.returns-in_err-check_output-clause-refused
returns-in_err-check_output-clause-refused c =
    let runs = counted _ _ _ _ (length-window _ _ _) c.in_ok-edges.ensures.edges c.runs_of-runs.ensures in
    exit-number _ _ c.from_residual-in_err-check_output.ensures.1
    ∙ output-answers _ _ _ _ _ _ _ c.in_ok-edges.ensures.refused refl runs c.in_ok-check.ensures.refused
    c.in_err-check_output.ensures.refused

pub returns : goal.returns
returns c =
    let runs = counted _ _ _ _ (length-window _ _ _) c.in_ok-edges.ensures.edges c.runs_of-runs.ensures in
    record {
      refused =
          output-answers _ _ _ _ _ _ _ c.in_ok-edges.ensures.refused refl runs c.in_ok-check.ensures.refused
          c.in_ok-check_output.ensures.refused;
      runs = runs;
    }

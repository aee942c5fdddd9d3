-- If the checks pass, the ends have places (`write-allowed`); the values are alternating flags (`run-flags-window`), and the words that are
-- written are their frozen bytes (`frozen-written`).
use Rattle.std.proofs.Common.{rules, sym, ap, ◌∙◌, arith, Bool, List}
use Rattle.words.specs.Flags.{flags_of, over}
use Rattle.words.specs.Loops.{whole_words}
use Rattle.masks.specs.Mask.{mask_flags}
use Rattle.masks.proofs.bitmap_ops.CombineLaws.{frozen-written}
use Rattle.run_ends.proofs.write.CheckLaws.{write-allowed}
use Rattle.run_ends.proofs.write.RunFlags.{paired-from, run-flags-window}
use Rattle.run_ends.proofs.write.to_run_ends.Goals as goal

pub write_ends-requires : goal.write_ends-requires
write_ends-requires c =
    let a = write-allowed _ _ _ _ (sym c.in_ok-runs.ensures.refused) in
    (a.starts, (a.short, omega (arith, a.fits, paired-from 0 (mask_flags c.args.mask c.args.bytes.now))))

pub returns-clause-bytes : goal.returns-clause-bytes
returns-clause-bytes c =
    frozen-written _ _ _ (search rules) (search rules)
    (c.fill_alternating.ensures
    ∙ ap (λ (l : List Bool). over (flags_of c.args.out.now) (whole_words l))
    (run-flags-window _ _ _ _ _ c.flag_at.ensures c.in_ok-runs.ensures.runs))

-- The runs may be read (`read-allowed`); the words that are written are the frozen bytes (`frozen-written`).
use Rattle.std.proofs.Common.{rules, sym, ap, ◌∙◌, ℕ}
use Rattle.words.specs.Flags.{flags_of, over}
use Rattle.words.specs.Loops.{stretch, whole_words}
use Rattle.masks.proofs.bitmap_ops.CombineLaws.{frozen-written}
use Rattle.run_ends.specs.Read.{flags_read}
use Rattle.run_ends.proofs.read.CheckLaws.{read-allowed}
use Rattle.run_ends.proofs.read.from_run_ends.Goals as goal

pub write_runs-requires : goal.write_runs-requires
write_runs-requires c = (read-allowed _ _ _ _ _ (sym c.in_ok-check_read.ensures)).readable

pub returns-clause-bytes : goal.returns-clause-bytes
returns-clause-bytes c =
    let a = read-allowed _ _ _ _ _ (sym c.in_ok-check_read.ensures) in
    frozen-written _ _ _ (search rules) (search rules)
    (c.write_runs.ensures
    ∙ ap (λ (n : ℕ).
    over (flags_of c.args.out.now)
    (whole_words (flags_read c.args.ends.now (stretch c.args.bytes.now c.args.values.start n) c.args.length))) a.paired)

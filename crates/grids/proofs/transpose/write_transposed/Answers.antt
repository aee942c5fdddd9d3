use Rattle.std.proofs.Common.{◌*◌, ◌∙◌, ap, List, Bool, arith, sym}
use Rattle.words.specs.Flags.{flags_of, over}
use Rattle.words.specs.Loops.{stretch, whole_words}
use Rattle.words.proofs.flags.Windows.{length-window}
use Rattle.grids.proofs.transpose.BlockLaws.{to_columns}
use Rattle.grids.proofs.transpose.WholeLaws.{all_joined, none-written, one-column, one-row}
use Rattle.grids.proofs.transpose.write_transposed.Goals as goal
use Rattle.grids.proofs.transpose.write_transposed.Goals.{then-rows-eq1-via-then-rows-eq1, then-rows-eq1-via-else-rows-eq1+then-columns-eq1}

pub returns-then-n-eq0 : goal.returns-then-n-eq0
returns-then-n-eq0 c = none-written _ _ c.args.rows c.args.columns c.if-n-eq0.true

pub returns-then-rows-eq1 : goal.returns-then-rows-eq1
returns-then-rows-eq1 c =
    let l = stretch c.args.bytes.now c.args.start (c.args.rows * c.args.columns) in
    let long = length-window (flags_of c.args.bytes.now) c.args.start (c.args.rows * c.args.columns) in
    c.copy.ensures ∙ ap (λ (t : List Bool). over (flags_of c.args.out.now) (whole_words t)) (sym
    (elim c.then-rows-eq1.branch [
      | then-rows-eq1-via-then-rows-eq1 w ↦ one-row l c.args.rows c.args.columns long w.if-rows-eq1.true
      | then-rows-eq1-via-else-rows-eq1+then-columns-eq1 w ↦ one-column l c.args.rows c.args.columns long w.if-columns-eq1.true
    ]))

pub returns : goal.returns
returns c = all_joined _ c.args.rows c.args.columns _ _ _ c.fill.ensures
    (to_columns _ _ _ _ _ 0 c.args.rows 0 (64 * c.loop-band.band) (omega arith) c.loop-band.invariant)

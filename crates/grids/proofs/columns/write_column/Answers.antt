-- One more word in each iteration (`write_step`, `column-word`); after the last one the column is written (`write-end`).
use Rattle.std.proofs.Common.{ap, ◌∙◌, ◌+◌, ◌*◌, ◌≤◌, ◌<◌, List, Bool, arith}
use Rattle.words.specs.Flags.{flags_of, over}
use Rattle.words.specs.Loops.{whole_words}
use Rattle.words.proofs.flags.Bytes.{length-flags}
use Rattle.words.proofs.loops.Writing.{write-end, write-none, write_step}
use Rattle.grids.proofs.columns.ColumnLaws.{column-word, few-columns, few-flags, few-rows, length-column, only-column}
use Rattle.grids.proofs.columns.write_column.Goals as goal

pub returns-then-columns-eq1 : goal.returns-then-columns-eq1
returns-then-columns-eq1 c =
    c.copy.ensures
    ∙ ap (λ (l : List Bool). over (flags_of c.args.out.now) (whole_words l)) (only-column _ _ _ _ _ c.requires.1.1 c.if-columns-eq1.true)

pub loop-i-init : goal.loop-i-init
loop-i-init c = write-none _ _

pub gather_every-word-requires : goal.gather_every-word-requires
gather_every-word-requires c =
    let last : 64 * c.loop-i.i + c.min-n.result ≤ c.args.rows = omega arith in
    let some : 0 < c.args.rows = omega arith in
    let far = few-flags _ _ _ c.requires.1.0 last in
    let wide = few-columns _ _ c.requires.1.0 some in
    (omega arith, (few-rows _ _ _ _ c.requires.1.1 c.requires.1.0 last, omega (arith, far, wide)))

pub loop-i-preserved : goal.loop-i-preserved
loop-i-preserved c =
    write_step _ _ _ _ _ _ c.loop-i.invariant (c.gather_every-word.ensures ∙ column-word _ _ _ _ _ c.requires.1.1 _ _ c.min-n.ensures)
    c.store_at.ensures

pub returns : goal.returns
returns c =
    write-end _ _ _ _ _ _ c.loop-i.invariant (length-flags _) (length-column _ _ _ _ _ c.requires.1.1) (λ l. omega arith) (omega arith)

-- Too many bytes have no report (`too_long`); others pass a mask's checks (`whole-accepted`), so that no call is refused, and the numbers
-- of the calls are the report's.
use mathlib.Core.Path.{refl, ◌∙◌}
use Rattle.masks.proofs.refusal.ClauseLaws.{accepted, accepted_back}
use Rattle.std.proofs.lemmas.Result.{IfOk-at_ok}
use Rattle.report.proofs.numbers.NumberLaws.{numbers-given, too_long, whole-accepted}
use Rattle.report.proofs.numbers.report.Goals as goal

pub returns-then-bytes-gt65536 : goal.returns-then-bytes-gt65536
returns-then-bytes-gt65536 c = too_long _ c.if-bytes-gt65536.true

pub unwrap-zeros-requires : goal.unwrap-zeros-requires
unwrap-zeros-requires c =
    accepted_back _ (c.unset_bits.ensures.refused ∙ whole-accepted c.args.bytes.now _ c.if-bytes-gt65536.false refl)

pub unwrap-edges-requires : goal.unwrap-edges-requires
unwrap-edges-requires c = accepted _ (c.num_edges.ensures.refused ∙ whole-accepted c.args.bytes.now _ c.if-bytes-gt65536.false refl)

pub runs_of-runs-requires : goal.runs_of-runs-requires
runs_of-runs-requires c = whole-accepted c.args.bytes.now _ c.if-bytes-gt65536.false refl

pub returns : goal.returns
returns c =
    let zeros = IfOk-at_ok _ c.unwrap-zeros.ensures c.unset_bits.ensures.zeros in
    let edges = IfOk-at_ok _ c.unwrap-edges.ensures c.num_edges.ensures.edges in
    numbers-given c.args.bytes.now _ _ _ _ c.if-bytes-gt65536.false refl zeros edges c.runs_of-runs.ensures

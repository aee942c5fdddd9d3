-- `counted_first`: the numbers of planes that have the sums of the first words; `wrote-few`: of fewer than 32 words five planes have them.
use Rattle.std.proofs.Common.{◌≡◌, ◌<◌, length, take, length-take, rules, refl, arith}
use Rattle.words.proofs.planes.PlaneLaws.{counted_first, wrote-few}
use Rattle.words.proofs.columns.column_counts.Goals as goal

pub returns-then-n-lt32 : goal.returns-then-n-lt32
returns-then-n-lt32 c =
    let long : length c.spread.result ≡ 64 = search rules in
    let few : length (take c.min-n.result c.args.words.now) < 32 = omega (arith, length-take c.min-n.result c.args.words.now) in
    counted_first 511 _ _ _ _ (omega arith) c.totals-planes.ensures long
    (wrote-few _ _ _ _ few c.totals-planes.ensures refl c.spread.ensures)

pub returns-else-n-lt32 : goal.returns-else-n-lt32
returns-else-n-lt32 c =
    let long : length c.spread-else-n-lt32.result ≡ 64 = search rules in
    counted_first 511 _ _ _ _ (omega arith) c.totals-planes.ensures long c.spread-else-n-lt32.ensures

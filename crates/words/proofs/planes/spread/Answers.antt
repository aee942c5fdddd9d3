-- Two halves (`wrote_halves`).
use Rattle.std.proofs.Common.{◌≡◌, length, refl, rules}
use Rattle.words.proofs.planes.PlaneLaws.{wrote_halves}
use Rattle.words.proofs.planes.spread.Goals as goal

pub returns : goal.returns
returns g c =
    let long : length c.spread_half.new.out ≡ 32 = search rules in
    wrote_halves _ _ _ _ long refl c.spread_half.ensures c.spread_half-2.ensures

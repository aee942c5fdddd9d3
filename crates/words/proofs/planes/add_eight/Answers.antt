-- `eight_grown`: two fours and a full adder; what is left is added to the planes above the first three (`added_part`).
use Rattle.std.proofs.Common.{◌≡◌, length, set, drop, length-set, length-drop, take_all, arith}
use Rattle.words.proofs.planes.AdderLaws.{added_part, eight_grown}
use Rattle.words.proofs.planes.add_eight.Goals as goal

pub returns : goal.returns
returns c =
    let b = c.add_four-b.result in
    let d = c.full_add-d.result in
    let long : length (set (set (set c.args.planes.now 0 b.ones) 1 b.twos) 2 d.low) ≡ 9 = simp length-set c.told-planes in
    eight_grown _ _ _ _ _ _ _ _ _ _ _ _ c.told-planes c.add_four-a.ensures
    (take_all _ (drop 4 c.args.words.now) (omega (arith, length-drop 4 c.args.words.now))) c.add_four-b.ensures c.full_add-d.ensures
    (added_part _ _ 3 6 _ long c.add.ensures)

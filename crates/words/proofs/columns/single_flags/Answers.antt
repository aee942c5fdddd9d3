-- Each number is what the closure returns for its column (`mask_value`).
use Rattle.std.proofs.Common.{◌≡◌, ◌*◌, ◌^◌, ◌%◌, ◌∙◌, rules, get_or}
use Rattle.words.proofs.columns.PlaneReads.{mask_value}
use Rattle.words.proofs.columns.single_flags.Goals as goal

pub returns : goal.returns
returns c i h =
    let (p, q, k) = c.from_fn.ensures.items.at i 0 h in
    let e : get_or c.from_fn.result i 0 ≡ 1 * 2 ^ i % 2 ^ 32 = search rules in
    e ∙ mask_value i h

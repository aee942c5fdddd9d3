-- `words-yes`, `words-no`: one for each end.
use Rattle.std.proofs.Common.{rules, ◌≡◌, length}
use Rattle.activity.proofs.checks.CheckLaws.{zero-rest, words-yes, words-no}
use Rattle.activity.proofs.checks.words_fit.Goals as goal

pub returns-then-all_zero : goal.returns-then-all_zero
returns-then-all_zero c =
    let long : length c.args.words.now ≡ 256 = search rules in
    let many : length c.args.counts.now ≡ length c.column_counts.result = search rules in
    words-yes c.args.words.now c.args.counts.now c.args.fill _
    (zero-rest c.args.words.now c.args.fill _ long c.all_zero.ensures)
    _ _ c.requires c.if-all_zero.true many c.column_counts.ensures c.same_numbers.ensures

pub returns-else-all_zero : goal.returns-else-all_zero
returns-else-all_zero c =
    let long : length c.args.words.now ≡ 256 = search rules in
    words-no c.args.words.now c.args.counts.now c.args.fill _
    (zero-rest c.args.words.now c.args.fill _ long c.all_zero.ensures) c.if-all_zero.false

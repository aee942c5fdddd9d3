-- The words that are left are the end of all: eight more are added (`totals_grown`), then one more (`one_left`).
use Rattle.std.proofs.Common.{◌≡◌, ◌∙◌, ◌<◌, ap, length, rules}
use Rattle.std.specs.Slice.Iter.{chunks_exact_rest}
use Rattle.words.proofs.planes.PlaneLaws.{end_none, end_more, end_all, one_left, totals_none, totals_grown}
use Rattle.words.proofs.planes.totals.Goals as goal

pub loop-eight-init : goal.loop-eight-init
loop-eight-init c =
    let all : chunks_exact_rest c.into_iter-eight-iterator.result ≡ c.args.words.now =
    ap chunks_exact_rest c.into_iter-eight-iterator.ensures.into_iter_gives ∙ c.chunks_exact-eights.ensures.rest in
    record {
      eights = search rules;
      end = rw all (end_none c.args.words.now);
      totals = rw all (totals_none c.args.words.now);
    }

pub loop-eight-preserved : goal.loop-eight-preserved
loop-eight-preserved c =
    let inv = c.loop-eight.invariant in
    let step = c.in-Some.ensures.steps in
    record {
      eights = step.0 ∙ inv.eights;
      end = end_more _ _ _ _ (step.1.1 ∙ inv.eights) step.1.0 inv.end;
      totals = totals_grown _ _ _ _ _ _ c.requires step.1.0 inv.totals c.add_eight.ensures;
    }

pub add_eight-requires : goal.add_eight-requires
add_eight-requires c = c.in-Some.ensures.steps.1.1 ∙ c.loop-eight.invariant.eights

pub loop-w-init : goal.loop-w-init
loop-w-init c =
    let inv = c.loop-eight.invariant in
    let few : length (chunks_exact_rest c.loop-eight.eight-iterator) < 8 = rw inv.eights at c.in-None.ensures.steps.1.0 in
    rw (end_all _ _ _ inv.end few (c.remainder-rest.ensures ∙ c.chunks_exact-eights.ensures.remainder)) at inv.totals

pub loop-w-preserved : goal.loop-w-preserved
loop-w-preserved c = one_left _ _ _ _ _ c.requires c.loop-w-test.true c.loop-w.invariant c.add.ensures

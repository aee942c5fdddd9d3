-- The definition is std's for the chain of iterators (`below-is-all`).
use Rattle.std.proofs.Common.{◌∙◌, ltb, rules, tests}
use Rattle.std.proofs.lemmas.Iterator.{YieldsList-from_slice}
use Rattle.std.proofs.lemmas.Iterator.Search.{all_from_yields_List}
use Rattle.masks.proofs.builder.GatherLaws.{below-is-all}
use Rattle.masks.proofs.builder.gather.all_below.Goals as goal

pub returns : goal.returns
returns c =
    all_from_yields_List (λ i. ltb i c.args.n) _ _ _ c.all.ensures.ran (YieldsList-from_slice c.args.idxs.now cc)
    (λ x b q k. search (rules, tests))
    ∙ below-is-all _ _

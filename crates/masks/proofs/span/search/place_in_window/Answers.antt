-- By `requires` more than n flags are set, so the answer is a place (`nth-found`).
use Rattle.std.proofs.Common.{Ok, ◌≡◌, ◌∙◌, rules}
use Rattle.words.specs.Flags.{bits}
use Rattle.words.specs.Nth.{nth_place}
use Rattle.words.proofs.theorems.Plain.{nth-found}
use Rattle.masks.proofs.span.search.place_in_window.Goals as goal

pub returns : goal.returns
returns c =
    let l = bits 32 c.args.w in
    let there : c.nth_in_window.result ≡ Ok (nth_place l c.args.n) = c.nth_in_window.ensures ∙ nth-found l c.args.n c.requires in
    search (rules, there)

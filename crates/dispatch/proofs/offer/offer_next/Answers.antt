-- What the search finds is what is offered (`found-way`, `found-bound`).
use Rattle.std.proofs.Common.{arith, ℕ, Option, Ok, sym, ap, ◌≡◌, ◌∙◌, rules}
use Rattle.masks.specs.Refusal.{failure_of}
use Rattle.dispatch.specs.Offer.{moved_to}
use Rattle.dispatch.proofs.offer.OfferLaws.{found-bound, found_inside, found-way}
use Rattle.dispatch.proofs.offer.offer_next.Goals as goal

pub overflow_add-next : goal.overflow_add-next
overflow_add-next c =
    let e : c.next_and_not.result ≡ Ok c.in_ok-found.found = search rules in
    let passed = sym (ap failure_of e) ∙ c.next_and_not.ensures.refused in
    omega (arith, found_inside _ _ _ _ _ _ passed (rw e at c.next_and_not.ensures.found) _ c.in-Some.is)

pub returns-in-Some-clause-offering : goal.returns-in-Some-clause-offering
returns-in-Some-clause-offering c =
    let e : c.next_and_not.result ≡ Ok c.in_ok-found.found = search rules in
    let passed = sym (ap failure_of e) ∙ c.next_and_not.ensures.refused in
    found-way _ _ _ _ _ _ passed (rw e at c.next_and_not.ensures.found) _
    (ap (λ (t : Option ℕ). moved_to t c.args.cursor) (sym c.in-Some.is))

pub returns-in-Some-clause-bound : goal.returns-in-Some-clause-bound
returns-in-Some-clause-bound c =
    let e : c.next_and_not.result ≡ Ok c.in_ok-found.found = search rules in
    let passed = sym (ap failure_of e) ∙ c.next_and_not.ensures.refused in
    found-bound _ _ _ _ _ _ passed (rw e at c.next_and_not.ensures.found)

pub returns-in-None-clause-offering : goal.returns-in-None-clause-offering
returns-in-None-clause-offering c =
    let e : c.next_and_not.result ≡ Ok c.in_ok-found.found = search rules in
    let passed = sym (ap failure_of e) ∙ c.next_and_not.ensures.refused in
    found-way _ _ _ _ _ _ passed (rw e at c.next_and_not.ensures.found) _
    (ap (λ (t : Option ℕ). moved_to t c.args.cursor) (sym c.in-None.is))

pub returns-in-None-clause-bound : goal.returns-in-None-clause-bound
returns-in-None-clause-bound c =
    let e : c.next_and_not.result ≡ Ok c.in_ok-found.found = search rules in
    let passed = sym (ap failure_of e) ∙ c.next_and_not.ensures.refused in
    found-bound _ _ _ _ _ _ passed (rw e at c.next_and_not.ensures.found)

-- A search over a revocation mask makes its checks (`lone-checked`); without one no check is made (`no-mask-checked`).
use Rattle.std.proofs.Common.{Ok, Err, sym, ap, ◌≡◌, ◌∙◌, rules}
use Rattle.masks.specs.Refusal.{failure_of}
use Rattle.dispatch.proofs.offer.OfferLaws.{lone-checked, no-mask-checked, offer-exit}
use Rattle.dispatch.proofs.offer.offer_none.Goals as goal

pub returns-in_err-map_err-clause-refused : goal.returns-in_err-map_err-clause-refused
returns-in_err-map_err-clause-refused c =
    let e : c.next_and_not-search.result ≡ Err c.in_err-map_err.field-0.0.refusal = search rules in
    offer-exit _ _ c.from_residual.ensures.1
    ∙ lone-checked _ _ _ _ _ _ c.in-Some.is (sym (ap failure_of e) ∙ c.next_and_not-search.ensures.refused)

pub returns-in_ok-map_err-clause-refused : goal.returns-in_ok-map_err-clause-refused
returns-in_ok-map_err-clause-refused c =
    let e : c.next_and_not-search.result ≡ Ok c.in_ok-map_err.field-0 = search rules in
    lone-checked _ _ _ _ _ _ c.in-Some.is (sym (ap failure_of e) ∙ c.next_and_not-search.ensures.refused)

pub returns-in_default-clause-refused : goal.returns-in_default-clause-refused
returns-in_default-clause-refused c = no-mask-checked _ _ _ _ c.in_default.is

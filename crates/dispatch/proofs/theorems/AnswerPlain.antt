-- The answers of `offer` have the plain reading of `proofs/statements/AnswerPlain.antt`.
use mathlib.Core.Path.{refl}
use Rattle.dispatch.proofs.statements.AnswerPlain.{OfferPlain}

pub offer-plain : OfferPlain
offer-plain = record { passes = λ o. refl; fails = λ e. refl; gives = λ o. refl; refuses = λ e. refl }

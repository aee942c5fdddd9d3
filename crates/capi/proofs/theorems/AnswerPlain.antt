-- The statements of `proofs/statements/AnswerPlain.antt`, each by computation.
use mathlib.Core.Path.{refl}
use Rattle.capi.specs.Answers.{as_builder, as_flag, as_mask, as_next, as_nth, as_number, as_offer, as_part, as_position, as_same_mask}
use Rattle.capi.specs.Answers.{as_spans, as_split, as_validity, as_zeros}
use Rattle.capi.specs.Window.{as_window}
use Rattle.capi.proofs.statements.AnswerPlain.{AnswerPlain, BuilderPlain, FlagPlain, MaskPlain, NextPlain, NthPlain, NumberPlain}
use Rattle.capi.proofs.statements.AnswerPlain.{OfferPlain, PartPlain, PositionPlain, SameMaskPlain, SpansPlain, SplitPlain}
use Rattle.capi.proofs.statements.AnswerPlain.{ValidityPlain, WindowPlain, ZerosPlain}

number : (S : Type 0) → NumberPlain S
unfolding as_number
number S =
    record {
      given-refusal = λ n. refl;
      given-value = λ n. refl;
      refused-refusal = λ k s. refl;
      refused-value = λ k s. refl;
    }

flag : (S : Type 0) → FlagPlain S
unfolding as_flag
flag S =
    record {
      given-refusal = λ x. refl;
      given-value = λ x. refl;
      refused-refusal = λ k s. refl;
      refused-value = λ k s. refl;
    }

position : (S : Type 0) → PositionPlain S
unfolding as_position
position S =
    record {
      some-refusal = λ p. refl;
      some-found = λ p. refl;
      some-value = λ p. refl;
      none-refusal = refl;
      none-found = refl;
      none-value = refl;
      refused-refusal = λ k s. refl;
      refused-found = λ k s. refl;
      refused-value = λ k s. refl;
    }

nth : NthPlain
unfolding as_nth
nth =
    record {
      given-refusal = λ p. refl;
      given-found = λ p. refl;
      given-value = λ p. refl;
      given-ones = λ p. refl;
      none-refusal = λ n. refl;
      none-found = λ n. refl;
      none-value = λ n. refl;
      none-ones = λ n. refl;
    }

next : (S : Type 0) → NextPlain S
unfolding as_next
next S =
    record {
      some-refusal = λ p n. refl;
      some-found = λ p n. refl;
      some-position = λ p n. refl;
      some-windows = λ p n. refl;
      none-refusal = λ n. refl;
      none-found = λ n. refl;
      none-position = λ n. refl;
      none-windows = λ n. refl;
      refused-refusal = λ k s. refl;
      refused-found = λ k s. refl;
      refused-position = λ k s. refl;
      refused-windows = λ k s. refl;
    }

offer : OfferPlain
unfolding as_offer
offer =
    record {
      some-refusal = λ t c n. refl;
      some-found = λ t c n. refl;
      some-truck = λ t c n. refl;
      some-cursor = λ t c n. refl;
      some-windows = λ t c n. refl;
      none-refusal = λ c n. refl;
      none-found = λ c n. refl;
      none-truck = λ c n. refl;
      none-cursor = λ c n. refl;
      none-windows = λ c n. refl;
      refused-refusal = λ k c. refl;
      refused-found = λ k c. refl;
      refused-truck = λ k c. refl;
      refused-cursor = λ k c. refl;
      refused-windows = λ k c. refl;
    }

mask : (S : Type 0) → MaskPlain S
unfolding as_mask
mask S =
    record {
      given-refusal = λ m. refl;
      given-mask = λ m. refl;
      refused-refusal = λ k s. refl;
      refused-mask = λ k s. refl;
    }

same_mask : (S : Type 0) → SameMaskPlain S
unfolding as_same_mask
same_mask S =
    record {
      given-refusal = λ came m. refl;
      given-mask = λ came m. refl;
      refused-refusal = λ came k s. refl;
      refused-mask = λ came k s. refl;
    }

validity : (S : Type 0) → ValidityPlain S
unfolding as_validity
validity S =
    record {
      some-refusal = λ m. refl;
      some-present = λ m. refl;
      some-mask = λ m. refl;
      none-refusal = refl;
      none-present = refl;
      none-mask = refl;
      refused-refusal = λ k s. refl;
      refused-present = λ k s. refl;
      refused-mask = λ k s. refl;
    }

zeros : (S : Type 0) → ZerosPlain S
unfolding as_zeros
zeros S =
    record {
      given-refusal = λ came r. refl;
      given-zeros = λ came r. refl;
      given-mask = λ came r. refl;
      refused-refusal = λ came k s. refl;
      refused-zeros = λ came k s. refl;
      refused-mask = λ came k s. refl;
    }

part : (S : Type 0) → PartPlain S
unfolding as_part
part S =
    record {
      given-refusal = λ p. refl;
      given-second = λ p. refl;
      given-from = λ p. refl;
      given-to = λ p. refl;
      given-mask = λ p. refl;
      refused-refusal = λ k s. refl;
      refused-second = λ k s. refl;
      refused-from = λ k s. refl;
      refused-to = λ k s. refl;
      refused-mask = λ k s. refl;
    }

builder : BuilderPlain
unfolding as_builder
builder =
    record {
      given-refusal = λ b. refl;
      given-builder = λ b. refl;
      refused-refusal = λ k b. refl;
      refused-builder = λ k b. refl;
    }

split : (S : Type 0) → SplitPlain S
unfolding as_split
split S =
    record {
      given-refusal = λ a. refl;
      given-prefix = λ a. refl;
      given-prefix_len = λ a. refl;
      given-bulk_start = λ a. refl;
      given-bulk_len = λ a. refl;
      given-suffix = λ a. refl;
      given-suffix_len = λ a. refl;
      refused-refusal = λ k s. refl;
      refused-prefix = λ k s. refl;
      refused-prefix_len = λ k s. refl;
      refused-bulk_start = λ k s. refl;
      refused-bulk_len = λ k s. refl;
      refused-suffix = λ k s. refl;
      refused-suffix_len = λ k s. refl;
    }

spans : (S : Type 0) → SpansPlain S
unfolding as_spans
spans S =
    record {
      given-refusal = λ a b. refl;
      given-first_start = λ a b. refl;
      given-first_length = λ a b. refl;
      given-second_start = λ a b. refl;
      given-second_length = λ a b. refl;
      refused-refusal = λ k s. refl;
      refused-first_start = λ k s. refl;
      refused-first_length = λ k s. refl;
      refused-second_start = λ k s. refl;
      refused-second_length = λ k s. refl;
    }

window : WindowPlain
unfolding as_window
window = record { refusal = λ a. refl; place = λ a. refl; fill = λ a. refl; width = λ a. refl }

pub answer-plain : AnswerPlain
answer-plain =
    record {
      number = number;
      flag = flag;
      position = position;
      nth = nth;
      next = next;
      offer = offer;
      mask = mask;
      same_mask = same_mask;
      validity = validity;
      zeros = zeros;
      part = part;
      builder = builder;
      split = split;
      spans = spans;
      window = window;
    }

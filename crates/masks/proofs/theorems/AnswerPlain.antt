-- The statements of `proofs/statements/AnswerPlain.antt`: what each answer means.
use mathlib.Core.Path.{refl}
use Rattle.masks.specs.equations.Answer.{decided}
use Rattle.masks.proofs.statements.AnswerPlain.{AnswersPlain}

pub answers-plain : AnswersPlain
unfolding decided
answers-plain =
    record {
      gives = λ a. refl;
      refuses = λ r. refl;
      gives_back = λ a. refl;
      refuses_back = λ r s. refl;
      steps = λ a c. refl;
      ends = λ c. refl;
      refuses_step = λ r c. refl;
      changed = λ b. refl;
      passes = λ a. refl;
      fails = λ A r. refl;
      passes_back = λ S a. refl;
      fails_back = λ A r s. refl;
      numbers =
          record {
            above_limit = refl;
            outside_bytes = refl;
            false_count = refl;
            impossible_builder = refl;
            unequal_lengths = refl;
            outside_mask = refl;
            count_not_of_slice = refl;
            address_remainder = refl;
            output_too_small = refl;
            not_a_grid = refl;
            broken_run_ends = refl;
            serial_conflict = refl;
          };
    }

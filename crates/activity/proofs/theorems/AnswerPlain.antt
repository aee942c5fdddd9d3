-- The statements of `proofs/statements/AnswerPlain.antt`: what each answer means.
use mathlib.Core.Path.{refl}
use Rattle.activity.proofs.statements.AnswerPlain.{AnswersPlain}

pub answers-plain : AnswersPlain
answers-plain =
    record {
      gives = λ a. refl;
      accepts = λ a. refl;
      gives_back = λ r a. refl;
      refuses = λ r a. refl;
      passes = λ a. refl;
      fails = λ A r. refl;
      impossible_window = refl;
    }

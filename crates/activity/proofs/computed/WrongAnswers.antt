-- The wrong answers of `proofs/tables/WrongAnswers.antt` are ruled out, by computation.
use Rattle.std.proofs.Common.{ℕ, refl, List, ◌∷◌, ◌++◌, take}
use Rattle.words.proofs.computed.WrongAnswers.{same_code, tried}
use Rattle.words.specs.Flags.{bits, count}
use Rattle.words.specs.Columns.{column, columns_from, column_counts}
use Rattle.activity.specs.Checks.{width_fits, place_fits, inside_fits, numbers_fit, all_zero, same_numbers, words_fit, left_by_minutes}
use Rattle.activity.specs.Window.{Answer, zeros, no_minute, minute_on, new_of, push_of, counts_of}
use Rattle.activity.proofs.tables.WrongAnswers.{WrongAnswers}
use Rattle.activity.specs.declared.window.ActivityWindow.{ActivityWindow}

-- the numbers of a record, its counts and its first words
abbrev window_code : Answer ActivityWindow → List ℕ
window_code a =
    a.refusal ∷ a.value.place ∷ a.value.fill ∷ a.value.width ∷ (take 4 a.value.counts ++ take 4 a.value.words)

abbrev counts_code : Answer (List ℕ) → List ℕ
counts_code a = a.refusal ∷ a.value

pub ruled_out : WrongAnswers
unfolding
    same_code bits count column columns_from column_counts
    width_fits place_fits inside_fits numbers_fit all_zero same_numbers words_fit left_by_minutes zeros no_minute minute_on new_of push_of
    counts_of
ruled_out =
    record {
      new = tried window_code refl refl refl;
      new-above = tried window_code refl refl refl;
      push_minute = tried window_code refl refl refl;
      push-second = tried window_code refl refl refl;
      counts = tried counts_code refl refl refl;
      counts-false = tried counts_code refl refl refl;
    }

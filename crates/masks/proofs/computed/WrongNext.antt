-- The wrong answers of `proofs/tables/WrongNext.antt` are ruled out, by computation.
--
-- The definitions that a crate above needs for a table of its own are passed on, because that crate may not use words.
use mathlib.Core.Path.{refl}
use Rattle.words.proofs.computed.WrongAnswers.{same_code, tried}
use Rattle.words.specs.Flags.{bits, flags_of, window}
unfoldable pub use Rattle.words.specs.Flags.{count}
unfoldable pub use Rattle.words.specs.Nth.{nth_place}
unfoldable pub use Rattle.words.specs.Ops.{zip3}
use Rattle.masks.specs.declared.next_and_not.NextFlag.{NextFlag}
use Rattle.masks.specs.equations.Answer.{decided}
use Rattle.masks.specs.Checks.{earlier, first_failed, rank, place_in, span_checks}
use Rattle.masks.specs.Combine.{pair_flags, shortcut}
use Rattle.masks.specs.Mask.{mask_checks, zero_count}
use Rattle.masks.specs.NextAndNot.{free_flags, going_round, next_checks, next_set, other_checks}
use Rattle.masks.specs.equations.NextAndNot.{next_and_not_of}
use Rattle.masks.specs.Search.{nth_from}
use Rattle.masks.specs.Utils.{zeros}
use Rattle.masks.proofs.tables.WrongNext.{WrongNext}
use Rattle.masks.proofs.computed.WrongAnswers.{both, Code, number, option, plain}

abbrev found_code : Code NextFlag
found_code f = both (option number) number (f.position, f.windows)

pub next-ruled-out : WrongNext
unfolding
    same_code bits flags_of count window nth_place zip3
    first_failed earlier rank place_in span_checks mask_checks decided zero_count zeros pair_flags shortcut
    nth_from free_flags going_round next_set other_checks next_checks next_and_not_of
next-ruled-out =
    record {
      ahead = tried (plain found_code) refl refl refl;
      round = tried (plain found_code) refl refl refl;
      nothing = tried (plain found_code) refl refl refl;
      alone = tried (plain found_code) refl refl refl;
      at_length = tried (plain found_code) refl refl refl;
      outside = tried (plain found_code) refl refl refl;
    }

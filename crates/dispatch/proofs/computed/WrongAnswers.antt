-- The wrong answers of `proofs/tables/WrongAnswers.antt` are ruled out, by computation.
use mathlib.Core.Path.{refl}
use Rattle.masks.proofs.computed.WrongAnswers.{same_code, tried, plain, flag, bits, count, flags_of, window}
use Rattle.masks.specs.equations.Answer.{decided}
use Rattle.masks.specs.AtIndex.{and_not_at_checks, and_not_flag, flag_or, index_checks, length_checks}
use Rattle.masks.specs.Checks.{earlier, first_failed, rank, place_in, span_checks}
use Rattle.masks.specs.Mask.{mask_checks}
use Rattle.masks.specs.Utils.{zeros}
use Rattle.dispatch.specs.Reassign.{reassignable}
use Rattle.dispatch.specs.equations.Reassign.{may_reassign}
use Rattle.dispatch.proofs.tables.WrongAnswers.{WrongAnswers}

pub ruled_out : WrongAnswers
unfolding
    same_code bits count flags_of window zeros
    first_failed earlier rank place_in span_checks mask_checks and_not_at_checks index_checks length_checks decided may_reassign
    reassignable and_not_flag flag_or
ruled_out =
    record {
      with-both = tried (plain flag) refl refl refl;
      with-revocation = tried (plain flag) refl refl refl;
      with_none = tried (plain flag) refl refl refl;
      with-permission = tried (plain flag) refl refl refl;
      behind_the_end = tried (plain flag) refl refl refl;
      stale_count = tried (plain flag) refl refl refl;
    }

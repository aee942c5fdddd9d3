-- The wrong answers of `tables/WrongRunEnds.antt` are ruled out, by computation.
use mathlib.Core.Path.{refl}
use Rattle.words.specs.Ops.{zip3}
use Rattle.words.specs.Flags.{bits, copies, count, flags_of, over, window, word_of}
use Rattle.words.specs.Counts.{same_flags}
use Rattle.run_ends.specs.equations.Write.{to_run_ends_bytes, to_run_ends_ends, to_run_ends_of}
use Rattle.run_ends.specs.Write.{ends_from, run_flags, write_checks}
use Rattle.run_ends.specs.equations.Read.{from_run_ends_bytes, from_run_ends_of}
use Rattle.run_ends.specs.Rules.{ends_hold, rising_to}
use Rattle.run_ends.specs.Read.{flags_from, read_checks}
use Rattle.masks.specs.equations.Mask.{new_zeroed_bytes, new_zeroed_of, slice_of, try_new_of, unset_bits_of}
use Rattle.masks.specs.equations.Compare.{common_of, edges_of, eq_of}
use Rattle.masks.specs.equations.Combine.{each_bytes, each_of, pair_bytes, pair_of}
use Rattle.masks.specs.equations.AtIndex.{and_not_at_of}
use Rattle.masks.specs.equations.Answer.{decided, kept}
use Rattle.masks.specs.Utils.{zeros}
use Rattle.masks.specs.Mask.{cut_zeros, kept_count, mask_checks, piece_checks, recounts, slice_checks, zero_count, zeroed_checks}
use Rattle.masks.specs.Frozen.{frozen, packed}
use Rattle.masks.specs.Compare.{common_checks, edges}
use Rattle.masks.specs.Combine.{largest_serial, not_checks, pair_checks, pair_flags, pair_mask, select_checks, shortcut}
use Rattle.masks.specs.Checks.{earlier, first_failed, output_checks, place_in, rank, span_checks}
use Rattle.masks.specs.AtIndex.{and_not_at_checks, and_not_flag, flag_or, index_checks, length_checks}
use Rattle.masks.proofs.computed.WrongAnswers.{mask_code, plain, same_code, tried, writing}
use Rattle.run_ends.proofs.tables.WrongRunEnds.{WrongRunEnds}

pub ruled_out : WrongRunEnds
unfolding same_code and_not_at_checks and_not_flag flag_or index_checks length_checks earlier first_failed output_checks place_in rank
    span_checks largest_serial not_checks pair_checks pair_flags pair_mask select_checks shortcut common_checks edges frozen packed
    cut_zeros kept_count mask_checks piece_checks recounts slice_checks zero_count zeroed_checks zeros decided kept and_not_at_of each_bytes
    each_of pair_bytes pair_of common_of edges_of eq_of new_zeroed_bytes new_zeroed_of slice_of try_new_of unset_bits_of flags_from
    read_checks ends_hold rising_to from_run_ends_bytes from_run_ends_of same_flags bits copies count flags_of over window word_of zip3
    ends_from run_flags write_checks to_run_ends_bytes to_run_ends_ends to_run_ends_of
ruled_out =
    record {
      read = tried (writing (plain mask_code)) refl refl refl;
      read-record = tried (writing (plain mask_code)) refl refl refl;
      read-past = tried (writing (plain mask_code)) refl refl refl;
      read-none = tried (writing (plain mask_code)) refl refl refl;
      read-refused = tried (writing (plain mask_code)) refl refl refl;
      write-ends = tried (writing (plain mask_code)) refl refl refl;
      write-fewest = tried (writing (plain mask_code)) refl refl refl;
      write-values = tried (writing (plain mask_code)) refl refl refl;
      write-record = tried (writing (plain mask_code)) refl refl refl;
      write-short = tried (writing (plain mask_code)) refl refl refl;
      write-small = tried (writing (plain mask_code)) refl refl refl;
    }

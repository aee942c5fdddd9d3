-- The rows of `proofs/tables/Texts.antt`, by computation.
use mathlib.Core.Path.{refl}
use Rattle.std.specs.Fmt.{digits}
use Rattle.masks.proofs.tables.Texts.{Texts}

pub texts : Texts
unfolding digits
texts =
    record {
      above_limit = refl;
      outside_bytes = refl;
      broken_run_ends = refl;
      false_count = refl;
      serial_conflict = refl;
      impossible_builder = refl;
      unequal_lengths = refl;
      not_a_grid = refl;
      outside_mask = refl;
      count_not_of_slice = refl;
      address_remainder = refl;
      output_too_small = refl;
    }

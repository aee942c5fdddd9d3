-- The calls of `Aligned` as one equation each: their answers by their checks.
use Rattle.std.specs.Prelude.{ℕ, List, length}
use Rattle.masks.specs.equations.Answer.{Answer, given, checked, unless_empty}
use Rattle.masks.specs.declared.aligned.AlignedBitmapSlice.{AlignedBitmapSlice}
use Rattle.masks.specs.Aligned.{aligned_split, aligned_checks}

-- the split of no flags: all 0
abbrev pub empty_split : AlignedBitmapSlice
empty_split = record { prefix = 0; prefix_len = 0; bulk_start = 0; bulk_len = 0; suffix = 0; suffix_len = 0 }

unfoldable pub aligned_of : List ℕ → ℕ → ℕ → ℕ → Answer (Unit {0}) AlignedBitmapSlice
aligned_of bytes start n address =
    unless_empty n (given empty_split) (checked (aligned_checks start n (length bytes) address) tt (aligned_split bytes start n address))

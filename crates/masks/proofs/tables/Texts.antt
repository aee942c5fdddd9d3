-- The text that each refusal prints: written from include/refusals.txt.
use Rattle.std.specs.Prelude.{◌≡◌, codes}
use Rattle.masks.specs.Refusal.{said}
use Rattle.masks.specs.declared.refusal.Refusal.TheVariants.{AboveLimit, OutsideBytes, BrokenRunEnds, FalseCount, SerialConflict}
use Rattle.masks.specs.declared.refusal.Refusal.TheVariants.{ImpossibleBuilder, UnequalLengths, NotAGrid, OutsideMask, CountNotOfSlice}
use Rattle.masks.specs.declared.refusal.Refusal.TheVariants.{AddressRemainder, OutputTooSmall}

pub record Texts : Type 0 where
  pub above_limit : said AboveLimit ≡ codes "refused with 1: a start or a length is above 4,194,304"
  pub outside_bytes : said OutsideBytes ≡ codes "refused with 2: start + length is above 8 * the bytes lent"
  pub broken_run_ends : said BrokenRunEnds
      ≡ codes "refused with 13: the run ends do not rise from above 0 to the length or above it, or are not as many as their values"
  pub false_count : said FalseCount ≡ codes "refused with 3: a known zero count is not the number of zeros"
  pub serial_conflict : said SerialConflict ≡ codes "refused with 14: the masks have equal serials and different flags"
  pub impossible_builder : said ImpossibleBuilder
      ≡ codes "refused with 4: the builder is not possible: its word, ones or buffer do not fit its length"
  pub unequal_lengths : said UnequalLengths
      ≡ codes "refused with 5: the masks combined, or a mask and the length stated for it, are not equal in length"
  pub not_a_grid : said NotAGrid ≡ codes "refused with 12: rows * columns is not the length of the mask"
  pub outside_mask : said OutsideMask ≡ codes "refused with 6: the inner piece does not lie in its mask"
  pub count_not_of_slice : said CountNotOfSlice
      ≡ codes "refused with 7: the known count is below the zeros cut off, or the rest above the new length"
  pub address_remainder : said AddressRemainder ≡ codes "refused with 8: the address remainder is above 7"
  pub output_too_small : said OutputTooSmall
      ≡ codes "refused with 9: the output does not hold 8 * ceil(new length / 64) bytes, or all counts or ends"

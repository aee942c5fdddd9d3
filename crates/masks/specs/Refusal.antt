-- The number and the text of each refusal, as in the reference: written from include/refusals.txt.
use Rattle.std.specs.Prelude.{ℕ, List, ◌++◌, Result, Ok, Err, codes, decimal}
use Rattle.masks.specs.declared.refusal.Refusal.{Refusal}
use Rattle.masks.specs.declared.refusal.Refused.{Refused}
use Rattle.masks.specs.declared.refusal.Refusal.TheVariants.{AboveLimit, OutsideBytes, BrokenRunEnds, FalseCount, SerialConflict}
use Rattle.masks.specs.declared.refusal.Refusal.TheVariants.{ImpossibleBuilder, UnequalLengths, NotAGrid, OutsideMask, CountNotOfSlice}
use Rattle.masks.specs.declared.refusal.Refusal.TheVariants.{AddressRemainder, OutputTooSmall}

abbrev pub number : Refusal → ℕ
number AboveLimit = 1
number OutsideBytes = 2
number BrokenRunEnds = 13
number FalseCount = 3
number SerialConflict = 14
number ImpossibleBuilder = 4
number UnequalLengths = 5
number NotAGrid = 12
number OutsideMask = 6
number CountNotOfSlice = 7
number AddressRemainder = 8
number OutputTooSmall = 9

-- the number with which a call refuses, 0 if it does not
abbrev pub failure_of : {A : Type 0} → Result A Refusal → ℕ
failure_of (Ok a) = 0
failure_of (Err r) = number r

-- the same of a call that returns the record passed to it when it refuses
abbrev pub failure_back : {S A : Type 0} → Result A (Refused S) → ℕ
failure_back (Ok a) = 0
failure_back (Err e) = number e.refusal

-- the words for a failed check
abbrev pub reason : Refusal → List ℕ
reason AboveLimit = codes "a start or a length is above 4,194,304"
reason OutsideBytes = codes "start + length is above 8 * the bytes lent"
reason BrokenRunEnds = codes "the run ends do not rise from above 0 to the length or above it, or are not as many as their values"
reason FalseCount = codes "a known zero count is not the number of zeros"
reason SerialConflict = codes "the masks have equal serials and different flags"
reason ImpossibleBuilder = codes "the builder is not possible: its word, ones or buffer do not fit its length"
reason UnequalLengths = codes "the masks combined, or a mask and the length stated for it, are not equal in length"
reason NotAGrid = codes "rows * columns is not the length of the mask"
reason OutsideMask = codes "the inner piece does not lie in its mask"
reason CountNotOfSlice = codes "the known count is below the zeros cut off, or the rest above the new length"
reason AddressRemainder = codes "the address remainder is above 7"
reason OutputTooSmall = codes "the output does not hold 8 * ceil(new length / 64) bytes, or all counts or ends"

-- the text of a refusal
abbrev pub said : Refusal → List ℕ
said r = codes "refused with " ++ (decimal (number r) ++ (codes ": " ++ reason r))

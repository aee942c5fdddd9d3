-- Freezing: the mask of a builder's flags, and their frozen bytes.
use Rattle.std.specs.Prelude.{ℕ, ◌+◌, ◌-◌, cond, List, eqb, Option, Some, None}
use Rattle.words.specs.Flags.{count, over, word_flags}
use Rattle.masks.specs.Builder.{filling, builder_flags, builder_checks}
use Rattle.masks.specs.Checks.{Check}
use Rattle.masks.specs.Frozen.{frozen}
use Rattle.masks.specs.Mask.{mask_under}
use Rattle.masks.specs.declared.bitmap.Bitmap.{Bitmap}
use Rattle.masks.specs.declared.builder.BitmapBuilder.{BitmapBuilder}

-- the ones of a builder: those of the finished words, and those in the word in progress
abbrev pub total_ones : BitmapBuilder → ℕ
total_ones b = b.ones + count (word_flags b.word)

abbrev pub frozen_mask : BitmapBuilder → Bitmap
frozen_mask b = mask_under b.serial 0 b.length (Some (b.length - total_ones b))

-- the mask of a builder; none exactly when the ones equal the length
abbrev pub validity_of : BitmapBuilder → Option Bitmap
validity_of b = cond (eqb (total_ones b) b.length) None (Some (frozen_mask b))

-- checks 1, 4 and 9 of a builder over a buffer of `size` bytes
abbrev pub freeze_checks : BitmapBuilder → ℕ → List Check
freeze_checks b size = builder_checks b b.length size

-- a builder's buffer with the frozen bytes of its flags at the start
unfoldable pub frozen_over : BitmapBuilder → List ℕ → List ℕ
frozen_over b bytes = over bytes (frozen (builder_flags (filling b bytes)))

-- The bytes that have a report, in plain words.
use Rattle.std.specs.Prelude.{ℕ, ◌≡◌, ◌≤◌, ◌<◌, List, length, Some, None}
use Rattle.words.specs.Flags.{flags_of}
use Rattle.report.specs.Numbers.{numbers_of, report_of}

pub record ReportPlain : Type 0 where
  -- 65,536 bytes have a report, and 65,537 are too many
  pub longest : (bytes : List ℕ) → length bytes ≡ 65536 → report_of bytes ≡ Some (numbers_of (flags_of bytes))
  pub too_long : (bytes : List ℕ) → length bytes ≡ 65537 → report_of bytes ≡ None
  -- the two answers: the numbers of up to 65,536 bytes, and none for more
  pub reported : (bytes : List ℕ) → length bytes ≤ 65536 → report_of bytes ≡ Some (numbers_of (flags_of bytes))
  pub refused : (bytes : List ℕ) → 65536 < length bytes → report_of bytes ≡ None

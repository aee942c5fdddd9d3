-- The bytes that have a report are those of `proofs/statements/ReportPlain.antt`.
use Rattle.std.specs.Prelude.{Some, None}
use mathlib.Core.Path.{sym}
use native.Mathlib.Omega.{arith}
use lib.ListN.{length}
use Rattle.words.specs.Flags.{flags_of}
use Rattle.masks.proofs.checks.CheckLaws.{when-gt, when-le}
use Rattle.report.specs.Numbers.{most, numbers_of, report_of}
use Rattle.report.proofs.statements.ReportPlain.{ReportPlain}

pub report_plain : ReportPlain
unfolding report_of
report_plain =
    record {
      longest = λ bytes e. sym (when-le (length bytes) most (Some (numbers_of (flags_of bytes))) None (omega (arith, e)));
      too_long = λ bytes e. sym (when-gt (length bytes) most (Some (numbers_of (flags_of bytes))) None (omega (arith, e)));
      reported = λ bytes h. sym (when-le (length bytes) most (Some (numbers_of (flags_of bytes))) None h);
      refused = λ bytes h. sym (when-gt (length bytes) most (Some (numbers_of (flags_of bytes))) None h);
    }

-- The rows of run_ends are lawful: `from_run_ends` and `to_run_ends`.
use mathlib.Core.Path.{◌≡◌, refl, sym}
use mathlib.Core.List.{List, ◌∷◌, ◌++◌}
use Prim.Native.Nat.{ℕ}
use native.Mathlib.Omega.{arith}
use lib.Dec.{leb}
use lib.ListN.{length}
use Rattle.std.specs.Prelude.{ℤ}
use Rattle.words.specs.Flags.{flags_of}
use Rattle.words.proofs.flags.Windows.{length-window}
use Rattle.masks.specs.Checks.{Check, check, first_failed, output_checks, within_limit}
use Rattle.masks.specs.Mask.{mask_checks, uncounted}
use Rattle.masks.specs.declared.bitmap.Bitmap.{Bitmap}
use Rattle.masks.specs.equations.Answer.{checked, given}
use Rattle.masks.proofs.bitmap.MaskLaws.{mask-truthful}
use Rattle.masks.proofs.checks.CheckLaws.{both_left}
use Rattle.masks.proofs.refusal.AnswerLaws.{given-number}
use Rattle.masks.proofs.theorems.SliceTruth.{none_true}
use Rattle.run_ends.specs.Read.{flags_read, read_checks}
use Rattle.run_ends.specs.Rules.{runs_hold}
use Rattle.run_ends.specs.Write.{run_count, run_flags, write_checks}
use Rattle.run_ends.specs.equations.Read.{from_run_ends_bytes, from_run_ends_of}
use Rattle.run_ends.specs.equations.Write.{to_run_ends_bytes, to_run_ends_of}
use Rattle.run_ends.proofs.read.CheckLaws.{read-allowed}
use Rattle.run_ends.proofs.read.FlagLaws.{length-from}
use Rattle.run_ends.proofs.write.CheckLaws.{write-allowed}
use Rattle.run_ends.proofs.write.RunFlags.{few-runs}
use Rattle.histories.specs.ReferenceList.{read_runs, run_values}
use Rattle.histories.specs.Rows.{Every, Lent, one}
use Rattle.histories.specs.RunEndRows.{RunEndCall, from_run_ends, from_run_ends_row, run_end_call, to_run_ends, to_run_ends_row}
use Rattle.histories.proofs.rows.RowLaws.{Writable, written_stands}
use Rattle.histories.proofs.run_end_rows.RunEndWordLaws.{read-word, values-word}
use Rattle.histories.proofs.statements.Owed.{Honest, Lawful, LawfulWrites, lent_flags}

passed : (cs : List Check) (m g : Bitmap) → checked cs (tt {0}) m ≡ given g → first_failed cs ≡ 0
passed cs m g e = sym (given-number (first_failed cs) tt g m (sym e))

-- a mask whose checks pass, with others after them, has an unknown or a true count
honest : (x : Lent) (rest : List Check) → first_failed (mask_checks x.mask x.bytes ++ rest) ≡ 0 → Every Honest 1 (one x)
honest x rest e = (mask-truthful x.mask x.bytes (both_left (mask_checks x.mask x.bytes) rest e), tt)

-- ---- reading

read_writable : (ends : List ℤ) (n : ℕ) (x : Lent) (out : List ℕ)
    → first_failed (read_checks ends x.mask x.bytes n (length out)) ≡ 0
    → Writable n (uncounted n) (flags_read ends (lent_flags x) n) (read_runs ends n (lent_flags x)) out
read_writable ends n x out e =
    let ok = (read-allowed ends x.mask x.bytes n (length out) e).readable in
    let long = length-from ends (lent_flags x) 0 n in
    record {
      long = long;
      short = ok.short;
      room = ok.room;
      same = read-word ends (lent_flags x) 0 n;
      counts = none_true n (flags_read ends (lent_flags x) n) long;
    }

pub read_lawful : (ends : List ℤ) (n : ℕ) (out : List ℕ) → LawfulWrites (from_run_ends_row ends n out)
unfolding from_run_ends_of from_run_ends_bytes read_checks
read_lawful ends n out =
    record {
      honest = λ a g e.
          honest a.0 (within_limit n ∷ check 13 (runs_hold n ends a.0.mask.length) ∷ output_checks n (length out)) (passed _ _ g e);
      made = λ a g e. written_stands _ _ _ _ _ _ out g e (read_writable ends n a.0 out);
    }

-- ---- writing

write_writable : (places : ℕ) (x : Lent) (out : List ℕ) → first_failed (write_checks x.mask x.bytes places (length out)) ≡ 0
    → Writable (run_count x.mask x.bytes) (uncounted (run_count x.mask x.bytes)) (run_flags (lent_flags x)) (run_values (lent_flags x)) out
write_writable places x out e =
    let ok = write-allowed x.mask x.bytes places (length out) e in
    let size = length-window (flags_of x.bytes) x.mask.start x.mask.length in
    record {
      long = refl;
      short = omega (arith, few-runs (lent_flags x), size, ok.short);
      room = ok.room;
      same = values-word (lent_flags x);
      counts = none_true (run_count x.mask x.bytes) (run_flags (lent_flags x)) refl;
    }

pub write_lawful : (places : ℕ) (out : List ℕ) → LawfulWrites (to_run_ends_row places out)
unfolding to_run_ends_of to_run_ends_bytes write_checks
write_lawful places out =
    record {
      honest = λ a g e.
          let runs : ℕ = run_count a.0.mask a.0.bytes in
          honest a.0 (check 9 (leb runs places) ∷ output_checks runs (length out)) (passed _ _ g e);
      made = λ a g e. written_stands _ _ _ _ _ _ out g e (write_writable places a.0 out);
    }

-- ---- the table

pub run_ends_lawful : (c : RunEndCall) → Lawful (run_end_call c)
run_ends_lawful (from_run_ends ends n out a) = read_lawful ends n out
run_ends_lawful (to_run_ends places out a) = write_lawful places out

-- If each row of the table is lawful (`Owed`), the mask in which a history ends is that of its reference list, whatever calls made it:
-- its length, its flags, its known count.
use mathlib.Core.Path.{◌≡◌, refl, sym}
use mathlib.Core.Bool.{Bool, cond}
use mathlib.Core.List.{List, [], ◌∷◌}
use Prim.Native.Nat.{ℕ, zero, suc}
use native.Mathlib.Omega.{arith}
use lib.Dec.{eqb}
use lib.ListN.{length}
use Rattle.words.specs.Counts.{any_set}
use Rattle.words.specs.Flags.{bits, count, flags_of, window}
use Rattle.words.specs.Loops.{stretch}
use Rattle.words.proofs.flags.Windows.{length-window}
use Rattle.masks.specs.equations.Answer.{decided}
use Rattle.masks.specs.equations.Appends.{append_checks}
use Rattle.masks.specs.Builder.{filling, builder_flags, in_progress, builder_under}
use Rattle.masks.specs.Checks.{first_failed, span_checks}
use Rattle.masks.specs.Freeze.{total_ones, freeze_checks}
use Rattle.masks.specs.Mask.{mask_checks, mask_of, uncounted}
use Rattle.masks.specs.equations.Mask.{try_new_of}
use Rattle.masks.specs.declared.bitmap.Bitmap.{Bitmap}
use Rattle.masks.proofs.checks.CheckLaws.{span-allowed}
use Rattle.masks.proofs.bitmap.MaskLaws.{mask-sound}
use Rattle.masks.proofs.theorems.SliceTruth.{none_true}
use Rattle.histories.proofs.statements.History.{Call, try_new, append, freeze, into_opt_validity, make}
use Rattle.histories.proofs.statements.History.{Start, first_list, from_builder, from_span, from_mask, start_of}
use Rattle.histories.proofs.statements.History.{State, waiting, building, masked, no_mask, after_try, fed, list_step, reference, run, step}
use Rattle.histories.proofs.statements.History.{trace}
use Rattle.histories.proofs.statements.Owed.{Lawful}
use Rattle.histories.specs.ReferenceList.{flags_in, span_flags}
use Rattle.histories.specs.Rows.{RowCall}
use Rattle.histories.proofs.history.HistoryLaws.{Holds, append-holds, freeze-holds, validity-holds}
use Rattle.histories.proofs.history.ReferenceLaws.{mask-flags, span-flags}
use Rattle.histories.proofs.rows.RowLaws.{row-holds}

-- ---- one call

-- after a `try_new` call, accepted or refused, the invariant holds
span-holds : (bytes : List ℕ) (start n k : ℕ) (l : List Bool) → k ≡ first_failed (span_checks start n (length bytes))
    → let o = after_try bytes (decided k tt (mask_of start n (uncounted n))) in
    Holds o.state (cond o.accepted (span_flags bytes start n) l)
unfolding decided
span-holds bytes start n zero l e =
    let a = span-allowed start n (length bytes) (sym e) in
    record {
      sound = record {
        starts = a.starts;
        short = a.short;
        inside = a.inside;
        counts = none_true n (stretch bytes start n) (length-window (flags_of bytes) start n);
      };
      flags = sym (span-flags bytes start n);
    }
span-holds bytes start n (suc k) l e = tt

module _ {Code : Type 0} (call_of : Code → RowCall) (lawful : (c : Code) → Lawful (call_of c)) where
  pub step-holds : (s : State) (c : Call Code) (l : List Bool) → Holds s l
      → Holds (step call_of s c).state (list_step call_of l (fed c (step call_of s c).accepted))
  unfolding try_new_of
  step-holds waiting (try_new bytes start n) l i = span-holds bytes start n (first_failed (span_checks start n (length bytes))) l refl
  step-holds waiting (append a) l i = tt
  step-holds waiting freeze l i = tt
  step-holds waiting into_opt_validity l i = tt
  step-holds waiting (make c) l i = tt
  step-holds (building f) (try_new bytes start n) l i = i
  step-holds (building f) (append a) l i = append-holds a f l (first_failed (append_checks a f.builder f.bytes)) refl i
  step-holds (building f) freeze l i = freeze-holds f l (first_failed (freeze_checks f.builder (length f.bytes))) i
  step-holds (building f) into_opt_validity l i =
      validity-holds f l (first_failed (freeze_checks f.builder (length f.bytes))) (eqb (total_ones f.builder) f.builder.length) i
  step-holds (building f) (make c) l i = i
  step-holds (masked m bytes) (try_new its start n) l i = i
  step-holds (masked m bytes) (append a) l i = i
  step-holds (masked m bytes) freeze l i = i
  step-holds (masked m bytes) into_opt_validity l i = i
  step-holds (masked m bytes) (make c) l i = row-holds m bytes l i (call_of c) (lawful c)
  step-holds no_mask c l i = tt

  -- ---- all calls

  pub run_holds : (cs : List (Call Code)) (s : State) (l : List Bool) → Holds s l
      → Holds (run call_of s cs) (reference call_of l (trace call_of s cs))
  run_holds [] s l i = i
  run_holds (c ∷ cs) s l i =
      run_holds cs (step call_of s c).state (list_step call_of l (fed c (step call_of s c).accepted)) (step-holds s c l i)

-- ---- the starts

-- the invariant holds of a new builder with any buffer,
pub new-holds : (serial : ℕ) (buf : List ℕ) → Holds (building (filling (builder_under serial 0 0 0) buf)) []
unfolding builder_flags in_progress window count any_set bits
new-holds serial buf =
    record { room = record { short = omega arith; low = refl; few = omega arith; holds = omega arith }; flags = refl; ones = refl }

-- of the state after an import, whether the checks of the mask pass or not,
import_holds : (m : Bitmap) (bytes : List ℕ) (k : ℕ) → k ≡ first_failed (mask_checks m bytes)
    → Holds (after_try bytes (decided k tt m)).state (flags_in m bytes)
unfolding decided
import_holds m bytes zero e = record { sound = mask-sound m bytes (sym e); flags = sym (mask-flags m bytes) }
import_holds m bytes (suc k) e = tt

-- and so of every start
pub start-holds : (s : Start) → Holds (start_of s) (first_list s)
start-holds (from_builder serial buf) = new-holds serial buf
start-holds from_span = tt
start-holds (from_mask m bytes) = import_holds m bytes (first_failed (mask_checks m bytes)) refl

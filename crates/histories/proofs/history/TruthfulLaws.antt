-- Each other mask that an accepted call takes has an unknown or a true count: for appends by the checks of the mask, for calls that make
-- a mask from masks because their rows are lawful.
use Rattle.std.proofs.lemmas.Bool.{false≢true}
use mathlib.Core.Path.{◌≡◌, refl}
use mathlib.Core.Bool.{true}
use mathlib.Core.List.{List, ◌++◌}
use Prim.Native.Nat.{ℕ, zero, suc}
use lib.ListN.{length}
use Rattle.masks.specs.equations.Answer.{Answer, given, refused, decided}
use Rattle.masks.specs.equations.Appends.{Append, push_flag, extend_constant, push_word, extend_slice, extend_repeated, extend_bitmap}
use Rattle.masks.specs.equations.Appends.{extend_gather}
use Rattle.masks.specs.Appends.{grow_checks, inner_checks, subslice_checks}
use Rattle.masks.specs.equations.Appends.{extend_opt_gather, append_answer, append_bytes}
use Rattle.masks.specs.Checks.{first_failed}
use Rattle.masks.specs.Mask.{mask_checks}
use Rattle.masks.proofs.statements.TrueCounts.{Truthful}
use Rattle.masks.specs.declared.bitmap.Bitmap.{Bitmap}
use Rattle.masks.specs.declared.builder.BitmapBuilder.{BitmapBuilder}
use Rattle.masks.proofs.checks.CheckLaws.{both_left}
use Rattle.masks.proofs.bitmap.MaskLaws.{mask-truthful}
use Rattle.histories.proofs.statements.Agreement.{TruthfulAppend, TruthfulAt, TruthfulCall, TruthfulRow}
use Rattle.histories.proofs.statements.History.{Call, try_new, append, freeze, into_opt_validity, make, State, waiting, building, masked}
use Rattle.histories.proofs.statements.History.{no_mask}
use Rattle.histories.proofs.statements.History.{after_append, after_written, lent_at, step, step_row, written_answer, written_bytes}
use Rattle.histories.proofs.statements.Owed.{Honest, Lawful, LawfulWrites}
use Rattle.histories.specs.Rows.{Argument, own, other, Every, RowCall, Tuple, Writes, each, keep, write}

-- ---- rows

module _ (m : Bitmap) (bytes : List ℕ) where
  truthful-at : (p : Argument) → Honest (lent_at m bytes p) → TruthfulAt p
  truthful-at own t = tt
  truthful-at (other n its) t = t

  truthful-all : (n : ℕ) (a : Tuple Argument n) → Every Honest n (each (lent_at m bytes) n a) → Every TruthfulAt n a
  truthful-all zero a t = tt
  truthful-all (suc n) a t = (truthful-at a.0 t.0, truthful-all n a.1 t.1)

  written-truthful : (r : Writes) (a : Tuple Argument r.masks) → LawfulWrites r → (x : Answer (Unit {0}) Bitmap)
      → written_answer m bytes r a ≡ x → (after_written m bytes (written_bytes m bytes r a) x).accepted ≡ true → Every TruthfulAt r.masks a
  written-truthful r a w (given g) e t = truthful-all r.masks a (w.honest (each (lent_at m bytes) r.masks a) g e)
  written-truthful r a w (refused k s) e t = absurd (false≢true t)

  row-truthful : (c : RowCall) → Lawful c → (step_row m bytes c).accepted ≡ true → TruthfulRow c
  row-truthful (keep r) w t = tt
  row-truthful (write r a) w t = written-truthful r a w (written_answer m bytes r a) refl t

-- ---- appends

append-passed : (k : ℕ) (b g : BitmapBuilder) (bytes : List ℕ) → (after_append bytes (decided k b g)).accepted ≡ true → k ≡ 0
unfolding decided
append-passed zero b g bytes t = refl
append-passed (suc k) b g bytes t = absurd (false≢true t)

piece-truthful : (m : Bitmap) (its : List ℕ) (offset n : ℕ) (b : BitmapBuilder) (buf : List ℕ)
    → first_failed (subslice_checks b buf m its offset n) ≡ 0 → Truthful m its
unfolding subslice_checks
piece-truthful m its offset n b buf e =
    mask-truthful m its (both_left (mask_checks m its) (inner_checks offset n m.length ++ grow_checks b n (length buf)) e)

append-truthful : (a : Append) (b : BitmapBuilder) (buf : List ℕ)
    → (after_append (append_bytes a b buf) (append_answer a b buf)).accepted ≡ true → TruthfulAppend a
append-truthful (push_flag x) b buf t = tt
append-truthful (extend_constant n x) b buf t = tt
append-truthful (push_word w n) b buf t = tt
append-truthful (extend_slice bytes start n) b buf t = tt
append-truthful (extend_repeated bytes start n k) b buf t = tt
append-truthful (extend_bitmap m its offset n) b buf t =
    piece-truthful m its offset n b buf (append-passed (first_failed (subslice_checks b buf m its offset n)) b _ _ t)
append-truthful (extend_gather bytes start n idxs) b buf t = tt
append-truthful (extend_opt_gather bytes start n idxs) b buf t = tt

-- ---- all calls

pub step-truthful : {Code : Type 0} (call_of : Code → RowCall) → ((c : Code) → Lawful (call_of c)) → (s : State) (c : Call Code)
    → (step call_of s c).accepted ≡ true → TruthfulCall call_of c
step-truthful call_of w s (try_new bytes start n) t = tt
step-truthful call_of w waiting (append a) t = absurd (false≢true t)
step-truthful call_of w (building f) (append a) t = append-truthful a f.builder f.bytes t
step-truthful call_of w (masked m bytes) (append a) t = absurd (false≢true t)
step-truthful call_of w no_mask (append a) t = absurd (false≢true t)
step-truthful call_of w s freeze t = tt
step-truthful call_of w s into_opt_validity t = tt
step-truthful call_of w waiting (make c) t = absurd (false≢true t)
step-truthful call_of w (building f) (make c) t = absurd (false≢true t)
step-truthful call_of w (masked m bytes) (make c) t = row-truthful m bytes (call_of c) (w c) t
step-truthful call_of w no_mask (make c) t = absurd (false≢true t)

-- A mask means the same however it was built: whatever calls a history is made of, the mask in which it ends agrees with its reference
-- list in all that is compared. So two histories with equal lists agree, and if the lists differ, the lengths or the frozen bytes differ.
use Rattle.std.specs.Prelude.{Option, Some, None}
use mathlib.Core.Path.{◌≡◌, refl, sym, ap, ◌∙◌, subst}
use mathlib.Core.Bool.{Bool}
use mathlib.Core.List.{List, []}
use Prim.Native.Nat.{ℕ, zero, suc, ◌≤◌}
use native.Mathlib.Omega.{arith}
use lib.ListN.{length}
use Rattle.masks.specs.equations.Answer.{decided}
use Rattle.masks.specs.Checks.{first_failed}
use Rattle.masks.specs.Frozen.{frozen_size}
use Rattle.masks.specs.Mask.{mask_checks}
use Rattle.masks.proofs.statements.TrueCounts.{TrueCount}
use Rattle.masks.specs.declared.bitmap.Bitmap.{Bitmap}
use Rattle.histories.proofs.statements.Agreement.{Agrees, Alike, ComesTo, Fits, OneMeaning, refrozen}
use Rattle.histories.proofs.statements.History.{History, State, masked, waiting, after_try, first_list, from_mask, list_of, row_flags}
use Rattle.histories.proofs.statements.History.{start_of}
use Rattle.histories.proofs.statements.Library.{LibraryCall, MeansTheSame, grids, library_call, masks, run_ends}
use Rattle.histories.specs.MaskRows.{combination_row}
use Rattle.histories.proofs.statements.Owed.{Lawful, Stands}
use Rattle.histories.specs.Rows.{RowCall}
use Rattle.histories.proofs.history.AgreementLaws.{agrees, frozen_same}
use Rattle.histories.proofs.history.HistoryLaws.{Holds}
use Rattle.histories.proofs.theorems.HistoryTheorem.{run_holds, start-holds}
use Rattle.histories.proofs.grid_rows.GridRowLaws.{grids_lawful}
use Rattle.histories.proofs.rows.MaskRowLaws.{masks_lawful}
use Rattle.histories.proofs.history.ReferenceLaws.{mask-flags}
use Rattle.histories.proofs.rows.RowLaws.{row-flags}
use Rattle.histories.proofs.run_end_rows.RunEndRowLaws.{run_ends_lawful}
use Rattle.histories.proofs.history.TruthfulLaws.{step-truthful}

-- two masks that agree with the same list are alike
module _ (m m' : Bitmap) (bytes bytes' : List ℕ) (l : List Bool) (a : Agrees m bytes l) (a' : Agrees m' bytes' l) where
  long : m.length ≡ m'.length
  long = a.long ∙ sym a'.long

  counted-as : (z : ℕ) (u : Option ℕ) → u ≡ Some z → TrueCount u l → TrueCount (Some z) l
  counted-as z u e t = subst (λ (x : Option ℕ). TrueCount x l) e t

  room : (buf : List ℕ) → frozen_size m.length ≤ length buf → frozen_size m'.length ≤ length buf
  room buf h = subst (λ (k : ℕ). frozen_size k ≤ length buf) long h

  pub both-agree : Alike m bytes m' bytes'
  both-agree =
      record {
        long = long;
        known = λ z z' e e'. counted-as z m.unset e a.known ∙ sym (counted-as z' m'.unset e' a'.known);
        counted = a.counted ∙ sym a'.counted;
        frozen_bytes = λ buf h. a.frozen_bytes buf h ∙ sym (a'.frozen_bytes buf (room buf h));
        runs = λ k h. a.runs k (omega (arith, a.long)) ∙ sym (a'.runs k (omega (arith, a.long)));
        nth = λ n. a.nth n ∙ sym (a'.nth n);
        forward = λ n from. a.forward n from ∙ sym (a'.forward n from);
        backward = λ n end. a.backward n end ∙ sym (a'.backward n end);
        combined = λ c out t f h.
            (a.combined c out t f h).written
            ∙ sym (a'.combined c out t (subst (λ (k : ℕ). Fits k (combination_row c out) t) long f) (room out h)).written;
      }

abbrev bytes-shown : List ℕ → Option (List ℕ) → List ℕ
bytes-shown d (Some b) = b
bytes-shown d None = d

-- if masks of equal lengths have equal frozen bytes, the lists with which they agree are equal
told-apart : (m m' : Bitmap) (bytes bytes' : List ℕ) (l l' : List Bool) → Agrees m bytes l → Agrees m' bytes' l' → m.length ≡ m'.length
    → (buf : List ℕ) → frozen_size m.length ≤ length buf → refrozen m bytes buf ≡ refrozen m' bytes' buf → l ≡ l'
told-apart m m' bytes bytes' l l' a a' e buf h f =
    frozen_same l l' (sym a.long ∙ e ∙ a'.long)
    (ap (bytes-shown []) (sym (a.frozen_bytes buf h) ∙ f ∙ a'.frozen_bytes buf (subst (λ (k : ℕ). frozen_size k ≤ length buf) e h)))

stands : {m : Bitmap} {bytes : List ℕ} {l : List Bool} → Agrees m bytes l → Stands m bytes l
stands a = record { sound = a.sound; flags = a.flags }

-- an imported mask is the start if its checks pass; if not, nothing is there yet
import_accepted : (m : Bitmap) (bytes : List ℕ) → first_failed (mask_checks m bytes) ≡ 0 → start_of (from_mask m bytes) ≡ masked m bytes
unfolding decided
import_accepted m bytes e = ap (λ (k : ℕ). (after_try bytes (decided k tt m)).state) e

import_refused : (k : ℕ) (m : Bitmap) (bytes : List ℕ) → (k ≡ 0 → ⊥) → (after_try bytes (decided k tt m)).state ≡ waiting
unfolding decided
import_refused zero m bytes h = absurd (h refl)
import_refused (suc k) m bytes h = refl

-- the theorem for any table whose rows are lawful
module _ {Code : Type 0} (call_of : Code → RowCall) (lawful : (c : Code) → Lawful (call_of c)) where
  comes-to : (h : History Code) (m : Bitmap) (bytes : List ℕ) → ComesTo call_of h m bytes → Agrees m bytes (list_of call_of h)
  comes-to h m bytes c =
      agrees m bytes (list_of call_of h)
      (subst (λ (s : State). Holds s (list_of call_of h)) c
      (run_holds call_of lawful h.calls (start_of h.start) (first_list h.start) (start-holds h.start)))

  pub one-meaning : OneMeaning call_of
  one-meaning =
      record {
        imported = λ m bytes e. (import_accepted m bytes e, mask-flags m bytes);
        not_imported = λ m bytes h. import_refused (first_failed (mask_checks m bytes)) m bytes h;
        truthful = step-truthful call_of lawful;
        agrees = comes-to;
        alike = λ h h' m m' bytes bytes' c c' e.
            both-agree m m' bytes bytes' (list_of call_of h') (subst (Agrees m bytes) e (comes-to h m bytes c)) (comes-to h' m' bytes' c');
        apart = λ h h' m m' bytes bytes' c c' differ buf r e f.
            differ (told-apart m m' bytes bytes' (list_of call_of h) (list_of call_of h') (comes-to h m bytes c) (comes-to h' m' bytes' c')
            e buf r f);
        onward = λ h h' m m' bytes bytes' c c' e d t t'.
            row-flags m bytes (list_of call_of h) (stands (comes-to h m bytes c)) (call_of d) (lawful d) t
            ∙ ap (λ (l : List Bool). row_flags l (call_of d)) e
            ∙ sym (row-flags m' bytes' (list_of call_of h') (stands (comes-to h' m' bytes' c')) (call_of d) (lawful d) t');
      }

-- the table of all lawful calls
abbrev pub lawful_call : ((c : RowCall) × Lawful c) → RowCall
lawful_call x = x.0

pub every_lawful : OneMeaning lawful_call
every_lawful = one-meaning lawful_call (λ x. x.1)

-- the library's table
pub library_lawful : (c : LibraryCall) → Lawful (library_call c)
library_lawful (masks c) = masks_lawful c
library_lawful (grids c) = grids_lawful c
library_lawful (run_ends c) = run_ends_lawful c

pub means_the_same : MeansTheSame
means_the_same = one-meaning library_call library_lawful

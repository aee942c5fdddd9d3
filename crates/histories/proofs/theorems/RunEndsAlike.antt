-- The statement of `proofs/statements/RunEndsAlike.antt`, proved: what the calls on runs return and write is a function of the mask's list,
-- and the theorem on histories has the masks' lists equal.
use Rattle.std.proofs.Common.{◌≡◌, refl, sym, ap, ap₂, ◌∙◌, subst, ℕ, suc, ℤ, Bool, true, false, cond, List, [], ◌∷◌, length, map, take}
use Rattle.std.specs.Bool.{beq}
use Rattle.std.specs.Prelude.{pos}
use Rattle.words.specs.Flags.{over}
use Rattle.masks.specs.Mask.{mask_flags, written_mask}
use Rattle.masks.specs.declared.bitmap.Bitmap.{Bitmap}
use Rattle.masks.specs.equations.Answer.{given}
use Rattle.masks.proofs.theorems.WrittenLaws.{accepted, new-if, take-over}
use Rattle.run_ends.specs.Write.{ends_from, run_count, write_checks, written_ends}
use Rattle.run_ends.specs.equations.Read.{from_run_ends_bytes, from_run_ends_of}
use Rattle.run_ends.specs.equations.Write.{to_run_ends_bytes, to_run_ends_ends, to_run_ends_of}
use Rattle.run_ends.proofs.write.CheckLaws.{write-allowed}
use Rattle.run_ends.proofs.write.RunFlags.{paired-from}
use Rattle.histories.proofs.run_end_rows.RunEndRowLaws.{read_lawful, write_lawful}
use Rattle.histories.proofs.run_end_rows.RunEndWordLaws.{values-word}
use Rattle.histories.proofs.statements.Agreement.{Agrees}
use Rattle.histories.proofs.statements.History.{list_of}
use Rattle.histories.proofs.statements.Library.{library_call}
use Rattle.histories.proofs.statements.RunEndsAlike.{RunEndsAlike, RunsAlike, places_after, run_places}
use Rattle.histories.proofs.theorems.GridsAlike.{both}
use Rattle.histories.proofs.theorems.Histories.{means_the_same}
use Rattle.histories.specs.ReferenceList.{read_runs, run_values}
use Rattle.histories.specs.Rows.{one, with_bytes}

-- ---- the ends of a list

one-place : (x y : Bool) (p : ℕ) (l : List Bool) → ends_from (suc p) (y ∷ l) ≡ places_after y (suc (suc p)) l
    → cond (beq x y) (ends_from (suc p) (y ∷ l)) (suc p ∷ ends_from (suc p) (y ∷ l)) ≡ places_after x (suc p) (y ∷ l)
one-place true true p l e = e
one-place false false p l e = e
one-place true false p l e = ap (λ (k : List ℕ). suc p ∷ k) e
one-place false true p l e = ap (λ (k : List ℕ). suc p ∷ k) e

places-after : (x : Bool) (p : ℕ) (l : List Bool) → ends_from p (x ∷ l) ≡ places_after x (suc p) l
unfolding ends_from
places-after x p [] = refl
places-after x p (y ∷ l) = one-place x y p l (places-after y (suc p) l)

places-word : (l : List Bool) → written_ends l ≡ run_places l
unfolding ends_from
places-word [] = refl
places-word (x ∷ l) = ap (λ (k : List ℕ). map pos k) (places-after x 0 l)

-- ---- one mask whose list is l

module _ (m : Bitmap) (bytes : List ℕ) (l : List Bool) (same : mask_flags m bytes ≡ l) where
  written-gives : (s : Bitmap) (ends : List ℤ) (out : List ℕ) → given s ≡ to_run_ends_of m bytes (length ends) (length out)
      → (s.length ≡ length (run_values l))
      × ((take s.length (to_run_ends_ends m bytes (length out) ends) ≡ run_places l)
      × (mask_flags s (to_run_ends_bytes m bytes (length ends) out) ≡ run_values l))
  unfolding to_run_ends_of to_run_ends_ends
  written-gives s ends out e =
      let cs = write_checks m bytes (length ends) (length out) in
      let n : ℕ = run_count m bytes in
      let its = written_ends (mask_flags m bytes) in
      let a = accepted cs tt (written_mask m n) s e in
      let long : s.length ≡ n = ap (λ (x : Bitmap). x.length) a.1 in
      let few : n ≡ length (run_values l) = ap length (values-word (mask_flags m bytes) ∙ ap run_values same) in
      let size : length its ≡ n = sym (paired-from 0 (mask_flags m bytes)) in (
        long ∙ few,
        (
          ap₂ (λ (k : ℕ) (f : List ℤ). take k f) long (new-if cs tt (written_mask m n) s (over ends its) ends e)
              ∙ take-over ends its n size (write-allowed m bytes (length ends) (length out) a.0).fits
              ∙ places-word (mask_flags m bytes) ∙ ap run_places same,
          ((write_lawful (length ends) out).made (one (with_bytes m bytes)) s (sym e)).flags ∙ ap run_values same,
        ),
      )

  read-gives : (ends : List ℤ) (n : ℕ) (s : Bitmap) (out : List ℕ) → given s ≡ from_run_ends_of ends m bytes n (length out)
      → mask_flags s (from_run_ends_bytes ends m bytes n out) ≡ read_runs ends n l
  read-gives ends n s out e =
      ((read_lawful ends n out).made (one (with_bytes m bytes)) s (sym e)).flags ∙ ap (read_runs ends n) same

-- ---- two masks that agree with the same list

runs-alike : (m m' : Bitmap) (bytes bytes' : List ℕ) (l : List Bool) → Agrees m bytes l → Agrees m' bytes' l
    → RunsAlike m bytes m' bytes' l
runs-alike m m' bytes bytes' l a b =
    record {
      written = λ s s' ends ends' out out' e e'.
          let p = written-gives m bytes l a.flags s ends out e in
          let q = written-gives m' bytes' l b.flags s' ends' out' e' in
          (both p.0 q.0, (both p.1.0 q.1.0, both p.1.1 q.1.1));
      read = λ ends n s s' out out' e e'.
          both (read-gives m bytes l a.flags ends n s out e) (read-gives m' bytes' l b.flags ends n s' out' e');
    }

pub run_ends_alike : RunEndsAlike
run_ends_alike =
    record {
      alike = λ h h' m m' bytes bytes' c c' e.
          runs-alike m m' bytes bytes' (list_of library_call h) (means_the_same.agrees h m bytes c)
          (subst (Agrees m' bytes') (sym e) (means_the_same.agrees h' m' bytes' c'));
    }

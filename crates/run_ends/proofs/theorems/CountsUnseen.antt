-- The theorem on counts, proved: the checks of the mask are those with its count unknown, and nothing else uses the count.
use Rattle.std.proofs.Common.{◌≡◌, refl, ap, ℕ, ℤ, List, ◌∷◌, ◌++◌, leb}
use Rattle.masks.specs.Checks.{Check, check, first_failed, output_checks, within_limit}
use Rattle.masks.specs.Mask.{mask_checks}
use Rattle.masks.specs.declared.bitmap.Bitmap.{Bitmap}
use Rattle.masks.proofs.statements.CountsUnseen.{forgot}
use Rattle.masks.proofs.theorems.CountsUnseenLaws.{same-checks}
use Rattle.run_ends.specs.Read.{read_checks}
use Rattle.run_ends.specs.Rules.{runs_hold}
use Rattle.run_ends.specs.Write.{run_count, write_checks}
use Rattle.run_ends.proofs.statements.CountsUnseen.{CountsUnseen}

same-read : (m : Bitmap) (bytes : List ℕ) → first_failed (mask_checks m bytes) ≡ 0 → (ends : List ℤ) (n size : ℕ)
    → read_checks ends m bytes n size ≡ read_checks ends (forgot m) bytes n size
unfolding read_checks
same-read m bytes e ends n size =
    ap (λ (cs : List Check). cs ++ (within_limit n ∷ check 13 (runs_hold n ends m.length) ∷ output_checks n size)) (same-checks m bytes e)

same-write : (m : Bitmap) (bytes : List ℕ) → first_failed (mask_checks m bytes) ≡ 0 → (places size : ℕ)
    → write_checks m bytes places size ≡ write_checks (forgot m) bytes places size
unfolding write_checks
same-write m bytes e places size =
    ap (λ (cs : List Check). cs ++ (check 9 (leb (run_count m bytes) places) ∷ output_checks (run_count m bytes) size))
    (same-checks m bytes e)

pub counts_unseen : CountsUnseen
counts_unseen m bytes e =
    record {
      read = λ ends n size. record { answers = record { checked = same-read m bytes e ends n size; given = refl }; writes = refl };
      write = λ places size. record { answers = record { checked = same-write m bytes e places size; given = refl }; writes = refl };
      write_ends = refl;
    }

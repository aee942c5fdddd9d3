-- The checks of the call that writes runs: the number if one of them fails, and what follows if all pass.
use Rattle.std.proofs.Common.{◌≡◌, ℕ, ◌≤◌, Bool, true, false, cond, List, [], ◌∷◌, refl, sym, ap, ◌∙◌}
use Rattle.std.proofs.Common.{leb}
use borrow.Author.Tests.{leb-true}
use Rattle.masks.specs.Checks.{check, earlier, first_failed, limit, output_checks, rank, place_in, span_checks}
use Rattle.masks.specs.Frozen.{frozen_size}
use Rattle.masks.specs.Mask.{mask_checks}
use Rattle.masks.specs.declared.bitmap.Bitmap.{Bitmap}
use Rattle.masks.proofs.bitmap.MaskLaws.{mask-allowed}
use Rattle.masks.proofs.checks.CheckLaws.{both_left, both_right, check-allowed, first-allowed, first-number, passed-before, passed-one}
use Rattle.masks.proofs.checks.CheckLaws.{rest-allowed}
use Rattle.run_ends.specs.Write.{run_count, write_checks}

-- if a check of the mask fails, its number is that of all,
pub mask-decides : (m : Bitmap) (bytes : List ℕ) (places size n : ℕ) → n ≡ first_failed (mask_checks m bytes) → (n ≡ 0 → ⊥)
    → n ≡ first_failed (write_checks m bytes places size)
unfolding write_checks output_checks mask_checks span_checks rank place_in
mask-decides m bytes places size n e z =
    first-number _ n 8 (leb (frozen_size (run_count m bytes)) size) refl
    (first-number (mask_checks m bytes) n 8 (leb (run_count m bytes) places) refl e z) z

-- else 9 if the ends do not fit,
pub ends-decide : (m : Bitmap) (bytes : List ℕ) (places size n k : ℕ) → n ≡ first_failed (mask_checks m bytes) → n ≡ 0
    → leb (run_count m bytes) places ≡ false → 9 ≡ first_failed (write_checks m bytes places size)
unfolding write_checks output_checks first_failed earlier rank place_in
ends-decide m bytes places size n k e z f =
    passed-before (mask_checks m bytes) _ 9 n e z (rw f (by (leb (frozen_size (run_count m bytes)) size)))
  where
    by : (t : Bool) → 9 ≡ earlier 9 (earlier (cond t 0 9) 0)
    by true = refl
    by false = refl

-- else what the output decides
pub output-decides : (m : Bitmap) (bytes : List ℕ) (places size n r : ℕ) → n ≡ first_failed (mask_checks m bytes) → n ≡ 0
    → leb (run_count m bytes) places ≡ true → r ≡ first_failed (output_checks (run_count m bytes) size)
    → r ≡ first_failed (write_checks m bytes places size)
unfolding write_checks first_failed earlier
output-decides m bytes places size n r e z t o =
    passed-before (mask_checks m bytes) _ r n e z
    (passed-before (check 9 (leb (run_count m bytes) places) ∷ []) (output_checks (run_count m bytes) size) r 0 (passes t) refl o)
  where
    passes : {u : Bool} → u ≡ true → 0 ≡ first_failed (check 9 u ∷ [])
    passes e = rw e refl

-- as the code makes them: first the check of the ends for so many runs,
pub ends-refused : (m : Bitmap) (bytes : List ℕ) (places size n r runs : ℕ) → n ≡ first_failed (mask_checks m bytes) → n ≡ 0
    → runs ≡ run_count m bytes → r ≡ cond (leb runs places) 0 9 → (r ≡ 0 → ⊥) → r ≡ first_failed (write_checks m bytes places size)
ends-refused m bytes places size n r runs e z f p q = by (leb (run_count m bytes) places) refl
  where
    same : r ≡ cond (leb (run_count m bytes) places) 0 9
    same = p ∙ ap (λ (k : ℕ). cond (leb k places) 0 9) f

    by : (t : Bool) → leb (run_count m bytes) places ≡ t → r ≡ first_failed (write_checks m bytes places size)
    by true h = absurd (q (same ∙ ap (λ (t : Bool). cond t 0 9) h))
    by false h = same ∙ ap (λ (t : Bool). cond t 0 9) h ∙ ends-decide m bytes places size n 0 e z h

-- then that of the output
pub output-answers : (m : Bitmap) (bytes : List ℕ) (places size n r runs : ℕ) → n ≡ first_failed (mask_checks m bytes) → n ≡ 0
    → runs ≡ run_count m bytes → ◌≡◌ {A = ℕ} 0 (cond (leb runs places) 0 9) → r ≡ first_failed (output_checks runs size)
    → r ≡ first_failed (write_checks m bytes places size)
output-answers m bytes places size n r runs e z f p q =
    output-decides m bytes places size n r e z
    (ap (λ (k : ℕ). leb k places) (sym f) ∙ passed-one 8 (leb runs places) (sym p))
    (q ∙ ap (λ (k : ℕ). first_failed (output_checks k size)) f)

pub record WriteAllowed (m : Bitmap) (bytes : List ℕ) (places size : ℕ) : Type 0 where
  pub mask : first_failed (mask_checks m bytes) ≡ 0
  pub starts : m.start ≤ limit
  pub short : m.length ≤ limit
  pub fits : run_count m bytes ≤ places
  pub room : frozen_size (run_count m bytes) ≤ size

pub write-allowed : (m : Bitmap) (bytes : List ℕ) (places size : ℕ) → first_failed (write_checks m bytes places size) ≡ 0
    → WriteAllowed m bytes places size
unfolding write_checks output_checks
write-allowed m bytes places size e =
    let mask = both_left (mask_checks m bytes) _ e in
    let rest = both_right (mask_checks m bytes) _ e in
    let a = mask-allowed m bytes mask in
    record {
      mask = mask;
      starts = a.starts;
      short = a.short;
      fits = leb-true _ _ (first-allowed 8 _ _ rest);
      room = leb-true _ _ (check-allowed 8 _ (rest-allowed _ _ rest));
    }

-- The serial of every record that a call returns: the statements of `proofs/statements/SerialPlain.antt`.
use Rattle.std.specs.Prelude.{Some, None}
use Rattle.std.proofs.lemmas.Bool.{cases_lt}
use mathlib.Core.Path.{◌≡◌, refl, sym, ap, ◌∙◌, subst}
use mathlib.Core.Bool.{Bool, true, false, cond}
use mathlib.Core.List.{List, [], ◌∷◌}
use mathlib.Core.Logic.{inl, inr, ⊎_elim}
use Prim.Native.Nat.{ℕ, ◌≤◌, ◌<◌, max}
use native.Mathlib.Omega.{arith}
use lib.Dec.{eqb}
use lib.ListN.{length}
use Rattle.masks.specs.declared.bitmap.Recounted.{Recounted}
use Rattle.masks.specs.equations.Answer.{given, checked}
use Rattle.masks.specs.equations.Appends.{Append, append_answer, append_checks, append_flags}
use Rattle.masks.specs.Builder.{appended, filling}
use Rattle.masks.specs.Checks.{Check, first_failed, span_checks}
use Rattle.masks.specs.Combine.{largest_serial, not_checks, pair_checks, pair_mask, result_mask, select_checks}
use Rattle.masks.specs.equations.Combine.{each_of, pair_of}
use Rattle.masks.specs.Freeze.{total_ones, freeze_checks, frozen_mask, validity_of}
use Rattle.masks.specs.Mask.{mask_checks, mask_of, slice_checks, sliced_mask, uncounted}
use Rattle.masks.specs.equations.Mask.{new_zeroed_of, slice_of, try_new_of, unset_bits_of}
use Rattle.masks.specs.Mask.{with_count, zero_count, zeroed_checks}
use Rattle.masks.proofs.statements.SerialPlain.{Largest, SerialsPlainly}
use Rattle.masks.specs.declared.bitmap.Bitmap.{Bitmap}
use Rattle.masks.specs.declared.builder.BitmapBuilder.{BitmapBuilder}
use Rattle.masks.proofs.refusal.AnswerLaws.{given-value}
use Rattle.masks.proofs.bitmap_ops.CombineLaws.{one-serial}

its_serial : {S : Type 0} (cs : List Check) (s : S) (m made : Bitmap) → given m ≡ checked cs s made → m.serial ≡ made.serial
its_serial cs s m made e = ap (λ (x : Bitmap). x.serial) (given-value (first_failed cs) s m made e)

-- ---- builders

append-serial : (a : Append) (b : BitmapBuilder) (buf : List ℕ) (c : BitmapBuilder) → given c ≡ append_answer a b buf → c.serial ≡ b.serial
unfolding appended
append-serial a b buf c e =
    ap (λ (x : BitmapBuilder). x.serial)
    (given-value (first_failed (append_checks a b buf)) b c (appended (filling b buf) (append_flags a)).builder e)

validity-serial : (b : BitmapBuilder) (t : Bool) (m : Bitmap) → Some m ≡ cond t None (Some (frozen_mask b)) → m.serial ≡ b.serial
validity-serial b true m e = absurd (let z : ◌≡◌ {A = ℕ} 0 1 = cc in omega arith)
validity-serial b false m e = ap (λ (x : Bitmap). x.serial) (let s : m ≡ frozen_mask b = cc in s)

-- ---- masks

counted-serial : (m : Bitmap) (bytes : List ℕ) (r : Recounted) → given r ≡ unset_bits_of m bytes → r.mask.serial ≡ m.serial
unfolding unset_bits_of
counted-serial m bytes r e =
    let made : Recounted = record { mask = with_count m (Some (zero_count m bytes)); zeros = zero_count m bytes } in
    ap (λ (x : Recounted). x.mask.serial) (given-value (first_failed (mask_checks m bytes)) m r made e)

-- ---- combinations

largest_two : (a b : Bitmap) → Largest (largest_serial (a ∷ b ∷ [])) (a.serial ∷ b.serial ∷ [])
unfolding largest_serial
largest_two a b = (
  (omega arith, (omega arith, tt)),
  ⊎_elim (λ (h : a.serial < b.serial). inr (inl (omega arith))) (λ (h : b.serial ≤ a.serial). inl (omega arith))
      (cases_lt a.serial b.serial),
)

largest_three : (a b c : Bitmap) → Largest (largest_serial (a ∷ b ∷ c ∷ [])) (a.serial ∷ b.serial ∷ c.serial ∷ [])
unfolding largest_serial
largest_three a b c = (
  (omega arith, (omega arith, (omega arith, tt))),
  ⊎_elim
      (λ (h : a.serial < max b.serial c.serial).
      inr (⊎_elim (λ (k : b.serial < c.serial). inr (inl (omega arith))) (λ (k : c.serial ≤ b.serial). inl (omega arith))
      (cases_lt b.serial c.serial)))
      (λ (h : max b.serial c.serial ≤ a.serial). inl (omega arith))
      (cases_lt a.serial (max b.serial c.serial)),
)

pub serials_plainly : SerialsPlainly
unfolding try_new_of new_zeroed_of slice_of pair_of pair_mask each_of
serials_plainly = record {
  new-builder = refl;
  new = refl;
  new_zeroed = λ n out m e. its_serial (zeroed_checks n (length out)) tt m (mask_of 0 n (Some n)) e;
  try-new = λ bytes start n m e. its_serial (span_checks start n (length bytes)) tt m (mask_of start n (uncounted n)) e;
  append = append-serial;
  freeze = λ b buf m e. its_serial (freeze_checks b (length buf)) b m (frozen_mask b) e;
  into-opt-validity = λ b buf m e.
      validity-serial b (eqb (total_ones b) b.length) m
      (given-value (first_failed (freeze_checks b (length buf))) b (Some m) (validity_of b) e);
  slice = λ m bytes offset n s e. its_serial (slice_checks m bytes offset n) m s (sliced_mask m bytes offset n) e;
  unset_bits = counted-serial;
  pair = λ op a a_bytes b b_bytes out c e.
      subst (λ (x : ℕ). Largest x (a.serial ∷ b.serial ∷ []))
      (sym (its_serial (pair_checks a a_bytes b b_bytes (length out)) tt c (pair_mask op a a_bytes b b_bytes) e)) (largest_two a b);
  inverted =
      λ m bytes out c e. its_serial (not_checks m bytes (length out)) tt c (result_mask (m ∷ []) m.length (uncounted m.length)) e
      ∙ sym (one-serial m);
  selected = λ s s_bytes t t_bytes f f_bytes out c e.
      subst (λ (x : ℕ). Largest x (s.serial ∷ t.serial ∷ f.serial ∷ []))
      (sym (its_serial (select_checks s s_bytes t t_bytes f f_bytes (length out)) tt c
      (result_mask (s ∷ t ∷ f ∷ []) s.length (uncounted s.length)) e)) (largest_three s t f);
  selected-constant = λ s s_bytes t t_bytes x out c e.
      subst (λ (y : ℕ). Largest y (s.serial ∷ t.serial ∷ []))
      (sym (its_serial (pair_checks s s_bytes t t_bytes (length out)) tt c (result_mask (s ∷ t ∷ []) s.length (uncounted s.length)) e))
      (largest_two s t);
}

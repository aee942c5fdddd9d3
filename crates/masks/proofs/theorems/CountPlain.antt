-- Which records have a known zero count: the statements of `proofs/statements/CountPlain.antt`.
use Rattle.std.specs.Prelude.{Option, Some, None}
use mathlib.Core.Path.{◌≡◌, refl, sym, ap, ap₂, ◌∙◌}
use mathlib.Core.Bool.{Bool, true, false, cond, ◌&&◌, ◌||◌}
use mathlib.Core.List.{List, [], ◌∷◌, ◌++◌}
use mathlib.Core.Logic.{◌⊎◌, inl, inr}
use Prim.Native.Nat.{ℕ, zero, suc, ◌+◌, ◌-◌, ◌/◌, ◌≤◌, max}
use native.Mathlib.Omega.{arith}
use lib.Dec.{eqb, leb}
use lib.ListN.{length}
use borrow.Author.Tests.{eq-eqb, ne_eqb, le-leb, lt-leb, eqb-true}
use Rattle.words.specs.Flags.{count}
use Rattle.words.specs.declared.ops.Op.{Op}
use Rattle.masks.specs.declared.bitmap.Recounted.{Recounted}
use Rattle.masks.specs.equations.Answer.{given, checked}
use Rattle.masks.specs.Checks.{Check, check, first_failed, span_checks}
use Rattle.masks.specs.Combine.{And, AndNot, Or, OrNot, Xor, pair_mask, pair_checks, shortcut, result_count, result_mask}
use Rattle.masks.specs.equations.Combine.{pair_of, each_of}
use Rattle.masks.specs.Combine.{not_checks, select_checks}
use Rattle.masks.proofs.statements.CountPlain.{Brings, told, counted, MadeCounts, SliceCounts, PairCounts, EachCounts, CountsPlainly}
use Rattle.masks.specs.Freeze.{freeze_checks, frozen_mask, total_ones, validity_of}
use Rattle.masks.specs.declared.builder.BitmapBuilder.{BitmapBuilder}
use Rattle.masks.specs.Mask.{mask_of, mask_flags, uncounted, zero_count, with_count, zeroed_checks}
use Rattle.masks.specs.equations.Mask.{try_new_of, new_zeroed_of}
use Rattle.masks.specs.Mask.{mask_checks, slice_checks, sliced_mask, sliced_count, cut_zeros, recounts}
use Rattle.masks.specs.equations.Mask.{unset_bits_of, slice_of}
use Rattle.masks.specs.Mask.{recount_valid, kept_count, piece_checks}
use Rattle.masks.specs.declared.bitmap.Bitmap.{Bitmap}
use Rattle.masks.proofs.refusal.AnswerLaws.{given-number, given-value}
use Rattle.masks.proofs.checks.CheckLaws.{both_left}
use Rattle.masks.proofs.bitmap.MaskLaws.{piece-allowed, known-zeros, mask-truthful}
use Rattle.masks.proofs.utils.PartLaws.{ones-most, zeros-rest}
use Rattle.masks.proofs.bitmap_ops.CombineLaws.{pair-counts as counts-true}
use Rattle.masks.proofs.statements.TrueCounts.{Truthful}

-- an accepted call returns the mask that it made, with its count
its_count : {S : Type 0} (cs : List Check) (s : S) (m made : Bitmap) → given m ≡ checked cs s made → m.unset ≡ made.unset
its_count cs s m made e = ap (λ (x : Bitmap). x.unset) (given-value (first_failed cs) s m made e)

-- the mask of `into_opt_validity`, if there is one, has the count of `freeze`
validity-count : (b : BitmapBuilder) (t : Bool) (m : Bitmap) → Some m ≡ cond t None (Some (frozen_mask b)) → m.unset ≡ (frozen_mask b).unset
validity-count b true m e = absurd (let z : ◌≡◌ {A = ℕ} 0 1 = cc in omega arith)
validity-count b false m e = ap (λ (x : Bitmap). x.unset) (let s : m ≡ frozen_mask b = cc in s)

none-known : (n : ℕ) → n ≡ 0 → uncounted n ≡ Some 0
none-known n e = ap (λ (t : Bool). cond t (Some 0) None) (eq-eqb n 0 e)

some-unknown : (n : ℕ) → (n ≡ 0 → ⊥) → uncounted n ≡ None
some-unknown n h = ap (λ (t : Bool). cond t (Some 0) None) (ne_eqb n 0 h)

brought : (m : Bitmap) (bytes : List ℕ) (z : ℕ) → Truthful m bytes → Brings m bytes z → zero_count m bytes ≡ z
unfolding zero_count
brought m bytes z t (told e) = sym (known-zeros m.unset (mask_flags m bytes) z t e)
brought m bytes z t (counted e h) = sym h

-- ---- masks made and counted

recounted-as : (m : Bitmap) (bytes : List ℕ) (r : Recounted) (z : ℕ) → given r ≡ unset_bits_of m bytes → Brings m bytes z
    → (r.zeros ≡ z) × (r.mask.unset ≡ Some z)
unfolding unset_bits_of
recounted-as m bytes r z e h =
    let made : Recounted = record { mask = with_count m (Some (zero_count m bytes)); zeros = zero_count m bytes } in
    let same : r ≡ made = given-value (first_failed (mask_checks m bytes)) m r made e in
    let t = mask-truthful m bytes (sym (given-number (first_failed (mask_checks m bytes)) m r made e)) in (
      ap (λ (x : Recounted). x.zeros) same ∙ brought m bytes z t h,
      ap (λ (x : Recounted). x.mask.unset) same ∙ ap Some (brought m bytes z t h),
    )

made-counts : MadeCounts
unfolding try_new_of new_zeroed_of
made-counts = record {
  new = refl;
  try_new-none = λ bytes start m e. its_count (span_checks start 0 (length bytes)) tt m (mask_of start 0 (uncounted 0)) e;
  try-new = λ bytes start n m e.
      its_count (span_checks start (suc n) (length bytes)) tt m (mask_of start (suc n) (uncounted (suc n))) e
      ∙ some-unknown (suc n) (λ q. omega arith);
  new_zeroed = λ n out m e. its_count (zeroed_checks n (length out)) tt m (mask_of 0 n (Some n)) e;
  freeze = λ b buf m e. its_count (freeze_checks b (length buf)) b m (frozen_mask b) e;
  into-opt-validity = λ b buf m e.
      validity-count b (eqb (total_ones b) b.length) m
      (given-value (first_failed (freeze_checks b (length buf))) b (Some m) (validity_of b) e);
  unset_bits = recounted-as;
}

-- ---- slices

kept-none : (old n cut : ℕ) → sliced_count old n cut (Some 0) ≡ Some 0
unfolding recounts kept_count
kept-none old n cut = refl

kept-all : (old n cut : ℕ) → (old ≡ 0 → n ≡ 0) → sliced_count old n cut (Some old) ≡ Some n
unfolding recounts kept_count
kept-all zero n cut h = ap Some (sym (h refl))
kept-all (suc old) n cut h = rw (eq-eqb (suc old) (suc old) refl, ne_eqb (suc old) 0 (λ q. omega arith))

kept-mixed : (old n cut z : ℕ) (t : Bool) → (z ≡ 0 → ⊥) → (z ≡ old → ⊥) → leb old (n + max (old / 5) 32) ≡ t
    → sliced_count old n cut (Some z) ≡ cond t (Some (z - cut)) None
unfolding recounts kept_count
kept-mixed old n cut z t p q e = rw (ne_eqb z 0 p, ne_eqb z old q, e)

within : (m : Bitmap) (bytes : List ℕ) (offset n : ℕ) (s : Bitmap) → given s ≡ slice_of m bytes offset n → offset + n ≤ m.length
unfolding slice_of slice_checks
within m bytes offset n s e =
    let seven = check 7 (recount_valid m.length n (cut_zeros m bytes offset n) m.unset) ∷ [] in
    (piece-allowed m bytes offset n
    (both_left (piece_checks m bytes offset n) seven
    (sym (given-number (first_failed (piece_checks m bytes offset n ++ seven)) m s (sliced_mask m bytes offset n) e)))).inside

slice-counts : (m : Bitmap) (bytes : List ℕ) (offset n : ℕ) (s : Bitmap) → given s ≡ slice_of m bytes offset n
    → SliceCounts m bytes offset n s
unfolding slice_of cut_zeros
slice-counts m bytes offset n s e =
    let cut = cut_zeros m bytes offset n in
    let its : s.unset ≡ sliced_count m.length n cut m.unset =
    its_count (slice_checks m bytes offset n) m s (sliced_mask m bytes offset n) e in
    let told-as : (u : Option ℕ) → m.unset ≡ u → s.unset ≡ sliced_count m.length n cut u =
    λ u h. its ∙ ap (sliced_count m.length n cut) h in
    let inside : offset + n ≤ m.length = within m bytes offset n s e in
    record {
      unknown = λ h. told-as None h;
      none = λ h. told-as (Some 0) h ∙ kept-none m.length n cut;
      all = λ h. told-as (Some m.length) h ∙ kept-all m.length n cut (λ q. omega arith);
      recounted = λ z h p q k. told-as (Some z) h ∙ kept-mixed m.length n cut z true p q (le-leb m.length (n + max (m.length / 5) 32) k);
      dropped = λ z h p q k. told-as (Some z) h ∙ kept-mixed m.length n cut z false p q (lt-leb m.length (n + max (m.length / 5) 32) k);
    }

-- ---- combinations

-- the count of a pair's result, by the counts of its masks
pair-count : (op : Op) (a : Bitmap) (a_bytes : List ℕ) (b : Bitmap) (b_bytes out : List ℕ) (c : Bitmap) (l r : ℕ)
    → given c ≡ pair_of op a a_bytes b b_bytes out
    → Brings a a_bytes l → Brings b b_bytes r → c.unset ≡ result_count (shortcut op a.length l r) a.length
unfolding pair_of pair_mask
pair-count op a a_bytes b b_bytes out c l r e p q =
    let cs = pair_checks a a_bytes b b_bytes (length out) in
    let made = pair_mask op a a_bytes b b_bytes in
    let t = counts-true a a_bytes b b_bytes (length out) (sym (given-number (first_failed cs) tt c made e)) in
    its_count cs tt c made e
    ∙ ap₂ (λ (x y : ℕ). result_count (shortcut op a.length x y) a.length) (brought a a_bytes l t.0 p) (brought b b_bytes r t.1 q)

-- the count of no flags is 0, with a shortcut or without
nothing : (s : Option Bool) (n : ℕ) → n ≡ 0 → result_count s n ≡ Some 0
nothing (Some false) n e = ap Some e
nothing (Some true) n e = none-known n e
nothing None n e = none-known n e

and-either : (n l r : ℕ) → (l ≡ n) ⊎ (r ≡ n) → result_count (shortcut And n l r) n ≡ Some n
unfolding shortcut
and-either n l r (inl e) = rw (eq-eqb l n e)
and-either n l r (inr e) = go (eqb l n) (eq-eqb r n e)
  where
    go : (t : Bool) → eqb r n ≡ true → result_count (cond (t || eqb r n) (Some false) None) n ≡ Some n
    go true e = refl
    go false e = rw e

and-neither : (n l r : ℕ) → (n ≡ 0 → ⊥) → (l ≡ n → ⊥) → (r ≡ n → ⊥) → result_count (shortcut And n l r) n ≡ None
unfolding shortcut
and-neither n l r z p q = rw (ne_eqb l n p, ne_eqb r n q) (some-unknown n z)

xor-alike : (n l r : ℕ) → ((l ≡ n) × (r ≡ n)) ⊎ ((l ≡ 0) × (r ≡ 0)) → result_count (shortcut Xor n l r) n ≡ Some n
unfolding shortcut
xor-alike n l r (inl e) = rw (eq-eqb l n e.0, eq-eqb r n e.1)
xor-alike n l r (inr e) = go (eqb l n && eqb r n) (eq-eqb l 0 e.0) (eq-eqb r 0 e.1)
  where
    go : (t : Bool) → eqb l 0 ≡ true → eqb r 0 ≡ true
        → result_count (cond (t || (eqb l 0 && eqb r 0)) (Some false)
        (cond ((eqb l 0 && eqb r n) || (eqb l n && eqb r 0)) (Some true) None)) n ≡ Some n
    go true p q = refl
    go false p q = rw (p, q)

not-both : (a b : Bool) (P Q : Type 0) → (a ≡ true → P) → (b ≡ true → Q) → (P → Q → ⊥) → (a && b) ≡ false
not-both true true P Q p q h = absurd (h (p refl) (q refl))
not-both true false P Q p q h = refl
not-both false b P Q p q h = refl

ones-unknown : (n : ℕ) → (n ≡ 0 → ⊥) → (t : Bool) → result_count (cond t (Some true) None) n ≡ None
ones-unknown n z true = some-unknown n z
ones-unknown n z false = some-unknown n z

xor_unlike : (n l r : ℕ) → (n ≡ 0 → ⊥) → (l ≡ n → r ≡ n → ⊥) → (l ≡ 0 → r ≡ 0 → ⊥) → result_count (shortcut Xor n l r) n ≡ None
unfolding shortcut
xor_unlike n l r z p q =
    rw (
      not-both (eqb l n) (eqb r n) (l ≡ n) (r ≡ n) (eqb-true l n) (eqb-true r n) p,
      not-both (eqb l 0) (eqb r 0) (l ≡ 0) (r ≡ 0) (eqb-true l 0) (eqb-true r 0) q,
    )
    (ones-unknown n z ((eqb l 0 && eqb r n) || (eqb l n && eqb r 0)))

no-shortcut : (op : Op) (n l r : ℕ) → (op ≡ Or) ⊎ ((op ≡ AndNot) ⊎ (op ≡ OrNot)) → (n ≡ 0 → ⊥) → result_count (shortcut op n l r) n ≡ None
unfolding shortcut
no-shortcut op n l r (inl e) z = ap (λ (o : Op). result_count (shortcut o n l r) n) e ∙ ones-unknown n z (eqb l 0 || eqb r 0)
no-shortcut op n l r (inr (inl e)) z = ap (λ (o : Op). result_count (shortcut o n l r) n) e ∙ some-unknown n z
no-shortcut op n l r (inr (inr e)) z = ap (λ (o : Op). result_count (shortcut o n l r) n) e ∙ some-unknown n z

pair-counts : (op : Op) (a : Bitmap) (a_bytes : List ℕ) (b : Bitmap) (b_bytes out : List ℕ) (c : Bitmap) (l r : ℕ)
    → given c ≡ pair_of op a a_bytes b b_bytes out
    → Brings a a_bytes l → Brings b b_bytes r → PairCounts a.length l r op c
pair-counts op a a_bytes b b_bytes out c l r e p q =
    let n = a.length in
    let its : c.unset ≡ result_count (shortcut op n l r) n = pair-count op a a_bytes b b_bytes out c l r e p q in
    let by : (o : Op) → op ≡ o → c.unset ≡ result_count (shortcut o n l r) n =
    λ o h. its ∙ ap (λ (x : Op). result_count (shortcut x n l r) n) h in
    record {
      none = λ z. its ∙ nothing (shortcut op n l r) n z;
      and-zeros = λ o h. by And o ∙ and-either n l r h;
      xor-zeros = λ o h. by Xor o ∙ xor-alike n l r h;
      and-other = λ o z h k. by And o ∙ and-neither n l r z h k;
      xor-other = λ o z h k. by Xor o ∙ xor_unlike n l r z h k;
      others = λ o z. its ∙ no-shortcut op n l r o z;
    }

each_counts : (cs : List Check) (masks : List Bitmap) (n : ℕ) → EachCounts n (each_of cs masks n)
unfolding each_of
each_counts cs masks n = record {
  none = λ c e z. its_count cs tt c (result_mask masks n (uncounted n)) e ∙ none-known n z;
  other = λ c e z. its_count cs tt c (result_mask masks n (uncounted n)) e ∙ some-unknown n z;
}

pub counts_plainly : CountsPlainly
counts_plainly = record {
  zeros-and-ones =
      λ l. omega (arith, zeros-rest l (length l) (count l) refl refl, ones-most l (length l) (count l) refl refl);
  made = made-counts;
  slice = slice-counts;
  pair = pair-counts;
  inverted = λ m bytes out. each_counts (not_checks m bytes (length out)) (m ∷ []) m.length;
  selected =
      λ s s_bytes t t_bytes f f_bytes out. each_counts (select_checks s s_bytes t t_bytes f f_bytes (length out)) (s ∷ t ∷ f ∷ []) s.length;
  selected-constant = λ s s_bytes t t_bytes x out. each_counts (pair_checks s s_bytes t t_bytes (length out)) (s ∷ t ∷ []) s.length;
}

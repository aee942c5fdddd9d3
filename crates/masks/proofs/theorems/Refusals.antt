-- The number of a list of checks is 0 or one of those listed for the family of its calls.
use Rattle.std.specs.Prelude.{Some, None}
use Rattle.std.proofs.lemmas.Bool.{and_parts, or_left, or_right}
use mathlib.Core.Path.{◌≡◌, refl, sym, ap, ◌∙◌, subst}
use mathlib.Core.Bool.{Bool, true, false, cond, ◌||◌}
use mathlib.Core.List.{List, [], ◌∷◌, ◌++◌}
use mathlib.Core.Logic.{◌⊎◌, inl, inr, ⊎_elim}
use Prim.Native.Nat.{ℕ, zero, suc}
use native.Mathlib.Omega.{arith}
use lib.Dec.{leb, eqb}
use borrow.Author.Tests.{eq-eqb, eqb-true}
use Rattle.masks.proofs.theorems.SliceTruth.{slice-number}
use Rattle.masks.specs.Aligned.{aligned_checks}
use Rattle.masks.specs.Appends.{constant_checks, gather_checks, grow_checks, inner_checks, span_grow_checks, subslice_checks, word_checks}
use Rattle.masks.specs.AtIndex.{and_not_at_checks, index_checks, length_checks}
use Rattle.masks.specs.Bitmask.{split_checks}
use Rattle.masks.specs.Builder.{builder_checks}
use Rattle.masks.specs.Checks.{Check, rank, earlier, failure, first_failed, order, span_checks, address_checks, output_checks}
use Rattle.masks.specs.Chunks.{chunk_checks}
use Rattle.masks.specs.Combine.{pair_checks, not_checks, select_checks}
use Rattle.masks.specs.Compare.{common_checks}
use Rattle.masks.specs.Cursor.{cursor_checks}
use Rattle.masks.specs.Freeze.{freeze_checks}
use Rattle.masks.specs.Iterator.{iter_checks}
use Rattle.masks.specs.Mask.{mask_checks, zeroed_checks, piece_checks, slice_checks}
use Rattle.masks.specs.NextAndNot.{next_checks, other_checks}
use Rattle.masks.specs.SliceIterator.{run_checks}
use Rattle.masks.specs.Superseding.{superseding_checks}
use Rattle.masks.specs.TrueIdx.{true_at, new_true_checks, true_checks}
use Rattle.masks.specs.declared.bitmap.Bitmap.{Bitmap}
use Rattle.masks.proofs.statements.Refusals.{numbers, among, all_among, FailsBy, Refusals, may_give}
use Rattle.masks.proofs.statements.Refusals.{Family, addressed, spans, cursors, unmasked_cursors, splits, builders, pushed-words}
use Rattle.masks.proofs.statements.Refusals.{span-appends, gathers}
use Rattle.masks.proofs.statements.Refusals.{piece-appends, zeroed-masks, masks, slices, combinations, inversions, intersections}
use Rattle.masks.proofs.statements.Refusals.{indexed-pairs, indexed-masks, stated-masks, stated_lengths, supersessions}

-- ---- the number of a list of checks is 0 or one of theirs

earlier-either : (a b : ℕ) → (earlier a b ≡ a) ⊎ (earlier a b ≡ b)
unfolding earlier
earlier-either zero b = inr refl
earlier-either (suc a) zero = inl refl
earlier-either (suc a) (suc b) = go (leb (rank (suc a)) (rank (suc b)))
  where
    go : (t : Bool) → (cond t (suc a) (suc b) ≡ suc a) ⊎ (cond t (suc a) (suc b) ≡ suc b)
    go true = inl refl
    go false = inr refl

abbrev NoneOrAmong : ℕ → List ℕ → Type 0
NoneOrAmong n ns = (n ≡ 0) ⊎ (among n ns ≡ true)

failure-first : (c : Check) (ns : List ℕ) → NoneOrAmong (failure c) (c.number ∷ ns)
unfolding among
failure-first c ns = go c.holds
  where
    go : (t : Bool) → NoneOrAmong (cond t 0 c.number) (c.number ∷ ns)
    go true = inl refl
    go false = inr (or_left (eqb c.number c.number) (among c.number ns) (eq-eqb c.number c.number refl))

one_more : (m n : ℕ) (ns : List ℕ) → NoneOrAmong n ns → NoneOrAmong n (m ∷ ns)
unfolding among
one_more m n ns p = ⊎_elim (λ (e : n ≡ 0). inl e) (λ (e : among n ns ≡ true). inr (or_right (eqb n m) (among n ns) e)) p

pub failed-among : (cs : List Check) → NoneOrAmong (first_failed cs) (numbers cs)
unfolding first_failed numbers
failed-among [] = inl refl
failed-among (c ∷ cs) = ⊎_elim
    (λ (e : earlier (failure c) (first_failed cs) ≡ failure c). subst (λ (n : ℕ). NoneOrAmong n (c.number ∷ numbers cs)) (sym e)
    (failure-first c (numbers cs)))
    (λ (e : earlier (failure c) (first_failed cs) ≡ first_failed cs).
    subst (λ (n : ℕ). NoneOrAmong n (c.number ∷ numbers cs)) (sym e) (one_more c.number (first_failed cs) (numbers cs) (failed-among cs)))
    (earlier-either (failure c) (first_failed cs))

among-all : (k : ℕ) (ms ns : List ℕ) → all_among ms ns ≡ true → among k ms ≡ true → among k ns ≡ true
unfolding among all_among
among-all k [] ns a e = absurd (let z : ◌≡◌ {A = ℕ} 0 1 = cc e in omega arith)
among-all k (m ∷ ms) ns a e = go (eqb k m) refl e (among-all k ms ns (and_parts _ _ a).1)
  where
    go : (t : Bool) → eqb k m ≡ t → (t || among k ms) ≡ true → (among k ms ≡ true → among k ns ≡ true) → among k ns ≡ true
    go true p q rest = ap (λ (x : ℕ). among x ns) (eqb-true k m p) ∙ (and_parts _ _ a).0
    go false p q rest = rest q

-- checks whose numbers are all among ns fail only by one of ns
pub fails-by : (ns : List ℕ) (cs : List Check) → all_among (numbers cs) ns ≡ true → FailsBy ns cs
fails-by ns cs e =
    record {
      number = λ h. ⊎_elim
          (λ (z : first_failed cs ≡ 0). absurd (h z))
          (λ (p : among (first_failed cs) (numbers cs) ≡ true). among-all (first_failed cs) (numbers cs) ns e p)
          (failed-among cs);
    }

-- ---- the statement

all-in-order : (f : Family) → all_among (may_give f) order ≡ true
unfolding all_among among
all-in-order addressed = refl
all-in-order spans = refl
all-in-order cursors = refl
all-in-order unmasked_cursors = refl
all-in-order splits = refl
all-in-order builders = refl
all-in-order pushed-words = refl
all-in-order span-appends = refl
all-in-order gathers = refl
all-in-order piece-appends = refl
all-in-order zeroed-masks = refl
all-in-order masks = refl
all-in-order slices = refl
all-in-order combinations = refl
all-in-order inversions = refl
all-in-order intersections = refl
all-in-order indexed-pairs = refl
all-in-order indexed-masks = refl
all-in-order stated-masks = refl
all-in-order stated_lengths = refl
all-in-order supersessions = refl

-- no number of a piece's checks is 7
not_seven : (k : ℕ) → NoneOrAmong k (1 ∷ 1 ∷ 2 ∷ 3 ∷ 1 ∷ 1 ∷ 1 ∷ 6 ∷ []) → k ≡ 7 → ⊥
unfolding among
not_seven k p e = ⊎_elim
    (λ (z : k ≡ 0). omega arith)
    (λ (h : among k (1 ∷ 1 ∷ 2 ∷ 3 ∷ 1 ∷ 1 ∷ 1 ∷ 6 ∷ []) ≡ true).
    let same = sym h ∙ ap (λ (x : ℕ). among x (1 ∷ 1 ∷ 2 ∷ 3 ∷ 1 ∷ 1 ∷ 1 ∷ 6 ∷ [])) e in
    let z : ◌≡◌ {A = ℕ} 0 1 = ap (λ (t : Bool). cond t 0 1) same in omega arith)
    p

seven_never : (m : Bitmap) (bytes : List ℕ) (offset n : ℕ) → first_failed (slice_checks m bytes offset n) ≡ 7 → ⊥
unfolding numbers piece_checks mask_checks span_checks
seven_never m bytes offset n e =
    not_seven (first_failed (piece_checks m bytes offset n)) (failed-among (piece_checks m bytes offset n))
    (slice-number m bytes offset n ∙ e)

pub refusals : Refusals
unfolding
    numbers all_among among span_checks address_checks output_checks aligned_checks cursor_checks split_checks builder_checks
    word_checks constant_checks span_grow_checks inner_checks subslice_checks gather_checks mask_checks zeroed_checks piece_checks
    slice_checks pair_checks not_checks select_checks common_checks new_true_checks true_checks and_not_at_checks index_checks
    length_checks next_checks other_checks superseding_checks
refusals =
    record {
      in_order = all-in-order;
      aligned = λ start n size address. fails-by _ (aligned_checks start n size address) refl;
      span = λ start n size. fails-by _ (span_checks start n size) refl;
      split = λ start n at size. fails-by _ (split_checks start n at size) refl;
      grow = λ b n size. fails-by _ (grow_checks b n size) refl;
      constant = λ b size n. fails-by _ (constant_checks b size n) refl;
      word = λ b size w n. fails-by _ (word_checks b size w n) refl;
      span_grow = λ b buf bytes start n more. fails-by _ (span_grow_checks b buf bytes start n more) refl;
      subslice = λ b buf m bytes start n. fails-by _ (subslice_checks b buf m bytes start n) refl;
      gather = λ b buf bytes start n idxs. fails-by _ (gather_checks b buf bytes start n idxs) refl;
      freeze = λ b size. fails-by _ (freeze_checks b size) refl;
      zeroed = λ n size. fails-by _ (zeroed_checks n size) refl;
      mask = λ m bytes. fails-by _ (mask_checks m bytes) refl;
      slice = λ m bytes offset n. fails-by _ (slice_checks m bytes offset n) refl;
      never_seven = seven_never;
      pair = λ a a_bytes b b_bytes size. fails-by _ (pair_checks a a_bytes b b_bytes size) refl;
      invert = λ m bytes size. fails-by _ (not_checks m bytes size) refl;
      select = λ s s_bytes t t_bytes f f_bytes size. fails-by _ (select_checks s s_bytes t t_bytes f f_bytes size) refl;
      eq = λ a a_bytes b b_bytes. fails-by _ (mask_checks a a_bytes ++ mask_checks b b_bytes) refl;
      common = λ a a_bytes b b_bytes. fails-by _ (common_checks a a_bytes b b_bytes) refl;
      and_not_at = λ a a_bytes b b_bytes i. fails-by _ (and_not_at_checks (Some a) a_bytes (Some b) b_bytes i) refl;
      and-not-at-first = λ a a_bytes b_bytes i. fails-by _ (and_not_at_checks (Some a) a_bytes None b_bytes i) refl;
      and-not-at-second = λ a_bytes b b_bytes i. fails-by _ (and_not_at_checks None a_bytes (Some b) b_bytes i) refl;
      and-not-at-none = λ a_bytes b_bytes i. fails-by _ (and_not_at_checks None a_bytes None b_bytes i) refl;
      next_and_not = λ a a_bytes b b_bytes from. fails-by _ (next_checks a a_bytes (Some b) b_bytes from) refl;
      next-and-not-alone = λ a a_bytes b_bytes from. fails-by _ (next_checks a a_bytes None b_bytes from) refl;
      superseding = λ a a_bytes b b_bytes. fails-by _ (superseding_checks a a_bytes b b_bytes) refl;
      chunks = λ c bytes. fails-by _ (chunk_checks c bytes) refl;
      runs = λ c bytes. fails-by _ (run_checks c bytes) refl;
      iter = λ c bytes. fails-by _ (iter_checks c bytes) refl;
      true-new = λ n m bytes. fails-by _ (new_true_checks n (Some m) bytes) refl;
      true-new_unmasked = λ n bytes. fails-by _ (new_true_checks n None bytes) refl;
      true-next = λ start n place size. fails-by _ (true_checks (true_at start n place true) size) refl;
      true-next_unmasked = λ start n place size. fails-by _ (true_checks (true_at start n place false) size) refl;
    }

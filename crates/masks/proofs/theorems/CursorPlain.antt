-- Where a call leaves its cursor: the statements of `proofs/statements/CursorPlain.antt`.
use Rattle.std.specs.Prelude.{Option, Some, None}
use mathlib.Core.Path.{◌≡◌, refl, sym, ap, ◌∙◌, subst}
use mathlib.Core.Bool.{Bool, true, false, cond, not}
use mathlib.Core.List.{List, [], ◌∷◌, ◌++◌}
use Prim.Native.Nat.{ℕ, suc, ◌+◌, ◌-◌, ◌/◌, ◌≤◌, ◌<◌}
use native.Mathlib.Omega.{arith}
use lib.Dec.{leb, ltb}
use lib.ListN.{length, get_or, take, drop, length-take, length-drop}
use lib.Seq.{get_or-drop}
use borrow.Author.Tests.{leb-true, ltb-true, ltb-false}
use Rattle.words.specs.Ends.{leading}
use Rattle.words.specs.Flags.{flag_at, flags_of}
use Rattle.words.specs.Loops.{stretch}
use Rattle.words.proofs.ends.EndLaws.{leading_le}
use Rattle.words.proofs.theorems.Plain.{at-stretch}
use Rattle.words.proofs.flags.Windows.{length-window}
use Rattle.masks.specs.equations.Answer.{given, unless_empty}
use Rattle.masks.specs.Checks.{Check, check, first_failed, span_checks}
use Rattle.masks.specs.Chunks.{chunks_at, chunk_step, chunk_checks, chunk_word}
use Rattle.masks.specs.equations.Chunks.{new_chunks, next_chunk}
use Rattle.masks.specs.Cursor.{item, ended, cursor_checks}
use Rattle.masks.proofs.statements.CursorPlain.{NewPlaces, ChunkPlaces, FlagPlaces, RunPlaces, OnePlaces, CursorsPlainly}
use Rattle.masks.specs.Iterator.{first_iter, flag_step, iter_at, iter_checks, iter_flags, leading_from, moved_to}
use Rattle.masks.specs.equations.Iterator.{new_iter, nth_flag, take_leading}
use Rattle.masks.specs.Mask.{mask_checks}
use Rattle.masks.specs.Positions.{left_of, place_after}
use Rattle.masks.specs.equations.Positions.{next_positions}
use Rattle.masks.specs.Search.{nth_from}
use Rattle.masks.specs.SliceIterator.{slices_at, slices_moved, run_of, run_checks, run_start, slice_step}
use Rattle.masks.specs.equations.SliceIterator.{new_slices, next_slice}
use Rattle.masks.specs.TrueIdx.{true_at, true_moved, new_true_checks, first_true, true_flags, true_checks, true_step}
use Rattle.masks.specs.equations.TrueIdx.{new_true, next_true}
use Rattle.masks.specs.declared.chunks.BitChunks.{BitChunks}
use Rattle.masks.specs.declared.iterator.BitmapIter.{BitmapIter}
use Rattle.masks.specs.declared.slice_iterator.Run.{Run}
use Rattle.masks.specs.declared.slice_iterator.SlicesIterator.{SlicesIterator}
use Rattle.masks.specs.declared.true_idx.TrueIdxIter.{TrueIdxIter}
use Rattle.masks.proofs.refusal.AnswerLaws.{given-number, given-value}
use Rattle.masks.proofs.iterator.IteratorLaws.{first-some}
use Rattle.masks.proofs.checks.CheckLaws.{both_right, check-allowed}
use Rattle.masks.proofs.true_idx.PositionLaws.{after-few, after-many, after-none}
use Rattle.masks.proofs.theorems.RunsPlain.{leading-in}

-- ---- a step that is chosen by a test

item-chosen : {C A : Type 0} (t : Bool) (a x : A) (c d e : C) → item a d ≡ cond t (item x c) (ended e) → (t ≡ true) × ((a ≡ x) × (d ≡ c))
item-chosen true a x c d e h = (refl, (cc, cc))
item-chosen false a x c d e h = absurd (let z : ◌≡◌ {A = ℕ} 0 1 = cc in omega arith)

end-chosen : {C A : Type 0} (t : Bool) (x : A) (c d e : C) → ended d ≡ cond t (item x c) (ended e) → (t ≡ false) × (d ≡ e)
end-chosen true x c d e h = absurd (let z : ◌≡◌ {A = ℕ} 0 1 = cc in omega arith)
end-chosen false x c d e h = (refl, cc)

-- ---- new cursors

new-places : NewPlaces
unfolding new_chunks new_iter new_slices new_true first_true unless_empty
new-places = record {
  chunks = λ bytes start n c e. given-value (first_failed (span_checks start n (length bytes))) tt c (chunks_at start n 0) e;
  flags-none = λ bytes start c e. cc;
  flags = λ bytes start n c e.
      given-value (first_failed (span_checks start (suc n) (length bytes))) tt c (first_iter start (suc n)) e
      ∙ first-some (iter_at 0 0 0) (iter_at start (suc n) 0) n;
  runs = λ m bytes c e. given-value (first_failed (mask_checks m bytes)) tt c (slices_at m.start m.length 0) e;
  ones = λ n m bytes c e. given-value (first_failed (new_true_checks n (Some m) bytes)) tt c (true_at m.start n 0 true) e;
  every = λ n bytes c e. given-value (first_failed (new_true_checks n None bytes)) tt c (true_at 0 n 0 false) e;
}

-- ---- the calls over each

chunk-places : (c : BitChunks) (bytes : List ℕ) (d : BitChunks) → ChunkPlaces c bytes d
unfolding next_chunk chunk_step
chunk-places c bytes d =
    let next : BitChunks = chunks_at c.start c.length (c.place + 1) in
    let word : ℕ = chunk_word bytes c.start c.length c.place in
    let t : Bool = ltb c.place (c.length / 64) in
    let number : ℕ = first_failed (chunk_checks c bytes) in
    record {
      moved = λ w e.
          let r = item-chosen t w word next d c (given-value number c (item w d) (chunk_step bytes c) e) in
          (ltb-true c.place (c.length / 64) r.0, r.1.1);
      stays = λ e.
          let r = end-chosen t word next d c (given-value number c (ended d) (chunk_step bytes c) e) in
          (ltb-false c.place (c.length / 64) r.0, r.1);
    }

-- the flag after the leading flags of a list that equal x is not x
then-other : (x : Bool) (l : List Bool) → leading x l < length l → get_or l (leading x l) false ≡ not x
unfolding leading
then-other x [] h = absurd (omega arith)
then-other true (true ∷ l) h = then-other true l (omega arith)
then-other true (false ∷ l) h = refl
then-other false (true ∷ l) h = refl
then-other false (false ∷ l) h = then-other false l (omega arith)

-- the flags of a span, starting at a place
abbrev rest_of : List ℕ → ℕ → ℕ → ℕ → List Bool
rest_of bytes start n place = drop place (stretch bytes start n)

-- the flags, starting at `place`, that `take_leading` takes
module _ (x : Bool) (bytes : List ℕ) (start n place : ℕ) where
  rest-long : length (rest_of bytes start n place) ≡ n - place
  rest-long = length-drop place (stretch bytes start n) ∙ ap (λ (m : ℕ). m - place) (length-window (flags_of bytes) start n)

  rest_at : (j : ℕ) → place + j < n → get_or (rest_of bytes start n place) j false ≡ flag_at bytes (start + (place + j))
  rest_at j h = get_or-drop place (stretch bytes start n) j false ∙ at-stretch bytes start n (place + j) h

  taken-alike : (j : ℕ) → j < leading x (rest_of bytes start n place) → flag_at bytes (start + (place + j)) ≡ x
  taken-alike j h =
      sym (rest_at j (omega (arith, leading_le x (rest_of bytes start n place), rest-long)))
      ∙ leading-in x (rest_of bytes start n place) j h

  taken-stops : place + leading x (rest_of bytes start n place) < n
      → flag_at bytes (start + (place + leading x (rest_of bytes start n place))) ≡ not x
  taken-stops h =
      sym (rest_at (leading x (rest_of bytes start n place)) h) ∙ then-other x (rest_of bytes start n place) (omega (arith, rest-long))

  taken-inside : place ≤ n → place + leading x (rest_of bytes start n place) ≤ n
  taken-inside h = omega (arith, leading_le x (rest_of bytes start n place), rest-long)

-- the number that `take_leading` returns
taken-number : (x : Bool) (c : BitmapIter) (bytes : List ℕ) (k : ℕ) (d : BitmapIter) → given (k, d) ≡ take_leading x c bytes
    → k ≡ leading x (rest_of bytes c.start c.length c.place)
unfolding take_leading leading_from
taken-number x c bytes k d e =
    let many : ℕ = leading_from x (iter_flags c bytes) c.place in
    ap (λ (p : ℕ × BitmapIter). p.0) (given-value (first_failed (iter_checks c bytes)) c (k, d) (many, moved_to c (c.place + many)) e)

place_inside : (x : Bool) (c : BitmapIter) (bytes : List ℕ) (k : ℕ) (d : BitmapIter) → given (k, d) ≡ take_leading x c bytes
    → c.place ≤ c.length
unfolding take_leading cursor_checks
place_inside x c bytes k d e =
    let many : ℕ = leading_from x (iter_flags c bytes) c.place in
    let six : List Check = check 6 (leb c.place c.length) ∷ [] in
    let span : List Check = span_checks c.start c.length (length bytes) in
    leb-true c.place c.length
    (check-allowed 5 (leb c.place c.length)
    (both_right span six (sym (given-number (first_failed (span ++ six)) c (k, d) (many, moved_to c (c.place + many)) e))))

flag-places : (c : BitmapIter) (bytes : List ℕ) (d : BitmapIter) → FlagPlaces c bytes d
unfolding nth_flag flag_step take_leading
flag-places c bytes d =
    let number : ℕ = first_failed (iter_checks c bytes) in
    let flag : ℕ → Bool = λ k. get_or (iter_flags c bytes) (c.place + k) false in
    record {
      moved = λ k x e.
          let r = item-chosen (ltb (c.place + k) c.length) x (flag k) (moved_to c (c.place + k + 1)) d (moved_to c c.length)
          (given-value number c (item x d) (flag_step bytes c k) e) in
          let h : c.place + k < c.length = ltb-true (c.place + k) c.length r.0 in
          (h, (r.1.0 ∙ at-stretch bytes c.start c.length (c.place + k) h, r.1.1));
      at-end = λ k e.
          let r = end-chosen (ltb (c.place + k) c.length) (flag k) (moved_to c (c.place + k + 1)) d (moved_to c c.length)
          (given-value number c (ended d) (flag_step bytes c k) e) in
          (ltb-false (c.place + k) c.length r.0, r.1);
      taken = λ x k e.
          let many : ℕ = leading_from x (iter_flags c bytes) c.place in
          let r : ◌≡◌ {A = ℕ × BitmapIter} (k, d) (many, moved_to c (c.place + many)) =
          given-value number c (k, d) (many, moved_to c (c.place + many)) e in
          ap (λ (p : ℕ × BitmapIter). p.1) r ∙ ap (λ (p : ℕ × BitmapIter). moved_to c (c.place + p.0)) (sym r);
      inside = λ x k e.
          subst (λ (m : ℕ). c.place + m ≤ c.length) (sym (taken-number x c bytes k d e))
          (taken-inside x bytes c.start c.length c.place (place_inside x c bytes k d e));
      alike = λ x k j e h.
          taken-alike x bytes c.start c.length c.place j (subst (λ (m : ℕ). j < m) (taken-number x c bytes k d e) h);
      stops = λ x k e h.
          let q = taken-number x c bytes k d e in
          ap (λ (m : ℕ). flag_at bytes (c.start + (c.place + m))) q
          ∙ taken-stops x bytes c.start c.length c.place (subst (λ (m : ℕ). c.place + m < c.length) q h);
    }

run-places : (c : SlicesIterator) (bytes : List ℕ) (d : SlicesIterator) → RunPlaces c bytes d
unfolding next_slice slice_step
run-places c bytes d =
    let l : List Bool = stretch bytes c.start c.length in
    let first : ℕ = run_start l c.place in
    let n : ℕ = leading_from true l first in
    let number : ℕ = first_failed (run_checks c bytes) in
    record {
      moved = λ r e.
          let s = item-chosen (ltb first c.length) r (run_of first n) (slices_moved c (first + n)) d (slices_moved c c.length)
          (given-value number c (item r d) (slice_step c l) e) in
          s.1.1 ∙ ap (λ (x : Run). slices_moved c (x.start + x.length)) (sym s.1.0);
      at-end = λ e.
          (end-chosen (ltb first c.length) (run_of first n) (slices_moved c (first + n)) d (slices_moved c c.length)
          (given-value number c (ended d) (slice_step c l) e)).1;
    }

one-moved : (c d : TrueIdxIter) (p : ℕ) (found : Option ℕ) → item p d ≡ true_step c found → d ≡ true_moved c (p + 1)
unfolding true_step
one-moved c d p None e = absurd (let z : ◌≡◌ {A = ℕ} 0 1 = cc in omega arith)
one-moved c d p (Some q) e = let r : p ≡ q = cc in let s : d ≡ true_moved c (q + 1) = cc in s ∙ ap (λ (x : ℕ). true_moved c (x + 1)) (sym r)

one_ended : (c d : TrueIdxIter) (found : Option ℕ) → ended d ≡ true_step c found → d ≡ true_moved c c.length
unfolding true_step
one_ended c d None e = cc
one_ended c d (Some q) e = absurd (let z : ◌≡◌ {A = ℕ} 0 1 = cc in omega arith)

-- the number of positions that `next_chunk` writes, and the cursor after it
positions-given : (c : TrueIdxIter) (bytes : List ℕ) (room n : ℕ) (d : TrueIdxIter) → given (n, d) ≡ next_positions c bytes room
    → (n ≡ length (take room (left_of c bytes))) × (d ≡ true_moved c (place_after c (left_of c bytes) room))
unfolding next_positions
positions-given c bytes room n d e =
    let many : ℕ = length (take room (left_of c bytes)) in
    let next : TrueIdxIter = true_moved c (place_after c (left_of c bytes) room) in
    let r : ◌≡◌ {A = ℕ × TrueIdxIter} (n, d) (many, next) =
    given-value (first_failed (true_checks c (length bytes))) c (n, d) (many, next) e in
    (ap (λ (p : ℕ × TrueIdxIter). p.0) r, ap (λ (p : ℕ × TrueIdxIter). p.1) r)

one-places : (c : TrueIdxIter) (bytes : List ℕ) (d : TrueIdxIter) → OnePlaces c bytes d
unfolding next_true
one-places c bytes d =
    let number : ℕ = first_failed (true_checks c (length bytes)) in
    let found : Option ℕ = nth_from (true_flags c bytes) 0 c.place in
    let left : List ℕ = left_of c bytes in
    record {
      moved = λ p e. one-moved c d p found (given-value number c (item p d) (true_step c found) e);
      at-end = λ e. one_ended c d found (given-value number c (ended d) (true_step c found) e);
      none-asked = λ n e.
          let r = positions-given c bytes 0 n d e in
          (r.0, r.1 ∙ ap (true_moved c) (after-none c left));
      all-given = λ n k e h.
          let r = positions-given c bytes (suc k) n d e in
          let many : length (take (suc k) left) ≡ suc k = length-take (suc k) left ∙ omega arith in
          (r.0 ∙ many, r.1 ∙ ap (true_moved c) (after-many c left k h));
      fewer = λ n k e h.
          let r = positions-given c bytes (suc k) n d e in
          let many : length (take (suc k) left) ≡ length left = length-take (suc k) left ∙ omega arith in
          (r.0 ∙ many, r.1 ∙ ap (true_moved c) (after-few c left k h));
    }

pub cursors_plainly : CursorsPlainly
cursors_plainly = record { new = new-places; chunks = chunk-places; flags = flag-places; runs = run-places; ones = one-places }

-- The answers of a cursor over runs of ones, and the search for the first run, byte by byte and bit by bit. For `SlicesIterator`.
use Rattle.std.proofs.lemmas.Bool.{cases_lt, and_parts}
use mathlib.Core.Path.{◌≡◌, refl, sym, ap, ap₂, subst, ◌∙◌}
use mathlib.Core.Bool.{Bool, true, false, ◌&&◌}
use mathlib.Core.List.{List, [], ◌∷◌}
use mathlib.Core.Logic.{⊎_elim}
use Prim.Native.Nat.{ℕ, zero, suc, ◌+◌, ◌-◌, ◌*◌, ◌/◌, ◌%◌, ◌^◌, ◌≤◌, ◌<◌}
use native.Mathlib.Omega.{arith}
use lib.Dec.{eqb, leb}
use lib.ListN.{length, drop, get_or, length-drop}
use lib.Seq.{drop-drop}
use borrow.Author.Tests.{lt-ltb, le-ltb, eqb-true, leb-true}
use Rattle.words.specs.Ends.{leading}
use Rattle.words.specs.Flags.{is_one, bit_at, bits, flags_of, window}
use Rattle.words.specs.Loops.{stretch}
use Rattle.words.proofs.flags.Bits.{length-bits}
use Rattle.words.proofs.ends.EndLaws.{leading_le}
use Rattle.words.proofs.theorems.Plain.{at_bits, at-flags}
use Rattle.words.proofs.flags.Windows.{length-window, in_window, as-window}
use Rattle.masks.specs.Cursor.{item, ended}
use Rattle.masks.specs.Iterator.{leading_from}
use Rattle.masks.specs.SliceIterator.{slices_moved, run_of, run_start, slice_step}
use Rattle.masks.specs.Workers.{first_run}
use Rattle.masks.specs.declared.slice_iterator.Run.{Run}
use Rattle.masks.specs.declared.slice_iterator.SlicesIterator.{SlicesIterator}
use Rattle.masks.proofs.iterator.IteratorLaws.{Alike, alike-none, alike-done, at-end, some_alike, every-alike}

-- ---- the two answers of a cursor

-- after its leading zeros a list has a one, or ends
none_left : (m : List Bool) → leading false (drop (leading false m) m) ≡ 0
unfolding leading
none_left [] = refl
none_left (true ∷ m) = refl
none_left (false ∷ m) = none_left m

some-flag : (m : List Bool) → leading true m ≡ 0 → leading false m ≡ 0 → length m ≡ 0
unfolding leading
some-flag [] h k = refl
some-flag (true ∷ m) h k = absurd (omega arith)
some-flag (false ∷ m) h k = absurd (omega arith)

no-more-zeros : (l : List Bool) (at : ℕ) → leading_from false l (at + leading_from false l at) ≡ 0
unfolding leading_from
no-more-zeros l at = ap (leading false) (sym (drop-drop (leading false (drop at l)) at l)) ∙ none_left (drop at l)

-- after the leading zeros a run is empty exactly at the end of the list
run-empty : (l : List Bool) (at : ℕ) → leading_from true l at ≡ 0 → leading_from false l at ≡ 0 → length l ≤ at
unfolding leading_from
run-empty l at none z = omega (arith, some-flag (drop at l) none z, length-drop at l)

run-some : (l : List Bool) (at : ℕ) → (leading_from true l at ≡ 0 → ⊥) → at < length l
unfolding leading_from
run-some l at some =
    let n : (leading true (drop at l) ≡ 0 → ⊥) = some in
    omega (arith, n, leading_le true (drop at l), length-drop at l)

-- the first run after the z leading zeros is the first run
module _ (c : SlicesIterator) (l : List Bool) (z : ℕ) (r : Run) (long : length l ≡ c.length) (zeros : z ≡ leading_from false l c.place)
    (e : r ≡ first_run l (c.place + z)) where
  after : r ≡ first_run l c.place
  unfolding first_run run_start
  after =
      let first = c.place + leading_from false l c.place in
      let s : first + leading_from false l first ≡ first = omega (arith, no-more-zeros l c.place) in
      e ∙ ap (λ (x : ℕ). first_run l (c.place + x)) zeros ∙ ap (λ (x : ℕ). run_of x (leading_from true l x)) s

  run_length : r.length ≡ leading_from true l (c.place + leading_from false l c.place)
  unfolding first_run run_start
  run_length = ap (λ (y : Run). y.length) after

  pub a-run : (r.length ≡ 0 → ⊥) → item r (slices_moved c (r.start + r.length)) ≡ slice_step c l
  unfolding slice_step run_start first_run
  a-run some =
      let first = c.place + leading_from false l c.place in
      let h : first < c.length = omega (arith, long, run-some l first (λ none. some (run_length ∙ none))) in
      ap (λ (y : Run). item y (slices_moved c (y.start + y.length))) after ∙ rw (lt-ltb first c.length h)

  pub no_run : r.length ≡ 0 → ended (slices_moved c c.length) ≡ slice_step c l
  unfolding slice_step run_start
  no_run none =
      let first = c.place + leading_from false l c.place in
      let h : c.length ≤ first = omega (arith, long, run-empty l first (sym run_length ∙ none) (no-more-zeros l c.place)) in
      rw (le-ltb first c.length h)

-- the run lies in the list
pub run_inside : (l : List Bool) (size place : ℕ) (r : Run) → length l ≡ size → place ≤ size → r ≡ first_run l place
    → r.start + r.length ≤ size
unfolding first_run run_start leading_from
run_inside l size place r long h e =
    let first = place + leading false (drop place l) in
    let s : r.start ≡ first = ap (λ (y : Run). y.start) e in
    let n : r.length ≡ leading true (drop first l) = ap (λ (y : Run). y.length) e in
    omega (arith, leading_le false (drop place l), length-drop place l, leading_le true (drop first l), length-drop first l)

-- ---- the first run

-- a byte of ones, whose first flag is the flag j
whole-byte : (bytes : List ℕ) (j : ℕ) → j % 8 ≡ 0 → get_or bytes (j / 8) 0 ≡ 255 → window (flags_of bytes) j 8 ≡ bits 8 255
whole-byte bytes j h e = sym (as-window (bits 8 255) (flags_of bytes) j 8 (length-bits 8 255) each)
  where
    each : (k : ℕ) → k < 8 → get_or (bits 8 255) k false ≡ get_or (flags_of bytes) (j + k) false
    each k b =
        let q : (j + k) / 8 ≡ j / 8 = omega arith in
        let m : k ≡ (j + k) % 8 = omega arith in
        at_bits 8 255 k b ∙ ap₂ bit_at (sym e ∙ ap (λ (i : ℕ). get_or bytes i 0) (sym q)) m ∙ sym (at-flags bytes (j + k))

eight_ones : leading true (bits 8 255) ≡ 8
unfolding leading bits
eight_ones = refl

-- one flag
flag-window : (l : List Bool) (k : ℕ) → window l k 1 ≡ get_or l k false ∷ []
unfolding window
flag-window l k = refl

-- bit `bit` of byte i
bit-flag : (bytes : List ℕ) (j i bit byte : ℕ) → j ≡ 8 * i + bit → bit < 8 → byte ≡ get_or bytes i 0
    → get_or (flags_of bytes) j false ≡ is_one (byte / 2 ^ bit % 2)
bit-flag bytes j i bit byte e h f =
    let q : j / 8 ≡ i = omega arith in
    let m : j % 8 ≡ bit = omega arith in
    at-flags bytes j ∙ ap₂ bit_at (ap (λ (x : ℕ). get_or bytes x 0) q ∙ sym f) m

a-zero : (x : ℕ) → x ≡ 0 → 1 ≡ leading false (is_one x ∷ [])
unfolding leading
a-zero zero h = refl
a-zero (suc x) h = absurd (omega arith)

no_one : (x : ℕ) → x ≡ 0 → 0 ≡ leading true (is_one x ∷ [])
unfolding leading
no_one zero h = refl
no_one (suc x) h = absurd (omega arith)

a_one : (x : ℕ) → (x ≡ 0 → ⊥) → 1 ≡ leading true (is_one x ∷ [])
unfolding leading
a_one zero h = absurd (h refl)
a_one (suc x) h = refl

-- a list that begins with a one has no leading zero
no_zero : (m : List Bool) → 0 < leading true m → leading false m ≡ 0
unfolding leading
no_zero [] h = refl
no_zero (true ∷ m) h = refl
no_zero (false ∷ m) h = absurd (omega arith)

one-first : (l : List Bool) (at : ℕ) → 0 < leading_from true l at → leading_from false l at ≡ 0
unfolding leading_from
one-first l at h = no_zero (drop at l) h

-- the loop began at `place` and is at `at`: the flags from `place` to `first` are zeros, those from there to `at` are ones
pub record Walking (l : List Bool) (size place first at : ℕ) : Type 0 where
  pub zeros : Alike l false size place first
  pub ones : Alike l true size first at

-- the run that begins at `first`, after zeros only and with no zero there, is the first run at or after `place`
run-here : (l : List Bool) (size place first n : ℕ) → Alike l false size place first → leading_from false l first ≡ 0
    → n ≡ leading_from true l first
    → run_of first n ≡ first_run l place
unfolding first_run run_start
run-here l size place first n a none e =
    let s : first ≡ place + leading_from false l place = omega (arith, a.sum) in
    ap (run_of first) e ∙ ap (λ (x : ℕ). run_of x (leading_from true l x)) s

module _ (bytes : List ℕ) (start size place first at : ℕ) (w : Walking (stretch bytes start size) size place first at) where
  in_span : (x : Bool) (k r : ℕ) → at + k ≤ size → r ≡ leading x (window (flags_of bytes) (start + at) k)
      → r ≡ leading x (window (stretch bytes start size) at k)
  in_span x k r h e = e ∙ ap (leading x) (sym (in_window (flags_of bytes) start size at k h))

  fits : (k : ℕ) → at + k ≤ size → at + k ≤ length (stretch bytes start size)
  fits k h = omega (arith, length-window (flags_of bytes) start size)

  -- the next k flags are all x
  alike-on : (x : Bool) (from k : ℕ) → Alike (stretch bytes start size) x size from at → at + k ≤ size
      → k ≡ leading x (window (flags_of bytes) (start + at) k) → Alike (stretch bytes start size) x size from (at + k)
  alike-on x from k a h e = record {
    low = omega (arith, a.low);
    inside = h;
    sum = omega (arith, a.sum, every-alike (stretch bytes start size) x at k k (fits k h) (in_span x k k h e) (omega arith));
  }

  ones-on : (k : ℕ) → at + k ≤ size → k ≡ leading true (window (flags_of bytes) (start + at) k)
      → Walking (stretch bytes start size) size place first (at + k)
  ones-on k h e = record { zeros = w.zeros; ones = alike-on true first k w.ones h e }

  -- once the span's end is reached, no zero lies at `first`: ones follow it, or no flag
  ended-first : size ≤ at → leading_from false (stretch bytes start size) first ≡ 0
  ended-first h = ⊎_elim
      (λ (some : first < at). one-first (stretch bytes start size) first (omega (arith, w.ones.sum)))
      (λ (none : at ≤ first). at-end (stretch bytes start size) false first (omega (arith, length-window (flags_of bytes) start size)))
      (cases_lt first at)

  pub walk_end : size ≤ at → run_of first (at - first) ≡ first_run (stretch bytes start size) place
  walk_end h =
      run-here (stretch bytes start size) size place first (at - first) w.zeros (ended-first h)
      (alike-done (flags_of bytes) true start size first at w.ones h)

  pub walk-byte : (t : Bool) (byte : ℕ) → t ≡ (eqb ((start + at) % 8) 0 && (eqb byte 255 && leb 8 (size - at))) → t ≡ true
      → byte ≡ get_or bytes ((start + at) / 8) 0 → Walking (stretch bytes start size) size place first (at + 8)
  walk-byte t byte e h f =
      let whole : eqb ((start + at) % 8) 0 ≡ true = (and_parts _ _ (sym e ∙ h)).0 in
      let rest : (eqb byte 255 && leb 8 (size - at)) ≡ true = (and_parts _ _ (sym e ∙ h)).1 in
      let full : get_or bytes ((start + at) / 8) 0 ≡ 255 = sym f ∙ eqb-true byte 255 (and_parts _ _ rest).0 in
      let room : 8 ≤ size - at = leb-true 8 (size - at) (and_parts _ _ rest).1 in
      ones-on 8 (omega arith)
      (sym (ap (leading true) (whole-byte bytes (start + at) (eqb-true ((start + at) % 8) 0 whole) full) ∙ eight_ones))

  -- the flag at `at` is bit `bit` of byte i
  module _ (i bit byte : ℕ) (before : at < size) (there : start + at ≡ 8 * i + bit) (in-byte : bit < 8)
      (read : byte ≡ get_or bytes i 0) where
    one-flag : (x : Bool) → leading x (window (flags_of bytes) (start + at) 1) ≡ leading x (is_one (byte / 2 ^ bit % 2) ∷ [])
    one-flag x =
        ap (leading x) (flag-window (flags_of bytes) (start + at)
        ∙ ap (λ (y : Bool). y ∷ []) (bit-flag bytes (start + at) i bit byte there in-byte read))

    -- a zero after ones ends the run
    pub walk-stop : byte / 2 ^ bit % 2 ≡ 0 → 0 < at - first → run_of first (at - first) ≡ first_run (stretch bytes start size) place
    walk-stop z some =
        let l = stretch bytes start size in
        let one : at + 1 ≤ size = omega arith in
        let none : 0 ≡ leading true (window (flags_of bytes) (start + at) 1) = no_one (byte / 2 ^ bit % 2) z ∙ sym (one-flag true) in
        let e : leading_from true l at ≡ 0 = some_alike l true at 1 0 (fits 1 one) (in_span true 1 0 one none) (omega arith) in
        let n : at - first ≡ leading_from true l first = omega (arith, w.ones.low, w.ones.sum) in
        run-here l size place first (at - first) w.zeros (one-first l first (omega arith)) n

    -- a zero before the run is passed over
    pub walk-zero : byte / 2 ^ bit % 2 ≡ 0 → at - first ≤ 0 → Walking (stretch bytes start size) size place (at + 1) (at + 1)
    walk-zero z none =
        let l = stretch bytes start size in
        let here : first ≡ at = omega (arith, w.ones.low) in
        let so_far : Alike l false size place at = subst (Alike l false size place) here w.zeros in
        record {
          zeros = alike-on false place 1 so_far (omega arith) (a-zero (byte / 2 ^ bit % 2) z ∙ sym (one-flag false));
          ones = alike-none l true size (at + 1) (omega arith);
        }

    pub walk-one : (byte / 2 ^ bit % 2 ≡ 0 → ⊥) → Walking (stretch bytes start size) size place first (at + 1)
    walk-one z = ones-on 1 (omega arith) (a_one (byte / 2 ^ bit % 2) z ∙ sym (one-flag true))

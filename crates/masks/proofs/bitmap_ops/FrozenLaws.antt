-- Lists of flags as bytes: their flags and their size; a write that is known by its flags is known by its bytes.
use mathlib.Core.Path.{◌≡◌, refl, sym, ap, ap₂, ◌∙◌, subst}
use mathlib.Core.Bool.{Bool}
use mathlib.Core.List.{List, [], ◌∷◌, ◌++◌}
use Prim.Native.Nat.{ℕ, zero, suc, ◌+◌, ◌*◌, ◌^◌, ◌≤◌, ◌<◌}
use native.Mathlib.Nat.{zero-lt-suc, zero-add, suc-add}
use native.Mathlib.Omega.{arith}
use lib.ListN.{length, take, drop, get_or, length-append, take-append-drop}
use lib.Seq.{drop-drop}
use Rattle.words.specs.Flags.{flags_of, over, over_at, window, word_of}
use Rattle.words.proofs.flags.Bits.{word_of_lt}
use Rattle.words.proofs.flags.Bytes.{flags-append, flags-take, flags-drop, flags-over, flags-inj}
use Rattle.words.proofs.flags.Windows.{length-window, window-add, window-drop, in_window, bits-window, length_over, over_none, over-more}
use Rattle.masks.specs.Frozen.{packed, over_from}

-- lists of numbers below 256, as every lent list is
abbrev pub Small : List ℕ → Type 0
Small l = (k : ℕ) → get_or l k 0 < 256

-- ---- packed flags

pub length-packed : (n : ℕ) (l : List Bool) → length (packed n l) ≡ n
unfolding packed
length-packed zero l = refl
length-packed (suc n) l = ap suc (length-packed n (drop 8 l))

pub flags-packed : (n : ℕ) (l : List Bool) → flags_of (packed n l) ≡ window l 0 (8 * n)
unfolding packed flags_of window
flags-packed zero l = refl
flags-packed (suc n) l =
    let e : 8 + 8 * n ≡ 8 * suc n = omega arith in
    ap₂ (λ (x y : List Bool). x ++ y)
    (bits-window 8 (window l 0 8) ∙ in_window l 0 8 0 8 (omega arith))
    (flags-packed n (drop 8 l) ∙ window-drop l 8 0 (8 * n))
    ∙ sym (window-add l 0 8 (8 * n)) ∙ ap (window l 0) e

pub packed-small : (n : ℕ) (l : List Bool) → Small (packed n l)
unfolding packed
packed-small zero l k = zero-lt-suc 255
packed-small (suc n) l zero = subst (λ (d : ℕ). word_of (window l 0 8) < 2 ^ d) (length-window l 0 8) (word_of_lt (window l 0 8))
packed-small (suc n) l (suc k) = packed-small n (drop 8 l) k

-- ---- bytes written over others

over-small : (l m : List ℕ) → Small l → Small m → Small (over l m)
unfolding over
over-small [] m p q k = zero-lt-suc 255
over-small (x ∷ l) [] p q k = p k
over-small (x ∷ l) (y ∷ m) p q zero = q 0
over-small (x ∷ l) (y ∷ m) p q (suc k) = over-small l m (λ j. p (suc j)) (λ j. q (suc j)) k

pub over_from-small : (l : List ℕ) (at : ℕ) (m : List ℕ) → Small l → Small m → Small (over_from l at m)
unfolding over_from
over_from-small l zero m p q k = over-small l m p q k
over_from-small [] (suc at) m p q k = over-small [] m p q k
over_from-small (x ∷ l) (suc at) m p q zero = p 0
over_from-small (x ∷ l) (suc at) m p q (suc k) = over_from-small l at m (λ j. p (suc j)) q k

pub over_from-none : (l : List ℕ) (at : ℕ) → over_from l at [] ≡ l
unfolding over_from
over_from-none l at = ap (λ (t : List ℕ). take at l ++ t) (over_none (drop at l)) ∙ take-append-drop at l

-- writing a and then m after it is writing both
pub over_from-more : (l : List ℕ) (at : ℕ) (a m : List ℕ) → over_from (over_from l at a) (at + length a) m ≡ over_from l at (a ++ m)
unfolding over_from over
over_from-more l zero a m = ap (λ (n : ℕ). take n (over l a) ++ over (drop n (over l a)) m) (zero-add (length a)) ∙ over-more l a m
over_from-more [] (suc at) a m = ap (λ (n : ℕ). take n [] ++ over (drop n []) m) (suc-add at (length a))
over_from-more (x ∷ l) (suc at) a m =
    ap (λ (n : ℕ). take n (x ∷ over_from l at a) ++ over (drop n (x ∷ over_from l at a)) m) (suc-add at (length a))
    ∙ ap (λ (t : List ℕ). x ∷ t) (over_from-more l at a m)

pub length-over_from : (l : List ℕ) (at : ℕ) (m : List ℕ) → length (over_from l at m) ≡ length l
unfolding over_from
length-over_from l at m =
    length-append (take at l) (over (drop at l) m) ∙ ap (λ (n : ℕ). length (take at l) + n) (length_over (drop at l) m)
    ∙ sym (length-append (take at l) (drop at l)) ∙ ap length (take-append-drop at l)

pub flags-over_from : (l : List ℕ) (at : ℕ) (m : List ℕ) → flags_of (over_from l at m) ≡ over_at (flags_of l) (8 * at) (flags_of m)
unfolding over_from over_at
flags-over_from l at m =
    flags-append (take at l) (over (drop at l) m)
    ∙ ap₂ (λ (x y : List Bool). x ++ y) (flags-take at l)
    (flags-over (drop at l) m ∙ ap (λ (t : List Bool). over t (flags_of m)) (flags-drop at l))

-- if the flags of an output are n bytes of m over the old flags, starting at byte `at`, its bytes are m packed over the old bytes
pub written-bytes : (out out' : List ℕ) (at n : ℕ) (m : List Bool) → Small out → Small out'
    → flags_of out' ≡ over_at (flags_of out) (8 * at) (window m 0 (8 * n))
    → out' ≡ over_from out at (packed n m)
written-bytes out out' at n m p q e =
    flags-inj out' (over_from out at (packed n m)) q (over_from-small out at (packed n m) p (packed-small n m))
    (e ∙ ap (over_at (flags_of out) (8 * at)) (sym (flags-packed n m)) ∙ sym (flags-over_from out at (packed n m)))

-- ---- packed flags in two parts

-- packing n bytes uses only the first 8 * n flags
pub packed-window : (n k : ℕ) (l : List Bool) → 8 * n ≤ k → packed n l ≡ packed n (window l 0 k)
packed-window n k l h =
    flags-inj (packed n l) (packed n (window l 0 k)) (packed-small n l) (packed-small n (window l 0 k))
    (flags-packed n l ∙ sym (in_window l 0 k 0 (8 * n) (omega arith)) ∙ sym (flags-packed n (window l 0 k)))

pub packed-append : (m n : ℕ) (l : List Bool) → packed (m + n) l ≡ packed m l ++ packed n (drop (8 * m) l)
unfolding packed
packed-append zero n l = ap (λ (x : ℕ). packed x l) (zero-add n)
packed-append (suc m) n l =
    let e : 8 + 8 * m ≡ 8 * suc m = omega arith in
    ap (λ (x : ℕ). packed x l) (suc-add m n)
    ∙ ap (λ (t : List ℕ). word_of (window l 0 8) ∷ t)
    (packed-append m n (drop 8 l) ∙ ap (λ (t : List Bool). packed m (drop 8 l) ++ packed n t)
    (drop-drop (8 * m) 8 l ∙ ap (λ (x : ℕ). drop x l) e))

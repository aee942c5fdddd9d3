-- The flags of bytes: joined, cut, written over, and that bytes with the same flags are the same.
use Rattle.std.proofs.Common.{◌≡◌, refl, sym, ap, ap₂, ◌∙◌, Bool, List, [], ◌∷◌, ◌++◌, append_assoc, append-nil, ℕ, zero, suc, ◌+◌, ◌-◌}
use Rattle.std.proofs.Common.{◌*◌, ◌≤◌, ◌<◌, le_of_eq, arith, length, take, drop, get_or, length-append, length-drop, take-append-drop}
use Rattle.std.proofs.Common.{drop_of_length-le, length-take-le, take-suc, take_all}
use Rattle.std.proofs.Math.Seq.{take-append-add, drop-append-add, take-nil, drop-nil, take-append_seam, drop-append_seam}
use Rattle.words.specs.Flags.{bits, flags_of, over, over_at}
use Rattle.words.proofs.flags.Bits.{length-bits, bits-inj}
use Rattle.words.proofs.flags.Windows.{over_none, over-append, over-left}

pub flags-append : (a b : List ℕ) → flags_of (a ++ b) ≡ flags_of a ++ flags_of b
unfolding flags_of
flags-append [] b = refl
flags-append (x ∷ a) b = ap (λ (l : List Bool). bits 8 x ++ l) (flags-append a b) ∙ sym (append_assoc (bits 8 x) (flags_of a) (flags_of b))

pub length-flags : (a : List ℕ) → length (flags_of a) ≡ 8 * length a
unfolding flags_of
length-flags [] = refl
length-flags (x ∷ a) = let ih : length (flags_of a) ≡ 8 * length a = length-flags a in simp (length-append, length-bits, ih) (omega arith)

pub flags-take : (n : ℕ) (a : List ℕ) → flags_of (take n a) ≡ take (8 * n) (flags_of a)
unfolding flags_of
flags-take zero a = refl
flags-take (suc n) [] = sym (take-nil (8 * suc n))
flags-take (suc n) (x ∷ a) =
    let e : 8 * suc n ≡ length (bits 8 x) + 8 * n = rw length-bits (omega arith) in
    rw (e, take-append-add (bits 8 x) (flags_of a) (8 * n)) (ap (λ (l : List Bool). bits 8 x ++ l) (flags-take n a))

pub flags-drop : (n : ℕ) (a : List ℕ) → flags_of (drop n a) ≡ drop (8 * n) (flags_of a)
unfolding flags_of
flags-drop zero a = refl
flags-drop (suc n) [] = sym (drop-nil (8 * suc n))
flags-drop (suc n) (x ∷ a) =
    let e : 8 * suc n ≡ length (bits 8 x) + 8 * n = rw length-bits (omega arith) in
    rw (e, drop-append-add (bits 8 x) (flags_of a) (8 * n)) (flags-drop n a)

pub flags-one : (b : ℕ) → flags_of (b ∷ []) ≡ bits 8 b
unfolding flags_of
flags-one b = append-nil (bits 8 b)

-- one more byte
pub flags-more : (bs : List ℕ) (i : ℕ) → i < length bs → flags_of (take (suc i) bs) ≡ flags_of (take i bs) ++ bits 8 (get_or bs i 0)
flags-more bs i h =
    ap flags_of (take-suc bs i 0 h) ∙ flags-append (take i bs) (get_or bs i 0 ∷ [])
    ∙ ap (λ (l : List Bool). flags_of (take i bs) ++ l) (flags-one (get_or bs i 0))

pub flags-over : (l m : List ℕ) → flags_of (over l m) ≡ over (flags_of l) (flags_of m)
unfolding over flags_of
flags-over [] m = refl
flags-over (x ∷ l) [] = sym (over_none (bits 8 x ++ flags_of l))
flags-over (x ∷ l) (y ∷ m) =
    ap (λ (t : List Bool). bits 8 y ++ t) (flags-over l m)
    ∙ sym (over-append (bits 8 x) (bits 8 y) (flags_of l) (flags_of m) (length-bits 8 x ∙ sym (length-bits 8 y)))

-- bytes with the same flags are the same bytes
pub flags-inj : (a b : List ℕ) → ((k : ℕ) → get_or a k 0 < 256) → ((k : ℕ) → get_or b k 0 < 256) → flags_of a ≡ flags_of b → a ≡ b
unfolding flags_of
flags-inj [] [] p q e = refl
flags-inj [] (y ∷ b) p q e =
    absurd (let z : length (bits 8 y ++ flags_of b)
    ≡ 0 = sym (ap length e) in omega (arith, length-append (bits 8 y) (flags_of b), length-bits 8 y))
flags-inj (x ∷ a) [] p q e =
    absurd (let z : length (bits 8 x ++ flags_of a)
    ≡ 0 = ap length e in omega (arith, length-append (bits 8 x) (flags_of a), length-bits 8 x))
flags-inj (x ∷ a) (y ∷ b) p q e =
    ap₂ (λ (z : ℕ) (t : List ℕ). z ∷ t)
    (bits-inj 8 x y (p 0) (q 0) (front x a ∙ ap (take 8) e ∙ sym (front y b)))
    (flags-inj a b (λ k. p (suc k)) (λ k. q (suc k)) (back x a ∙ ap (drop 8) e ∙ sym (back y b)))
  where
    front : (x : ℕ) (a : List ℕ) → bits 8 x ≡ take 8 (bits 8 x ++ flags_of a)
    front x a = sym (ap (λ (n : ℕ). take n (bits 8 x ++ flags_of a)) (sym (length-bits 8 x)) ∙ take-append_seam (bits 8 x) (flags_of a))

    back : (x : ℕ) (a : List ℕ) → flags_of a ≡ drop 8 (bits 8 x ++ flags_of a)
    back x a = sym (ap (λ (n : ℕ). drop n (bits 8 x ++ flags_of a)) (sym (length-bits 8 x)) ∙ drop-append_seam (bits 8 x) (flags_of a))

-- ---- a part that was lent, written and came back

-- what is written over a part of n bytes is written over the whole
pub over-part : (n : ℕ) (m : List Bool) (out part : List ℕ) → n ≤ length out → length m ≡ 8 * n
    → flags_of part ≡ over (flags_of (take n out)) m → flags_of (part ++ drop n out) ≡ over (flags_of out) m
over-part n m out part h k e =
    flags-append part (drop n out) ∙ ap (λ (x : List Bool). x ++ flags_of (drop n out)) e
    ∙ sym (over-left (flags_of (take n out)) (flags_of (drop n out)) m
    (length-flags (take n out) ∙ ap (λ (x : ℕ). 8 * x) (length-take-le n out h) ∙ sym k))
    ∙ ap (λ (x : List Bool). over x m) (sym (flags-append (take n out) (drop n out)) ∙ ap flags_of (take-append-drop n out))

-- a part that begins at a start, as the borrow checker lends it: `take (length l - a) (drop a l)`
pub mid-from : {A : Type 0} (a : ℕ) (l : List A) → take (length l - a) (drop a l) ≡ drop a l
mid-from a l = take_all (length l - a) (drop a l) (le_of_eq (length-drop a l))

pub post_from : {A : Type 0} (a : ℕ) (l : List A) → drop (length l - a) (drop a l) ≡ []
post_from a l = drop_of_length-le (drop a l) (le_of_eq (length-drop a l))

-- what is written over a part that begins at a start
pub over-from : (out part : List ℕ) (a : ℕ) (m : List Bool) → flags_of part ≡ over (flags_of (take (length out - a) (drop a out))) m
    → flags_of (take a out ++ (part ++ drop (length out - a) (drop a out))) ≡ over_at (flags_of out) (8 * a) m
unfolding over_at
over-from out part a m p =
    ap (λ (l : List ℕ). flags_of (take a out ++ l)) (ap (λ (l : List ℕ). part ++ l) (post_from a out) ∙ append-nil part)
    ∙ flags-append (take a out) part
    ∙ ap₂ (λ (x y : List Bool). x ++ y) (flags-take a out)
    (p ∙ ap (λ (l : List Bool). over l m) (ap flags_of (mid-from a out) ∙ flags-drop a out))

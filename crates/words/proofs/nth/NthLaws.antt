-- Set flag n, in a list cut in two and in a word whose low half is counted.
use Rattle.std.specs.Prelude.{Ok, Err}
use Rattle.std.proofs.Common.{◌≡◌, refl, sym, ap, ap₂, ◌∙◌, subst, Bool, true, false, cond, List, [], ◌∷◌, ◌++◌, ⊎_elim, ℕ, zero, suc}
use Rattle.std.proofs.Common.{◌+◌, ◌-◌, ◌*◌, ◌/◌, ◌%◌, ◌^◌, ◌≤◌, ◌<◌, mod-lt, add-sub_of_le, sub-add_cancel, div-one, arith, ltb, pow_pos}
use Rattle.std.proofs.Common.{length, take, take_all, lt-ltb, le-ltb}
use Rattle.std.specs.Int.Count.{ones}
use Rattle.std.proofs.lemmas.Bool.{cases_lt}
use Rattle.words.specs.Flags.{bits, copies, count}
use Rattle.words.specs.Nth.{nth_one, nth_place}
use Rattle.words.proofs.flags.Bits.{bits-add, bits-mod, bits-shl, bits-take, length-bits}
use Rattle.words.proofs.counts.Counting.{ones-bits, count-append, count-copies}

-- set flag n of two lists in a row
pub nth-low : (a b : List Bool) (n : ℕ) → n < count a → nth_place (a ++ b) n ≡ nth_place a n
unfolding nth_place count
nth-low [] b n h = absurd (omega arith)
nth-low (false ∷ a) b n h = ap suc (nth-low a b n (omega arith))
nth-low (true ∷ a) b zero h = refl
nth-low (true ∷ a) b (suc n) h = ap suc (nth-low a b n (omega arith))

pub nth-high : (a b : List Bool) (n : ℕ) → count a ≤ n → nth_place (a ++ b) n ≡ length a + nth_place b (n - count a)
unfolding nth_place count
nth-high [] b n h = let e : n - 0 ≡ n = omega arith in rw e (omega arith)
nth-high (false ∷ a) b n h = let e : n - (0 + count a) ≡ n - count a = omega arith in rw (e, nth-high a b n (omega arith)) (omega arith)
nth-high (true ∷ a) b zero h = absurd (omega arith)
nth-high (true ∷ a) b (suc n) h =
    let e : suc n - (1 + count a) ≡ n - count a = omega arith in rw (e, nth-high a b n (omega arith)) (omega arith)

pub nth-lt : (l : List Bool) (n : ℕ) → n < count l → nth_place l n < length l
unfolding nth_place count
nth-lt [] n h = absurd (omega arith)
nth-lt (false ∷ a) n h = omega (arith, nth-lt a n (omega arith))
nth-lt (true ∷ a) zero h = omega arith
nth-lt (true ∷ a) (suc n) h = omega (arith, nth-lt a n (omega arith))

-- the low h bits of a word of d, counted in the word shifted left
pub ones_low : (d h w : ℕ) → h ≤ d → ones (w * 2 ^ (d - h) % 2 ^ d) ≡ count (bits h w)
ones_low d h w l =
    sym (ones-bits d (w * 2 ^ (d - h) % 2 ^ d) (mod-lt (w * 2 ^ (d - h)) (pow_pos d)))
    ∙ ap count (bits-mod d (w * 2 ^ (d - h)) ∙ ap (λ (x : ℕ). bits x (w * 2 ^ (d - h))) (sym (sub-add_cancel l)) ∙ bits-shl (d - h) h w)
    ∙ count-append (copies (d - h) false) (bits h w)
    ∙ omega (arith, count-copies (d - h) false)

pub ones-taken : (k w r : ℕ) → k ≤ 64 → r ≡ ones (w * 2 ^ (64 - k) % 2 ^ 64) → r ≡ count (take k (bits 64 w))
ones-taken k w r h e = e ∙ ones_low 64 k w h ∙ ap count (sym (bits-take 64 k w h))

pub ones-whole : (k w r : ℕ) → 64 < k → r ≡ count (bits 64 w) → r ≡ count (take k (bits 64 w))
ones-whole k w r h e = e ∙ ap count (sym (take_all k (bits 64 w) (omega (arith, length-bits 64 w))))

pub ones_none : (k w : ℕ) → k ≡ 0 → 0 ≡ count (take k (bits 64 w))
unfolding count
ones_none k w e = ap (λ (j : ℕ). count (take j (bits 64 w))) (sym e)

cut : (d h w : ℕ) → h ≤ d → bits d w ≡ bits h w ++ bits (d - h) (w / 2 ^ h)
cut d h w l = ap (λ (x : ℕ). bits x w) (sym (add-sub_of_le l)) ∙ bits-add h (d - h) w

pub count_cut : (d h w : ℕ) → h ≤ d → count (bits d w) ≡ count (bits h w) + count (bits (d - h) (w / 2 ^ h))
count_cut d h w l = ap count (cut d h w l) ∙ count-append (bits h w) (bits (d - h) (w / 2 ^ h))

-- k ones are among the low h bits: the place of set flag n, below them and above
pub place-low : (d h w n k r : ℕ) → h ≤ d → k ≡ count (bits h w) → n < k → r ≡ nth_place (bits h w) n → r ≡ nth_place (bits d w) n
place-low d h w n k r l e q p =
    p ∙ sym (ap (λ (x : List Bool). nth_place x n) (cut d h w l) ∙ nth-low (bits h w) (bits (d - h) (w / 2 ^ h)) n (omega arith))

pub place-high : (d h w n k r : ℕ) → h ≤ d → k ≡ count (bits h w) → k ≤ n → r ≡ nth_place (bits (d - h) (w / 2 ^ h)) (n - k)
    → h + r ≡ nth_place (bits d w) n
place-high d h w n k r l e q p =
    ap₂ (λ (x y : ℕ). x + y) (sym (length-bits h w)) (p ∙ ap (λ (x : ℕ). nth_place (bits (d - h) (w / 2 ^ h)) (n - x)) e)
    ∙ sym (ap (λ (x : List Bool). nth_place x n) (cut d h w l) ∙ nth-high (bits h w) (bits (d - h) (w / 2 ^ h)) n (omega arith))

-- the half in which set flag n is, as numbers: s places and o ones are passed over
pub skip-le : (n k x r : ℕ) → r ≡ cond (ltb n k) 0 x → r ≤ x
skip-le n k x r e = go (ltb n k) e
  where
    go : (t : Bool) → r ≡ cond t 0 x → r ≤ x
    go true e = omega arith
    go false e = omega arith

pub skip-ones : (n k r : ℕ) → r ≡ cond (ltb n k) 0 k → r ≤ n
skip-ones n k r e = ⊎_elim
    (λ (h : n < k). let z : r ≡ 0 = rw (lt-ltb n k h) at e in omega arith)
    (λ (h : k ≤ n). let z : r ≡ k = rw (le-ltb n k h) at e in omega arith)
    (cases_lt n k)

module _ (d h w n k s o : ℕ) (l : h ≤ d - h) (e : k ≡ count (bits h w)) (es : s ≡ cond (ltb n k) 0 h) (eo : o ≡ cond (ltb n k) 0 k)
    (inside : n < count (bits d w)) where
  whole : (x : ℕ) → x ≡ 0 → w / 2 ^ x ≡ w
  whole x z = ap (λ (y : ℕ). w / 2 ^ y) z ∙ div-one w

  low-few : n < k → n < count (bits (d - h) w)
  low-few q = omega (arith, count_cut (d - h) h w l)

  pub half-fits : n - o < count (bits (d - h) (w / 2 ^ s))
  half-fits = ⊎_elim
      (λ (q : n < k).
      let zs : s ≡ 0 = rw (lt-ltb n k q) at es in
      let zo : o ≡ 0 = rw (lt-ltb n k q) at eo in
      rw (whole s zs) (omega (arith, low-few q)))
      (λ (q : k ≤ n).
      let zs : s ≡ h = rw (le-ltb n k q) at es in
      let zo : o ≡ k = rw (le-ltb n k q) at eo in
      rw zs (omega (arith, count_cut d h w (omega arith))))
      (cases_lt n k)

  pub half_place : (r : ℕ) → r ≡ nth_place (bits (d - h) (w / 2 ^ s)) (n - o) → s + r ≡ nth_place (bits d w) n
  half_place r p = ⊎_elim
      (λ (q : n < k).
      let zs : s ≡ 0 = rw (lt-ltb n k q) at es in
      let zo : o ≡ 0 = rw (lt-ltb n k q) at eo in
      let zn : n - o ≡ n = omega arith in
      let zr : s + r ≡ r = omega arith in
      zr ∙ place-low d (d - h) w n (count (bits (d - h) w)) r (omega arith) refl (low-few q)
      (p ∙ ap₂ (λ (x y : ℕ). nth_place (bits (d - h) x) y) (whole s zs) zn))
      (λ (q : k ≤ n).
      let zs : s ≡ h = rw (le-ltb n k q) at es in
      let zo : o ≡ k = rw (le-ltb n k q) at eo in
      ap (λ (x : ℕ). x + r) zs
      ∙ place-high d h w n k r (omega arith) e q (p ∙ ap₂ (λ (x y : ℕ). nth_place (bits (d - h) (w / 2 ^ x)) (n - y)) zs zo))
      (cases_lt n k)

pub place-lt : (d w n : ℕ) → n < count (bits d w) → nth_place (bits d w) n < d
place-lt d w n h = subst (λ (x : ℕ). nth_place (bits d w) n < x) (length-bits d w) (nth-lt (bits d w) n h)

pub place-one : (d w n : ℕ) → d ≤ 1 → n < count (bits d w) → 0 ≡ nth_place (bits d w) n
place-one d w n l h = omega (arith, place-lt d w n h)

-- the answer of `nth_set_bit`, at any width
pub found : (d w n r : ℕ) → w < 2 ^ d → n < ones w → r ≡ nth_place (bits d w) n → Ok r ≡ nth_one (bits d w) n
unfolding nth_one
found d w n r b h p = rw (lt-ltb n (count (bits d w)) (omega (arith, ones-bits d w b))) (ap Ok p)

pub missing : (d w n : ℕ) → w < 2 ^ d → ones w ≤ n → Err (ones w) ≡ nth_one (bits d w) n
unfolding nth_one
missing d w n b h = rw (le-ltb n (count (bits d w)) (omega (arith, ones-bits d w b))) (ap Err (sym (ones-bits d w b)))

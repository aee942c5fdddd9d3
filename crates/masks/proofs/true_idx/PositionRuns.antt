-- The positions of a word's ones, run by run, and of a span's, word by word. For the loops of `next_chunk`.
use mathlib.Core.Path.{◌≡◌, refl, sym, ap, ◌∙◌, subst}
use mathlib.Core.Bool.{Bool, true, false}
use mathlib.Core.List.{List, [], ◌∷◌, ◌++◌}
use Prim.Native.Nat.{ℕ, zero, suc, ◌+◌, ◌-◌, ◌≤◌, ◌<◌, min}
use native.Mathlib.Omega.{arith}
use lib.ListN.{length, take, drop, length-append, length-take, length-drop, take-append-drop}
use lib.Seq.{take_all, length-take-le, drop-drop}
use Rattle.words.specs.Ends.{leading}
use Rattle.words.specs.Flags.{bits, copies, flags_of, window, word_of}
use Rattle.words.specs.Loops.{stretch}
use Rattle.words.proofs.flags.Bits.{length-bits}
use Rattle.words.proofs.ends.EndLaws.{leading_le}
use Rattle.words.proofs.flags.Windows.{bits-window, length-window, window-cut, window-drop, window-past}
use Rattle.masks.specs.Frozen.{over_from}
use Rattle.masks.specs.TrueIdx.{ones_from, ones_left}
use Rattle.masks.proofs.theorems.TrueIdxPlain.{past_ones as past_end}
use Rattle.masks.proofs.theorems.RunsPlain.{then-ones}
use Rattle.masks.proofs.true_idx.PositionLaws.{UnderWay, goes_on, run-cut, length-row}

-- ---- the ones of a word, run by run

pub no_more : (k : ℕ) (l : List Bool) → length (ones_from k l) ≤ length l
unfolding ones_from
no_more k [] = omega arith
no_more k (true ∷ l) = omega (arith, no_more (suc k) l)
no_more k (false ∷ l) = omega (arith, no_more (suc k) l)

none-set : (k n : ℕ) → ones_from k (copies n false) ≡ []
unfolding ones_from copies
none-set k zero = refl
none-set k (suc n) = none-set (suc k) n

-- zeros after a list add no position
pub padded : (m : List Bool) (k n : ℕ) → length m ≤ n → ones_from k (window m 0 n) ≡ ones_from k m
unfolding ones_from window
padded [] k n h = ap (ones_from k) (window-past [] 0 n (omega arith)) ∙ none-set k n
padded (x ∷ m) k zero h = absurd (omega arith)
padded (true ∷ m) k (suc n) h =
    ap (λ (t : List ℕ). k ∷ t) (ap (ones_from (suc k)) (sym (window-drop (true ∷ m) 1 0 n)) ∙ padded m (suc k) n (omega arith))
padded (false ∷ m) k (suc n) h = ap (ones_from (suc k)) (sym (window-drop (false ∷ m) 1 0 n)) ∙ padded m (suc k) n (omega arith)

after-zeros : (l : List Bool) (k : ℕ) → ones_from k l ≡ ones_from (k + leading false l) (drop (leading false l) l)
unfolding ones_from leading
after-zeros [] k = refl
after-zeros (true ∷ l) k = let e : k ≡ k + 0 = omega arith in ap (λ (x : ℕ). ones_from x (true ∷ l)) e
after-zeros (false ∷ l) k =
    let e : suc k + leading false l ≡ k + suc (leading false l) = omega arith in
    after-zeros l (suc k) ∙ ap (λ (x : ℕ). ones_from x (drop (leading false l) l)) e

skip-ones : (l : List Bool) (k : ℕ)
    → ones_from k l ≡ ones_from k (copies (leading true l) true) ++ ones_from (k + leading true l) (drop (leading true l) l)
unfolding ones_from leading copies
skip-ones [] k = refl
skip-ones (false ∷ l) k = let e : k ≡ k + 0 = omega arith in ap (λ (x : ℕ). ones_from x (false ∷ l)) e
skip-ones (true ∷ l) k =
    let e : suc k + leading true l ≡ k + suc (leading true l) = omega arith in
    ap (λ (t : List ℕ). k ∷ t)
    (skip-ones l (suc k) ∙ ap (λ (x : ℕ). ones_from (suc k) (copies (leading true l) true) ++ ones_from x (drop (leading true l) l)) e)

still_one : (m : List Bool) (n : ℕ) → 0 < leading true m → 0 < leading true (window m 0 (suc n))
unfolding leading window
still_one [] n h = absurd (omega arith)
still_one (false ∷ m) n h = absurd (omega arith)
still_one (true ∷ m) n h = omega arith

-- the positions of a word, and of a word that is moved down
module _ (w : ℕ) where
  all_flags : take 64 (bits 64 w) ≡ bits 64 w
  all_flags = take_all 64 (bits 64 w) (omega (arith, length-bits 64 w))

  moved : (at k : ℕ) → ones_from at (window (bits 64 w) k 64) ≡ ones_from at (drop k (bits 64 w))
  moved at k =
      let e : k + 0 ≡ k = omega arith in
      sym (sym (padded (drop k (bits 64 w)) at 64 (omega (arith, length-drop k (bits 64 w), length-bits 64 w)))
      ∙ ap (ones_from at) (window-drop (bits 64 w) k 0 64 ∙ ap (λ (x : ℕ). window (bits 64 w) x 64) e))

  pub past-zeros : (at z : ℕ) (rest : List Bool) → z ≡ leading false (take 64 (bits 64 w)) → rest ≡ window (bits 64 w) z 64
      → ones_from at (bits 64 w) ≡ ones_from (at + z) rest
  past-zeros at z rest e p =
      let f : leading false (bits 64 w) ≡ z = ap (leading false) (sym all_flags) ∙ sym e in
      after-zeros (bits 64 w) at ∙ ap (λ (x : ℕ). ones_from (at + x) (drop x (bits 64 w))) f ∙ sym (moved (at + z) z)
      ∙ ap (ones_from (at + z)) (sym p)

  pub past_ones : (at k : ℕ) (rest : List Bool) → k ≡ leading true (take 64 (bits 64 w)) → rest ≡ window (bits 64 w) k 64
      → ones_from at (bits 64 w) ≡ ones_from at (copies k true) ++ ones_from (at + k) rest
  past_ones at k rest e p =
      let f : leading true (bits 64 w) ≡ k = ap (leading true) (sym all_flags) ∙ sym e in
      skip-ones (bits 64 w) at
      ∙ ap (λ (x : ℕ). ones_from at (copies x true) ++ ones_from (at + x) (drop x (bits 64 w))) f
      ∙ ap (λ (t : List ℕ). ones_from at (copies k true) ++ t) (sym (moved (at + k) k) ∙ ap (ones_from (at + k)) (sym p))

  pub no_ones : (at z : ℕ) → z ≡ leading false (take 64 (bits 64 w)) → 64 ≤ z → ones_from at (bits 64 w) ≡ []
  no_ones at z e h =
      let f : leading false (bits 64 w) ≡ z = ap (leading false) (sym all_flags) ∙ sym e in
      after-zeros (bits 64 w) at ∙ ap (λ (x : ℕ). ones_from (at + x) (drop x (bits 64 w))) f ∙ sym (moved (at + z) z)
      ∙ ap (ones_from (at + z)) (window-past (bits 64 w) z 64 (omega (arith, length-bits 64 w))) ∙ none-set (at + z) 64

  pub some-ones : (z r rest : ℕ) → z ≡ leading false (take 64 (bits 64 w)) → z < 64 → bits 64 rest ≡ window (bits 64 w) z 64
      → r ≡ leading true (take 64 (bits 64 rest)) → 0 < r
  some-ones z r rest e h p q =
      let f : leading false (bits 64 w) ≡ z = ap (leading false) (sym all_flags) ∙ sym e in
      let k : z + 0 ≡ z = omega arith in
      let one : 0 < leading true (drop z (bits 64 w)) =
      subst (λ (x : ℕ). 0 < leading true (drop x (bits 64 w))) f (then-ones (bits 64 w) (omega (arith, length-bits 64 w))) in
      let same : window (drop z (bits 64 w)) 0 64 ≡ bits 64 rest =
      window-drop (bits 64 w) z 0 64 ∙ ap (λ (x : ℕ). window (bits 64 w) x 64) k ∙ sym p in
      let last : leading true (bits 64 rest) ≡ r =
      ap (leading true) (sym (take_all 64 (bits 64 rest) (omega (arith, length-bits 64 rest)))) ∙ sym q in
      subst (λ (x : ℕ). 0 < x) (ap (leading true) same ∙ last) (still_one (drop z (bits 64 w)) 63 one)

pub lead-within : (x : Bool) (w z : ℕ) → z ≡ leading x (take 64 (bits 64 w)) → z ≤ 64
lead-within x w z e = omega (arith, leading_le x (take 64 (bits 64 w)), length-take 64 (bits 64 w))

-- ---- an iteration of the loop over a word: zeros are passed over, and the ones after them are written

module _ (out₀ : List ℕ) (done : ℕ) (all out : List ℕ) (count at w zeros rest ones n : ℕ)
    (u : UnderWay out₀ done all out count (ones_from at (bits 64 w)))
    (z : zeros ≡ leading false (take 64 (bits 64 w))) (d : bits 64 rest ≡ window (bits 64 w) zeros 64)
    (o : ones ≡ leading true (take 64 (bits 64 rest))) where
  -- the positions of the run, and those after it
  pub split-run : (more : List Bool) → more ≡ window (bits 64 rest) ones 64
      → ones_from at (bits 64 w) ≡ ones_from (at + zeros) (copies ones true) ++ ones_from (at + (zeros + ones)) more
  split-run more e =
      let far : at + zeros + ones ≡ at + (zeros + ones) = omega arith in
      past-zeros w at zeros (bits 64 rest) z d ∙ past_ones rest (at + zeros) ones more o e
      ∙ ap (λ (x : ℕ). ones_from (at + zeros) (copies ones true) ++ ones_from x more) far

  pub shorter : (more : List Bool) → more ≡ window (bits 64 rest) ones 64
      → length (ones_from at (bits 64 w)) ≡ ones + length (ones_from (at + (zeros + ones)) more)
  shorter more e =
      ap length (split-run more e) ∙ length-append (ones_from (at + zeros) (copies ones true)) (ones_from (at + (zeros + ones)) more)
      ∙ ap (λ (x : ℕ). x + length (ones_from (at + (zeros + ones)) more)) (length-row (at + zeros) ones)

  pub turned : (more : List Bool) (out' : List ℕ) → more ≡ window (bits 64 rest) ones 64 → n ≡ min ones (length out - count)
      → out' ≡ over_from out count (ones_from (at + zeros) (copies n true))
      → UnderWay out₀ done all out' (count + n) (ones_from (at + (zeros + ones)) more)
  turned more out' e m p =
      let room : count ≤ length out = u.within in
      goes_on out₀ done all out count (ones_from at (bits 64 w)) (ones_from (at + zeros) (copies ones true))
      (ones_from (at + (zeros + ones)) more) out' (count + n)
      u (split-run more e) (p ∙ run-cut out count (at + zeros) ones n room m) (omega (arith, length-row (at + zeros) ones))

-- ---- a span's positions, word by word

pub ones-append : (k : ℕ) (a b : List Bool) → ones_from k (a ++ b) ≡ ones_from k a ++ ones_from (k + length a) b
unfolding ones_from
ones-append k [] b = let e : k ≡ k + 0 = omega arith in ap (λ (x : ℕ). ones_from x b) e
ones-append k (true ∷ a) b =
    let e : suc k + length a ≡ k + suc (length a) = omega arith in
    ap (λ (t : List ℕ). k ∷ t) (ones-append (suc k) a b ∙ ap (λ (x : ℕ). ones_from (suc k) a ++ ones_from x b) e)
ones-append k (false ∷ a) b =
    let e : suc k + length a ≡ k + suc (length a) = omega arith in
    ones-append (suc k) a b ∙ ap (λ (x : ℕ). ones_from (suc k) a ++ ones_from x b) e

left_split : (l : List Bool) (at k : ℕ) → at + k ≤ length l → ones_left l at ≡ ones_from at (take k (drop at l)) ++ ones_left l (at + k)
unfolding ones_left
left_split l at k h =
    let n : length (take k (drop at l)) ≡ k = length-take-le k (drop at l) (omega (arith, length-drop at l)) in
    ap (ones_from at) (sym (take-append-drop k (drop at l))) ∙ ones-append at (take k (drop at l)) (drop k (drop at l))
    ∙ ap (λ (x : ℕ). ones_from at (take k (drop at l)) ++ ones_from (at + x) (drop k (drop at l))) n
    ∙ ap (λ (t : List Bool). ones_from at (take k (drop at l)) ++ ones_from (at + k) t) (drop-drop k at l)

-- the positions left are those of the word that holds the next k flags, and those after it
pub word_split : (bytes : List ℕ) (start n at k w : ℕ) → at + k ≤ n → k ≤ 64 → w ≡ word_of (stretch bytes (start + at) k)
    → ones_left (stretch bytes start n) at ≡ ones_from at (bits 64 w) ++ ones_left (stretch bytes start n) (at + k)
word_split bytes start n at k w h small e =
    let l : List Bool = stretch bytes start n in
    let m : List Bool = stretch bytes (start + at) k in
    let word : ones_from at (bits 64 w) ≡ ones_from at m =
    ap (λ (x : ℕ). ones_from at (bits 64 x)) e ∙ ap (ones_from at) (bits-window 64 m)
    ∙ padded m at 64 (omega (arith, length-window (flags_of bytes) (start + at) k)) in
    left_split l at k (omega (arith, length-window (flags_of bytes) start n))
    ∙ ap (λ (t : List Bool). ones_from at t ++ ones_left l (at + k)) (window-cut (flags_of bytes) start n at k h)
    ∙ ap (λ (t : List ℕ). t ++ ones_left l (at + k)) (sym word)

pub none-after : (bytes : List ℕ) (start n at : ℕ) → n ≤ at → ones_left (stretch bytes start n) at ≡ []
none-after bytes start n at h = past_end (stretch bytes start n) at (omega (arith, length-window (flags_of bytes) start n))

-- writing the positions of one more word
pub word-on : (out₀ : List ℕ) (done : ℕ) (all out : List ℕ) (count : ℕ) (bytes : List ℕ) (start n at : ℕ)
    → UnderWay out₀ done all out count (ones_left (stretch bytes start n) at) → (k w : ℕ) → at + k ≤ n → k ≤ 64
    → w ≡ word_of (stretch bytes (start + at) k) → (out' : List ℕ) (r : ℕ) → out' ≡ over_from out count (ones_from at (bits 64 w))
    → r ≡ min (length out) (count + length (ones_from at (bits 64 w))) → (next : ℕ) → next ≡ at + k
    → UnderWay out₀ done all out' r (ones_left (stretch bytes start n) next)
word-on out₀ done all out count bytes start n at u k w h small e out' r p q next f =
    rw f
    (goes_on out₀ done all out count (ones_left (stretch bytes start n) at) (ones_from at (bits 64 w))
    (ones_left (stretch bytes start n) (at + k)) out' r u
    (word_split bytes start n at k w h small e) p q)

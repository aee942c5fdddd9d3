-- Counts over the three parts of a split, and over whole words from both ends. For the five counts of `utils`. `length-low` is for all.
use mathlib.Core.Path.{◌≡◌, refl, sym, ap, ap₂, ◌∙◌}
use mathlib.Core.Bool.{Bool, true, false, not}
use mathlib.Core.List.{List, ◌++◌, map, append_assoc}
use Prim.Native.Nat.{ℕ, ◌+◌, ◌-◌, ◌*◌, ◌≤◌, ◌<◌}
use native.Mathlib.Omega.{arith}
use lib.ListN.{length, take, length-take}
use lib.Dec.{eqb}
use lib.Seq.{take_all}
use Rattle.words.specs.Ends.{leading, trailing}
use Rattle.words.specs.Flags.{bits, count, flags_of, window}
use Rattle.words.specs.Uniform.{all_equal}
use Rattle.words.proofs.flags.Bits.{length-bits}
use Rattle.words.proofs.counts.Counting.{count-append, count-padded, count-not, count-le}
use Rattle.words.proofs.ends.EndLaws.{leading_le, leading-some, leading-all, trailing_le, trailing-some, trailing-all}
pub use Rattle.words.proofs.word.Loads.{moved-flags}
use Rattle.words.proofs.uniform.UniformLaws.{eqb-both}
use Rattle.words.proofs.flags.Windows.{length-window, window-add}
use Rattle.masks.specs.Utils.{zeros}
use Rattle.masks.specs.Workers.{zeros_of_all}

-- ---- the parts that are words

pub length-low : (k w : ℕ) → k ≤ 64 → length (take k (bits 64 w)) ≡ k
length-low k w h = length-take k (bits 64 w) ∙ omega (arith, length-bits 64 w)

-- a number f of the k low flags of a word is f of a part if these flags are the part; the part has k flags
pub of-part : (f : List Bool → ℕ) (w k n : ℕ) (part : List Bool) → (k ≤ 64) × (take k (bits 64 w) ≡ part) → n ≡ f (take k (bits 64 w))
    → (n ≡ f part) × (length part ≡ k)
of-part f w k n part h e = (e ∙ ap f h.1, ap length (sym h.1) ∙ length-low k w h.0)

pub count-taken : (k w r c : ℕ) → bits 64 r ≡ window (take k (bits 64 w)) 0 64 → c ≡ count (bits 64 r) → c ≡ count (take k (bits 64 w))
count-taken k w r c p q = q ∙ ap count p ∙ count-padded (take k (bits 64 w)) 64 (omega (arith, length-take k (bits 64 w), length-bits 64 w))

pub count-three : (A B C : List Bool) (a b c : ℕ) → a ≡ count A → b ≡ count B → c ≡ count C → a + b + c ≡ count (A ++ (B ++ C))
count-three A B C a b c p q r = omega (arith, count-append A (B ++ C), count-append B C)

-- ---- equal flags at the front of three parts

module _ (x : Bool) (A B C : List Bool) where
  pub front-middle : (a n b m : ℕ) → a ≡ leading x A → length A ≡ n → n ≤ a → b ≡ leading x B → length B ≡ m → b < m
      → n + b ≡ leading x (A ++ (B ++ C))
  front-middle a n b m e l h f k i =
      let one : leading x (A ++ (B ++ C)) ≡ length A + leading x (B ++ C) = leading-all x A (B ++ C) (omega arith) in
      let two : leading x (B ++ C) ≡ leading x B = leading-some x B C (omega arith) in
      omega arith

  -- ---- equal flags at their end

  end-one : trailing x (A ++ (B ++ C)) ≡ trailing x ((A ++ B) ++ C)
  end-one = ap (trailing x) (sym (append_assoc A B C))

  pub end-middle : (c n b m : ℕ) → c ≡ trailing x C → length C ≡ n → n ≤ c → b ≡ trailing x B → length B ≡ m → b < m
      → n + b ≡ trailing x (A ++ (B ++ C))
  end-middle c n b m e l h f k i =
      let one : trailing x (A ++ (B ++ C)) ≡ length C + trailing x (A ++ B) = end-one ∙ trailing-all x (A ++ B) C (omega arith) in
      let two : trailing x (A ++ B) ≡ trailing x B = trailing-some x A B (omega arith) in
      omega arith

-- ---- whole words: the flags of i of them are equal, and the next is read

whole_word : (w : ℕ) → take 64 (bits 64 w) ≡ bits 64 w
whole_word w = take_all 64 (bits 64 w) (omega (arith, length-bits 64 w))

module _ (x : Bool) (l : List Bool) (s n : ℕ) where
  -- the words before word i, word i, the rest
  front_cut : (i : ℕ) → i < n → window l s (64 * n) ≡ window l s (64 * i)
      ++ (window l (s + 64 * i) 64 ++ window l (s + 64 * i + 64) (64 * n - (64 * i + 64)))
  front_cut i h =
      let e : 64 * n ≡ 64 * i + (64 + (64 * n - (64 * i + 64))) = omega arith in
      ap (window l s) e ∙ window-add l s (64 * i) (64 + (64 * n - (64 * i + 64)))
      ∙ ap (λ (t : List Bool). window l s (64 * i) ++ t) (window-add l (s + 64 * i) 64 (64 * n - (64 * i + 64)))

  pub front-exit : (i p w a : ℕ) → i < n → 64 * i ≤ leading x (window l s (64 * i)) → bits 64 w ≡ window l p 64 → p ≡ s + 64 * i
      → a ≡ leading x (take 64 (bits 64 w)) → a < 64
      → 64 * i + a ≡ leading x (window l s (64 * n))
  front-exit i p w a h inv q e u k =
      let here : a ≡ leading x (window l (s + 64 * i) 64) = u ∙ ap (leading x) (whole_word w ∙ q ∙ ap (λ (z : ℕ). window l z 64) e) in
      front-middle x (window l s (64 * i)) (window l (s + 64 * i) 64) (window l (s + 64 * i + 64) (64 * n - (64 * i + 64)))
      (leading x (window l s (64 * i))) (64 * i) a 64 refl (length-window l s (64 * i)) inv here (length-window l (s + 64 * i) 64) k
      ∙ ap (leading x) (sym (front_cut i h))

  pub front-step : (i p w a : ℕ) → 64 * i ≤ leading x (window l s (64 * i)) → bits 64 w ≡ window l p 64 → p ≡ s + 64 * i
      → a ≡ leading x (take 64 (bits 64 w)) → 64 ≤ a
      → 64 * (i + 1) ≤ leading x (window l s (64 * (i + 1)))
  front-step i p w a inv q e u k =
      let n : 64 * (i + 1) ≡ 64 * i + 64 = omega arith in
      let here : a ≡ leading x (window l (s + 64 * i) 64) = u ∙ ap (leading x) (whole_word w ∙ q ∙ ap (λ (z : ℕ). window l z 64) e) in
      let all : leading x (window l s (64 * (i + 1))) ≡ length (window l s (64 * i)) + leading x (window l (s + 64 * i) 64) =
      ap (λ (m : ℕ). leading x (window l s m)) n ∙ ap (leading x) (window-add l s (64 * i) 64)
      ∙ leading-all x (window l s (64 * i)) (window l (s + 64 * i) 64) (omega (arith, length-window l s (64 * i))) in
      omega (arith, length-window l s (64 * i))

  pub front-all : (i : ℕ) → 64 * i ≤ leading x (window l s (64 * i)) → i ≤ n → n ≤ i → 64 * n ≡ leading x (window l s (64 * n))
  front-all i inv h k =
      let e : i ≡ n = omega arith in
      let all : 64 * i ≡ leading x (window l s (64 * i)) = omega (arith, leading_le x (window l s (64 * i)), length-window l s (64 * i)) in
      ap (λ (m : ℕ). 64 * m) (sym e) ∙ all ∙ ap (λ (m : ℕ). leading x (window l s (64 * m))) e

  -- the words before word i, word i, the k words from word j on
  end-cut : (k i j : ℕ) → j ≡ i + 1 → k + j ≡ n
      → window l s (64 * n) ≡ window l s (64 * i) ++ (window l (s + 64 * i) 64 ++ window l (s + 64 * j) (64 * k))
  end-cut k i j d h =
      let e : 64 * n ≡ 64 * i + (64 + 64 * k) = omega arith in
      let f : s + 64 * i + 64 ≡ s + 64 * j = omega arith in
      ap (window l s) e ∙ window-add l s (64 * i) (64 + 64 * k)
      ∙ ap (λ (t : List Bool). window l s (64 * i) ++ t) (window-add l (s + 64 * i) 64 (64 * k)
      ∙ ap (λ (z : ℕ). window l (s + 64 * i) 64 ++ window l z (64 * k)) f)

  pub end-exit : (k i j p w a : ℕ) → j ≡ i + 1 → k + j ≡ n → 64 * k ≤ trailing x (window l (s + 64 * j) (64 * k))
      → bits 64 w ≡ window l p 64 → p ≡ s + 64 * i
      → a ≡ trailing x (take 64 (bits 64 w)) → a < 64
      → 64 * k + a ≡ trailing x (window l s (64 * n))
  end-exit k i j p w a d h inv q e u b =
      let here : a ≡ trailing x (window l (s + 64 * i) 64) = u ∙ ap (trailing x) (whole_word w ∙ q ∙ ap (λ (z : ℕ). window l z 64) e) in
      end-middle x (window l s (64 * i)) (window l (s + 64 * i) 64) (window l (s + 64 * j) (64 * k))
      (trailing x (window l (s + 64 * j) (64 * k))) (64 * k) a 64 refl (length-window l (s + 64 * j) (64 * k)) inv here
      (length-window l (s + 64 * i) 64) b
      ∙ ap (trailing x) (sym (end-cut k i j d h))

  pub end_step : (k i j p w a : ℕ) → j ≡ i + 1 → k + j ≡ n → 64 * k ≤ trailing x (window l (s + 64 * j) (64 * k))
      → bits 64 w ≡ window l p 64 → p ≡ s + 64 * i
      → a ≡ trailing x (take 64 (bits 64 w)) → 64 ≤ a
      → 64 * (n - i) ≤ trailing x (window l (s + 64 * i) (64 * (n - i)))
  end_step k i j p w a d h inv q e u b =
      let m : 64 * (n - i) ≡ 64 + 64 * k = omega arith in
      let g : s + 64 * i + 64 ≡ s + 64 * j = omega arith in
      let here : a ≡ trailing x (window l (s + 64 * i) 64) = u ∙ ap (trailing x) (whole_word w ∙ q ∙ ap (λ (z : ℕ). window l z 64) e) in
      let all : trailing x (window l (s + 64 * i) (64 * (n - i)))
      ≡ length (window l (s + 64 * j) (64 * k)) + trailing x (window l (s + 64 * i) 64) =
      ap (λ (z : ℕ). trailing x (window l (s + 64 * i) z)) m
      ∙ ap (trailing x) (window-add l (s + 64 * i) 64 (64 * k) ∙ ap (λ (z : ℕ). window l (s + 64 * i) 64 ++ window l z (64 * k)) g)
      ∙ trailing-all x (window l (s + 64 * i) 64) (window l (s + 64 * j) (64 * k)) (omega (arith, length-window l (s + 64 * j) (64 * k))) in
      omega (arith, length-window l (s + 64 * j) (64 * k))

  pub end-all : 64 * (n - 0) ≤ trailing x (window l (s + 64 * 0) (64 * (n - 0))) → 64 * n ≡ trailing x (window l s (64 * n))
  end-all inv =
      let e : n - 0 ≡ n = omega arith in
      let f : s + 64 * 0 ≡ s = omega arith in
      let same : window l (s + 64 * 0) (64 * (n - 0)) ≡ window l s (64 * n) = ap₂ (λ (y m : ℕ). window l y (64 * m)) f e in
      omega (arith, inv, ap (trailing x) same, trailing_le x (window l s (64 * n)), length-window l s (64 * n))

-- the zeros are the flags that are not set
pub zeros-rest : (l : List Bool) (n c : ℕ) → length l ≡ n → c ≡ count l → n - c ≡ zeros l
unfolding zeros
zeros-rest l n c e p = omega (arith, count-not l)

pub ones-most : (l : List Bool) (n c : ℕ) → length l ≡ n → c ≡ count l → c ≤ n
ones-most l n c e p = omega (arith, count-le l)

pub zeros-most : (l : List Bool) (n c : ℕ) → length l ≡ n → c ≡ zeros l → c ≤ n
unfolding zeros
zeros-most l n c e p = omega (arith, count-not l)

pub zeros-none : (bytes : List ℕ) (start n : ℕ) → n ≡ 0 → zeros (window (flags_of bytes) start n) ≡ 0
unfolding zeros
zeros-none bytes start n e = omega (arith, count-not (window (flags_of bytes) start n), length-window (flags_of bytes) start n)

-- all flags are x exactly if the number of zeros is `zeros_of_all x n`
pub all-zeros : (x : Bool) (l : List Bool) (n : ℕ) (t : Bool) → length l ≡ n → t ≡ all_equal x l → t ≡ eqb (zeros l) (zeros_of_all x n)
unfolding zeros all_equal
all-zeros true l n t e p =
    p ∙ eqb-both (count l) (length l * 1) (count (map not l)) 0 (λ h. omega (arith, count-not l)) (λ h. omega (arith, count-not l))
all-zeros false l n t e p =
    p ∙ eqb-both (count l) (length l * 0) (count (map not l)) n (λ h. omega (arith, count-not l)) (λ h. omega (arith, count-not l))

-- Words added flag by flag, seven rows of words counted side by side, and the parts of a stretch that is counted.
use Rattle.std.proofs.Common.{◌≡◌, refl, sym, ap, ◌∙◌, Bool, false, List, [], ◌∷◌, ℕ, suc, ◌+◌, ◌-◌, ◌*◌, ◌%◌, ◌≤◌, ◌<◌}
use Rattle.std.proofs.Common.{arith, length, take, get_or, take_all, ⊎_elim}
use Rattle.std.proofs.lemmas.Bool.{cases_lt}
use Rattle.words.specs.Flags.{bits, count, digit, window}
use Rattle.words.specs.Planes.{Added}
use Rattle.words.proofs.flags.Bits.{length-bits}
use Rattle.words.proofs.counts.Counting.{count_add, count-le, count_none, count-padded, count_past, count-within, count_word}
use Rattle.words.proofs.word.Loads.{near-first}
use Rattle.words.proofs.flags.Windows.{length-window, window-cut}

-- ---- words added flag by flag

-- the ones of the two digits of a sum of three flags, in each place
lists-count : (a b c l h : List Bool) → length b ≡ length a → length c ≡ length a → length l ≡ length a → length h ≡ length a
    → ((k : ℕ) → k < length a
    → digit (get_or l k false) + 2 * digit (get_or h k false)
    ≡ digit (get_or a k false) + digit (get_or b k false) + digit (get_or c k false))
    → count l + 2 * count h ≡ count a + count b + count c
unfolding count
lists-count [] b c l h eb ec el eh p = omega (arith, count-le b, count-le c, count-le l, count-le h)
lists-count (x ∷ a) [] c l h eb ec el eh p = absurd (omega arith)
lists-count (x ∷ a) (y ∷ b) [] l h eb ec el eh p = absurd (omega arith)
lists-count (x ∷ a) (y ∷ b) (z ∷ c) [] h eb ec el eh p = absurd (omega arith)
lists-count (x ∷ a) (y ∷ b) (z ∷ c) (u ∷ l) [] eb ec el eh p = absurd (omega arith)
lists-count (x ∷ a) (y ∷ b) (z ∷ c) (u ∷ l) (v ∷ h) eb ec el eh p =
    omega (
      arith,
      p 0 (omega arith),
      lists-count a b c l h (omega arith) (omega arith) (omega arith) (omega arith)
          (λ k q. p (suc k) (omega arith)),
    )

pub added-count : (x y z l h : ℕ) → Added x y z l h
    → count (bits 64 l) + 2 * count (bits 64 h) ≡ count (bits 64 x) + count (bits 64 y) + count (bits 64 z)
unfolding Added
added-count x y z l h p =
    lists-count (bits 64 x) (bits 64 y) (bits 64 z) (bits 64 l) (bits 64 h) (same y) (same z) (same l) (same h)
    (λ k q. p k (omega (arith, length-bits 64 x)))
  where
    same : (w : ℕ) → length (bits 64 w) ≡ length (bits 64 x)
    same w = length-bits 64 w ∙ sym (length-bits 64 x)

-- ---- seven rows of m words, starting at flag p

-- a stretch in two parts
pub count-two : (l : List Bool) (q n a b r : ℕ) → n ≡ a + b → r ≡ q + a → count (window l q n) ≡ count (window l q a) + count (window l r b)
count-two l q n a b r e f =
    ap (λ (x : ℕ). count (window l q x)) e ∙ count_add l q a b ∙ ap (λ (x : ℕ). count (window l q a) + count (window l x b)) (sym f)

-- the ones of the first i words of each row
unfoldable pub rows_ones : List Bool → ℕ → ℕ → ℕ → ℕ
rows_ones l p m i =
    count (window l p (64 * i)) + count (window l (p + 64 * m) (64 * i)) + count (window l (p + 128 * m) (64 * i))
    + count (window l (p + 192 * m) (64 * i))
    + count (window l (p + 256 * m) (64 * i)) + count (window l (p + 320 * m) (64 * i)) + count (window l (p + 384 * m) (64 * i))

pub rows_none : (l : List Bool) (p m : ℕ) → 0 ≡ rows_ones l p m 0
unfolding rows_ones
rows_none l p m =
    omega (
      arith,
      count_none l p,
      count_none l (p + 64 * m),
      count_none l (p + 128 * m),
      count_none l (p + 192 * m),
      count_none l (p + 256 * m),
      count_none l (p + 320 * m),
      count_none l (p + 384 * m),
    )

row-most : (l : List Bool) (q n : ℕ) → count (window l q n) ≤ n
row-most l q n = count-within l q n (count (window l q n)) refl

pub rows-most : (l : List Bool) (p m i c : ℕ) → c ≡ rows_ones l p m i → c ≤ 448 * i
unfolding rows_ones
rows-most l p m i c e = omega (
  arith,
  row-most l p (64 * i),
  row-most l (p + 64 * m) (64 * i),
  row-most l (p + 128 * m) (64 * i),
  row-most l (p + 192 * m) (64 * i),
  row-most l (p + 256 * m) (64 * i),
  row-most l (p + 320 * m) (64 * i),
  row-most l (p + 384 * m) (64 * i),
)

abbrev pub seven_ones : ℕ → ℕ → ℕ → ℕ → ℕ → ℕ → ℕ → ℕ
seven_ones a b c d e f g =
    count (bits 64 a) + count (bits 64 b) + count (bits 64 c) + count (bits 64 d) + count (bits 64 e) + count (bits 64 f)
    + count (bits 64 g)

word-most : (w : ℕ) → count (bits 64 w) ≤ 64
word-most w = count_word w (count (bits 64 w)) refl

pub seven_most : (a b c d e f g r : ℕ) → r ≡ seven_ones a b c d e f g → r ≤ 448
seven_most a b c d e f g r q = omega (arith, word-most a, word-most b, word-most c, word-most d, word-most e, word-most f, word-most g)

-- the ones of seven words, by four full adders
pub seven_sum : (a b c d e f g xl xh yl yh zl zh tl th ones twos fours : ℕ) → Added a b c xl xh → Added d e f yl yh → Added xl yl g zl zh
    → Added xh yh zh tl th
    → ones ≡ count (bits 64 zl) → twos ≡ count (bits 64 tl) → fours ≡ count (bits 64 th)
    → ones + 2 * twos + 4 * fours ≡ seven_ones a b c d e f g
seven_sum a b c d e f g xl xh yl yh zl zh tl th ones twos fours p q r s u v w =
    omega (arith, added-count a b c xl xh p, added-count d e f yl yh q, added-count xl yl g zl zh r, added-count xh yh zh tl th s)

-- one more word of a row
row_more : (l : List Bool) (q i x w : ℕ) → bits 64 w ≡ window l x 64 → x ≡ q + 64 * i
    → count (window l q (64 * (i + 1))) ≡ count (window l q (64 * i)) + count (bits 64 w)
row_more l q i x w h e =
    let n : 64 * (i + 1) ≡ 64 * i + 64 = omega arith in
    count-two l q (64 * (i + 1)) (64 * i) 64 x n e ∙ ap (λ (t : List Bool). count (window l q (64 * i)) + count t) (sym h)

module _ (l : List Bool) (p m i : ℕ) where
  pub rows_step : (s r a b c d e f g x₁ x₂ x₃ x₄ x₅ x₆ x₇ : ℕ) → s ≡ rows_ones l p m i
      → bits 64 a ≡ window l x₁ 64 → bits 64 b ≡ window l x₂ 64 → bits 64 c ≡ window l x₃ 64 → bits 64 d ≡ window l x₄ 64
      → bits 64 e ≡ window l x₅ 64 → bits 64 f ≡ window l x₆ 64 → bits 64 g ≡ window l x₇ 64
      → r ≡ seven_ones a b c d e f g
      → x₁ ≡ p + 64 * i → x₂ ≡ p + 64 * m + 64 * i → x₃ ≡ p + 128 * m + 64 * i → x₄ ≡ p + 192 * m + 64 * i
      → x₅ ≡ p + 256 * m + 64 * i → x₆ ≡ p + 320 * m + 64 * i → x₇ ≡ p + 384 * m + 64 * i
      → s + r ≡ rows_ones l p m (i + 1)
  unfolding rows_ones
  rows_step s r a b c d e f g x₁ x₂ x₃ x₄ x₅ x₆ x₇ inv h₁ h₂ h₃ h₄ h₅ h₆ h₇ q e₁ e₂ e₃ e₄ e₅ e₆ e₇ =
      omega (
        arith,
        row_more l p i x₁ a h₁ e₁,
        row_more l (p + 64 * m) i x₂ b h₂ e₂,
        row_more l (p + 128 * m) i x₃ c h₃ e₃,
        row_more l (p + 192 * m) i x₄ d h₄ e₄,
        row_more l (p + 256 * m) i x₅ e h₅ e₅,
        row_more l (p + 320 * m) i x₆ f h₆ e₆,
        row_more l (p + 384 * m) i x₇ g h₇ e₇,
      )

-- the rows in full are the stretch
rows_whole : (l : List Bool) (p m : ℕ) → rows_ones l p m m ≡ count (window l p (448 * m))
unfolding rows_ones
rows_whole l p m =
    let a : count (window l p (448 * m)) ≡ count (window l p (64 * m)) + count (window l (p + 64 * m) (384 * m)) =
    count-two l p (448 * m) (64 * m) (384 * m) (p + 64 * m) (omega arith) (omega arith) in
    let b : count (window l (p + 64 * m) (384 * m)) ≡ count (window l (p + 64 * m) (64 * m)) + count (window l (p + 128 * m) (320 * m)) =
    count-two l (p + 64 * m) (384 * m) (64 * m) (320 * m) (p + 128 * m) (omega arith) (omega arith) in
    let c : count (window l (p + 128 * m) (320 * m)) ≡ count (window l (p + 128 * m) (64 * m)) + count (window l (p + 192 * m) (256 * m)) =
    count-two l (p + 128 * m) (320 * m) (64 * m) (256 * m) (p + 192 * m) (omega arith) (omega arith) in
    let d : count (window l (p + 192 * m) (256 * m)) ≡ count (window l (p + 192 * m) (64 * m)) + count (window l (p + 256 * m) (192 * m)) =
    count-two l (p + 192 * m) (256 * m) (64 * m) (192 * m) (p + 256 * m) (omega arith) (omega arith) in
    let e : count (window l (p + 256 * m) (192 * m)) ≡ count (window l (p + 256 * m) (64 * m)) + count (window l (p + 320 * m) (128 * m)) =
    count-two l (p + 256 * m) (192 * m) (64 * m) (128 * m) (p + 320 * m) (omega arith) (omega arith) in
    let f : count (window l (p + 320 * m) (128 * m)) ≡ count (window l (p + 320 * m) (64 * m)) + count (window l (p + 384 * m) (64 * m)) =
    count-two l (p + 320 * m) (128 * m) (64 * m) (64 * m) (p + 384 * m) (omega arith) (omega arith) in
    omega arith

pub rows_all : (l : List Bool) (p m i c : ℕ) → c ≡ rows_ones l p m i → i ≤ m → m ≤ i → c ≡ count (window l p (448 * m))
rows_all l p m i c e h k = let z : i ≡ m = omega arith in e ∙ ap (rows_ones l p m) z ∙ rows_whole l p m

-- the rows and what is left of n words
pub rows-rest : (l : List Bool) (p n m q k x y : ℕ) → x ≡ count (window l p (448 * m)) → y ≡ count (window l q k) → q ≡ p + 448 * m
    → 64 * n ≡ 448 * m + k → x + y ≡ count (window l p (64 * n))
rows-rest l p n m q k x y e f a b = omega (arith, count-two l p (64 * n) (448 * m) k q b a)

-- ---- loaded words

-- the first k flags of a word: if k is more than it has, the list ends within it
pub count-first-flags : (l : List Bool) (bit k w c : ℕ) → (64 < k → length l ≤ bit + 64) → bits 64 w ≡ window l bit 64
    → c ≡ count (take k (bits 64 w)) → c ≡ count (window l bit k)
count-first-flags l bit k w c h p e = ⊎_elim
    (λ (j : 64 < k).
    let all : count (take k (bits 64 w)) ≡ count (window l bit 64) =
    ap count (take_all k (bits 64 w) (omega (arith, length-bits 64 w)) ∙ p) in
    omega (arith, count-two l bit k 64 (k - 64) (bit + 64) (omega arith) (omega arith), count_past l (bit + 64) (k - 64) (h j)))
    (λ (j : k ≤ 64).
    let z : bit + 0 ≡ bit = omega arith in
    e ∙ ap count (ap (take k) p ∙ window-cut l bit 64 0 k (omega arith)) ∙ ap (λ (x : ℕ). count (window l x k)) z)
    (cases_lt 64 k)

-- the first n flags of a word of `near_word`
pub count-near : (l : List Bool) (bit n w c : ℕ) → bit % 8 + n ≤ 64 → bits 64 w ≡ window (window l bit (64 - bit % 8)) 0 64
    → c ≡ count (take n (bits 64 w)) → c ≡ count (window l bit n)
count-near l bit n w c h p e = e ∙ ap count (near-first l bit n w h p)

pub count-near-all : (l : List Bool) (bit n w c : ℕ) → n ≡ 64 - bit % 8 → bits 64 w ≡ window (window l bit (64 - bit % 8)) 0 64
    → c ≡ count (bits 64 w) → c ≡ count (window l bit n)
count-near-all l bit n w c h p e =
    e ∙ ap count p ∙ count-padded (window l bit (64 - bit % 8)) 64 (omega (arith, length-window l bit (64 - bit % 8)))
    ∙ ap (λ (k : ℕ). count (window l bit k)) (sym h)

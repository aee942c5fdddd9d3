-- One exchange, the exchanges of all rows, and a square transposed by its halves.
use Rattle.std.proofs.Common.{◌≡◌, ℕ, zero, suc, ◌+◌, ◌-◌, ◌*◌, ◌/◌, ◌%◌, ◌^◌, ◌<◌, ◌≤◌, ◌&&◌, ◌⊎◌, inl, inr, Bool, true, false, cond}
use Rattle.std.proofs.Common.{List, [], ◌∷◌, ◌++◌, length, get_or, take, drop, min, refl, sym, ap, ap₂, ◌∙◌, subst, arith, bit_and}
use Rattle.std.proofs.Math.ListN.{set, length-set}
use Rattle.std.proofs.lemmas.Bool.{and_parts, cases_lt}
use Rattle.std.proofs.lemmas.List.{get_or_append_left, get_or-append_right, take-append-drop, get_or-take, get_or-drop, length-append}
use Rattle.std.proofs.lemmas.List.{length-take-le, length-drop}
use Rattle.std.proofs.Common.{get_or-set_other, get_or-set_same}
use Rattle.std.proofs.lemmas.Nat.{div-add-mod', mod-mul-add}
use Rattle.std.proofs.lemmas.Nat.Bits.{bit_at_and, bit_at_xor, bit_at_cat_high, bit_at_cat_low, bit_at-lt, bit_at-zero}
use Rattle.std.specs.Int.{bit_at}
use Rattle.std.specs.Int.RustNames.{bit_xor}
use Rattle.words.specs.Columns.{column}
use Rattle.words.specs.Flags.{is_one, word_flags}
use Rattle.words.proofs.columns.ColumnLaws.{flag, length-column}
use Rattle.words.proofs.flags.Bits.{length-bits}
use Rattle.words.proofs.theorems.Plain.{at_bits}
use Rattle.words.specs.Transpose.{HalvesExchanged, IsMask, PairExchanged, Transposed, bit_in, high, low}
use Rattle.std.proofs.Common.{eqb-true, lt-ltb, le-ltb, ext_get_or}
use Rattle.std.proofs.Math.Nat.{mod-lt, two-pow-succ}
use Rattle.std.proofs.Common.{eqb, ltb}

-- ---- bits of shifted and cut numbers

pub two-pow : (h : ℕ) → 0 < 2 ^ h
two-pow zero = omega arith
two-pow (suc h) = omega (arith, two-pow-succ h, two-pow h)

bit_down : (x h i : ℕ) → bit_at (x / 2 ^ h) i ≡ bit_at x (h + i)
bit_down x h i =
    let back : h + i - h ≡ i = omega arith in
    sym (ap (λ (n : ℕ). bit_at n (h + i)) (sym (div-add-mod' x (2 ^ h)))
    ∙ bit_at_cat_high (x / 2 ^ h) h (x % 2 ^ h) (h + i) (mod-lt x (two-pow h)) (omega arith) ∙ ap (bit_at (x / 2 ^ h)) back)

bit_cut : (x i : ℕ) → i < 64 → bit_at (x % 2 ^ 64) i ≡ bit_at x i
bit_cut x i p = sym (ap (λ (n : ℕ). bit_at n i) (sym (div-add-mod' x (2 ^ 64))) ∙ bit_at_cat_low (x / 2 ^ 64) 64 (x % 2 ^ 64) i p)

up_low : (x h i : ℕ) → i < h → i < 64 → bit_at (x * 2 ^ h % 2 ^ 64) i ≡ 0
up_low x h i p q =
    let e : x * 2 ^ h ≡ x * 2 ^ h + 0 = omega arith in
    bit_cut (x * 2 ^ h) i q ∙ ap (λ (n : ℕ). bit_at n i) e ∙ bit_at_cat_low x h 0 i p ∙ bit_at-zero i

up_high : (x h i : ℕ) → h + i < 64 → bit_at (x * 2 ^ h % 2 ^ 64) (h + i) ≡ bit_at x i
up_high x h i q =
    let e : x * 2 ^ h ≡ x * 2 ^ h + 0 = omega arith in
    let back : h + i - h ≡ i = omega arith in
    bit_cut (x * 2 ^ h) (h + i) q ∙ ap (λ (n : ℕ). bit_at n (h + i)) e ∙ bit_at_cat_high x h 0 (h + i) (two-pow h) (omega arith)
    ∙ ap (bit_at x) back

-- ---- a pair of rows

module _ (h m x y : ℕ) (w : IsMask h m) where
  abbrev lent : ℕ
  lent = bit_and (bit_xor (x / 2 ^ h) y) m

  -- what is lent in a low place is the difference of the two flags, in a high place nothing
  lent_low : (b c : ℕ) → c < h → high h b c < 64 → bit_at lent (low h b c) ≡ (bit_at x (high h b c) + bit_at y (low h b c)) % 2
  lent_low b c p q =
      let e : h + low h b c ≡ high h b c = omega arith in
      let d = bit_down x h (low h b c) ∙ ap (bit_at x) e in
      let t : bit_at (bit_xor (x / 2 ^ h) y) (low h b c) ≡ (bit_at x (high h b c) + bit_at y (low h b c)) % 2 =
      bit_at_xor (x / 2 ^ h) y (low h b c) ∙ ap (λ (n : ℕ). (n + bit_at y (low h b c)) % 2) d in
      bit_at_and (bit_xor (x / 2 ^ h) y) m (low h b c) ∙ ap₂ (λ (n k : ℕ). min n k) t (w.ones b c p q) ∙ omega arith

  lent_high : (b c : ℕ) → c < h → high h b c < 64 → bit_at lent (high h b c) ≡ 0
  lent_high b c p q =
      bit_at_and (bit_xor (x / 2 ^ h) y) m (high h b c)
      ∙ ap (λ (k : ℕ). min (bit_at (bit_xor (x / 2 ^ h) y) (high h b c)) k) (w.none b c p q) ∙ omega arith

  -- what is lent comes to no low place
  not_lent : (b c : ℕ) → c < h → high h b c < 64 → bit_at (lent * 2 ^ h % 2 ^ 64) (low h b c) ≡ 0
  not_lent zero c p q = up_low lent h (low h zero c) (omega arith) (omega arith)
  not_lent (suc b) c p q =
      let e : low h (suc b) c ≡ h + high h b c = omega arith in
      ap (bit_at (lent * 2 ^ h % 2 ^ 64)) e ∙ up_high lent h (high h b c) (omega arith) ∙ lent_high b c p (omega arith)

  pub exchanged : 0 < h → PairExchanged h x y (bit_xor x (lent * 2 ^ h % 2 ^ 64)) (bit_xor y lent)
  exchanged pos = record {
    first_low = λ b c p q.
        bit_at_xor x (lent * 2 ^ h % 2 ^ 64) (low h b c) ∙ ap (λ (n : ℕ). (bit_at x (low h b c) + n) % 2) (not_lent b c p q)
        ∙ omega (arith, bit_at-lt x (low h b c));
    first_high = λ b c p q.
        let e : h + low h b c ≡ high h b c = omega arith in
        let up : bit_at (lent * 2 ^ h % 2 ^ 64) (high h b c) ≡ bit_at lent (low h b c) =
        ap (bit_at (lent * 2 ^ h % 2 ^ 64)) (sym e) ∙ up_high lent h (low h b c) (omega arith) in
        bit_at_xor x (lent * 2 ^ h % 2 ^ 64) (high h b c) ∙ ap (λ (n : ℕ). (bit_at x (high h b c) + n) % 2) (up ∙ lent_low b c p q)
        ∙ omega (arith, bit_at-lt x (high h b c), bit_at-lt y (low h b c));
    second_low = λ b c p q.
        bit_at_xor y lent (low h b c) ∙ ap (λ (n : ℕ). (bit_at y (low h b c) + n) % 2) (lent_low b c p q)
        ∙ omega (arith, bit_at-lt x (high h b c), bit_at-lt y (low h b c));
    second_high = λ b c p q.
        bit_at_xor y lent (high h b c) ∙ ap (λ (n : ℕ). (bit_at y (high h b c) + n) % 2) (lent_high b c p q)
        ∙ omega (arith, bit_at-lt y (high h b c));
  }

-- ---- the rows of both halves

-- the first i pairs are exchanged, the others as they were
pub record Underway (h : ℕ) (old new : List ℕ) (i : ℕ) : Type 0 where
  pub long : length new ≡ length old
  pub done : (r : ℕ) → r < i → PairExchanged h (get_or old r 0) (get_or old (r + h) 0) (get_or new r 0) (get_or new (r + h) 0)
  pub rest : (r : ℕ) → i ≤ r → r < h → (get_or new r 0 ≡ get_or old r 0) × (get_or new (r + h) 0 ≡ get_or old (r + h) 0)

module _ (h i x y : ℕ) (old new : List ℕ) (inv : Underway h old new i) (inside : i < h) (size : length old ≡ 2 * h)
    (pair : PairExchanged h (get_or new i 0) (get_or new (i + h) 0) x y) where
  abbrev stored : List ℕ
  stored = set (set new i x) (i + h) y

  other : (r : ℕ) → (r ≡ i → ⊥) → (r ≡ i + h → ⊥) → get_or stored r 0 ≡ get_or new r 0
  other r p q = get_or-set_other (set new i x) (i + h) r y 0 q ∙ get_or-set_other new i r x 0 p

  first : get_or stored i 0 ≡ x
  first = get_or-set_other (set new i x) (i + h) i y 0 (λ e. omega arith) ∙ get_or-set_same new i x 0 (omega (arith, inv.long))

  second : get_or stored (i + h) 0 ≡ y
  second = get_or-set_same (set new i x) (i + h) y 0 (omega (arith, length-set new i x, inv.long))

  done_at : (r : ℕ) → r < i + 1 → (r < i) ⊎ (i ≤ r) → PairExchanged h (get_or old r 0) (get_or old (r + h) 0) (get_or stored r 0)
      (get_or stored (r + h) 0)
  done_at r p (inl q) = rw (other r (λ e. omega arith) (λ e. omega arith), other (r + h) (λ e. omega arith) (λ e. omega arith))
      (inv.done r q)
  done_at r p (inr q) =
      let e : r ≡ i = omega arith in
      let kept = inv.rest i (omega arith) inside in
      rw (e, first, second, ← kept.0, ← kept.1) pair

  pub one_more : Underway h old stored (i + 1)
  one_more = record {
    long = omega (arith, length-set (set new i x) (i + h) y, length-set new i x, inv.long);
    done = λ r p. done_at r p (cases_lt r i);
    rest = λ r p q.
        let kept = inv.rest r (omega arith) q in
        (other r (λ e. omega arith) (λ e. omega arith) ∙ kept.0, other (r + h) (λ e. omega arith) (λ e. omega arith) ∙ kept.1);
  }

-- ---- masks

abbrev test : ℕ → ℕ → ℕ → Bool
test h m i = eqb (bit_at m i) (cond (ltb (i % (2 * h)) h) 1 0)

abbrev all_below : ℕ → (ℕ → Bool) → Bool
all_below zero t = true
all_below (suc n) t = t n && all_below n t

at_below : (n : ℕ) (t : ℕ → Bool) (k : ℕ) → all_below n t ≡ true → k < n → t k ≡ true
at_below zero t k e p = absurd (omega arith)
at_below (suc n) t k e p =
    let parts = and_parts (t n) (all_below n t) e in
    elim (cases_lt k n) [ inl q ↦ at_below n t k parts.1 q | inr q ↦ let f : k ≡ n = omega arith in rw f parts.0 ]

from_table : (h m : ℕ) → 0 < h → all_below 64 (test h m) ≡ true → IsMask h m
from_table h m pos e = record {
  ones = λ b c p q. eqb-true _ _ (at_below 64 (test h m) (low h b c) e (omega arith))
      ∙ rw (mod-mul-add b (2 * h) c (omega arith), lt-ltb c h p) refl;
  none = λ b c p q. eqb-true _ _ (at_below 64 (test h m) (high h b c) e q)
      ∙ rw (mod-mul-add b (2 * h) (h + c) (omega arith), le-ltb (h + c) h (omega arith)) refl;
}

pub mask_1 : IsMask 1 0x5555555555555555
mask_1 = from_table 1 0x5555555555555555 (omega arith) refl

pub mask_2 : IsMask 2 0x3333333333333333
mask_2 = from_table 2 0x3333333333333333 (omega arith) refl

pub mask_4 : IsMask 4 0x0f0f0f0f0f0f0f0f
mask_4 = from_table 4 0x0f0f0f0f0f0f0f0f (omega arith) refl

pub mask_8 : IsMask 8 0x00ff00ff00ff00ff
mask_8 = from_table 8 0x00ff00ff00ff00ff (omega arith) refl

pub mask_16 : IsMask 16 0x0000ffff0000ffff
mask_16 = from_table 16 0x0000ffff0000ffff (omega arith) refl

pub mask_32 : IsMask 32 0x00000000ffffffff
mask_32 = from_table 32 0x00000000ffffffff (omega arith) refl

-- ---- a square, by its halves

one_transposed : (l : List ℕ) → Transposed 1 l l
one_transposed l = record {
  long = refl;
  bits = λ b r c p q w.
      let e : r ≡ 0 = omega arith in
      let f : c ≡ 0 = omega arith in
      rw (e, f) refl;
}

module _ (h : ℕ) (old mid up down : List ℕ) (pairs : HalvesExchanged h old mid) (size : length old ≡ 2 * h)
    (upper : Transposed h (take h mid) up) (lower : Transposed h (drop h mid) down) where
  long_up : length up ≡ h
  long_up = upper.long ∙ length-take-le h mid (omega (arith, pairs.long))

  long_down : length down ≡ h
  long_down = omega (arith, lower.long, length-drop h mid, pairs.long)

  at_up : (r : ℕ) → r < h → get_or (up ++ down) r 0 ≡ get_or up r 0
  at_up r p = get_or_append_left up down 0 r (omega (arith, long_up))

  down_at : (r : ℕ) → h ≤ r → get_or (up ++ down) r 0 ≡ get_or down (r - h) 0
  down_at r p = get_or-append_right up down h r 0 long_up p

  -- row c of the second half, counted as the exchange counts it
  mid_at : (c : ℕ) → get_or (drop h mid) c 0 ≡ get_or mid (c + h) 0
  mid_at c = let e : h + c ≡ c + h = omega arith in get_or-drop h mid c 0 ∙ ap (λ (k : ℕ). get_or mid k 0) e

  transposed_at : (b r c : ℕ) → b * (2 * h) + 2 * h ≤ 64 → (r < h) ⊎ (h ≤ r) → (c < h) ⊎ (h ≤ c) → r < 2 * h → c < 2 * h
      → bit_in (up ++ down) r (b * (2 * h) + c) ≡ bit_in old c (b * (2 * h) + r)
  transposed_at b r c w (inl p) (inl q) rr ss =
      let e : b * (2 * h) + c ≡ 2 * b * h + c = omega arith in
      let f : 2 * b * h + r ≡ low h b r = omega arith in
      ap₂ bit_at (at_up r p) e ∙ upper.bits (2 * b) r c p q (omega arith) ∙ ap₂ bit_at (get_or-take h mid c 0 q) f
      ∙ (pairs.pairs c q).first_low b r p (omega arith)
  transposed_at b r c w (inl p) (inr q) rr ss =
      let d : c - h < h = omega arith in
      let e : b * (2 * h) + c ≡ (2 * b + 1) * h + (c - h) = omega arith in
      let f : (2 * b + 1) * h + r ≡ high h b r = omega arith in
      let g : c - h + h ≡ c = omega arith in
      ap₂ bit_at (at_up r p) e ∙ upper.bits (2 * b + 1) r (c - h) p d (omega arith) ∙ ap₂ bit_at (get_or-take h mid (c - h) 0 d) f
      ∙ (pairs.pairs (c - h) d).first_high b r p (omega arith) ∙ ap (λ (k : ℕ). bit_at (get_or old k 0) (low h b r)) g
  transposed_at b r c w (inr p) (inl q) rr ss =
      let d : r - h < h = omega arith in
      let e : b * (2 * h) + c ≡ 2 * b * h + c = omega arith in
      let f : 2 * b * h + (r - h) ≡ low h b (r - h) = omega arith in
      let g : high h b (r - h) ≡ b * (2 * h) + r = omega arith in
      ap₂ bit_at (down_at r p) e ∙ lower.bits (2 * b) (r - h) c d q (omega arith) ∙ ap₂ bit_at (mid_at c) f
      ∙ (pairs.pairs c q).second_low b (r - h) d (omega arith) ∙ ap (bit_at (get_or old c 0)) g
  transposed_at b r c w (inr p) (inr q) rr ss =
      let d : r - h < h = omega arith in
      let x : c - h < h = omega arith in
      let e : b * (2 * h) + c ≡ (2 * b + 1) * h + (c - h) = omega arith in
      let f : (2 * b + 1) * h + (r - h) ≡ high h b (r - h) = omega arith in
      let g : high h b (r - h) ≡ b * (2 * h) + r = omega arith in
      let k : c - h + h ≡ c = omega arith in
      ap₂ bit_at (down_at r p) e ∙ lower.bits (2 * b + 1) (r - h) (c - h) d x (omega arith) ∙ ap₂ bit_at (mid_at (c - h)) f
      ∙ (pairs.pairs (c - h) x).second_high b (r - h) d (omega arith) ∙ ap₂ (λ (n i : ℕ). bit_at (get_or old n 0) i) k g

  pub transposed_halves : Transposed (2 * h) old (up ++ down)
  transposed_halves = record {
    long = omega (arith, length-append up down, long_up, long_down);
    bits = λ b r c p q w. transposed_at b r c w (cases_lt r h) (cases_lt c h) p q;
  }

-- the smallest square has nothing to transpose in its halves
pub transposed_two : (old mid : List ℕ) → HalvesExchanged 1 old mid → length old ≡ 2 → Transposed 2 old mid
transposed_two old mid pairs size =
    subst (Transposed 2 old) (take-append-drop 1 mid)
    (transposed_halves 1 old mid (take 1 mid) (drop 1 mid) pairs size (one_transposed (take 1 mid)) (one_transposed (drop 1 mid)))

-- ---- the block

-- flag r of each row, by position
pub at-column : (rows : List ℕ) (c r : ℕ) → r < length rows → get_or (column rows c) r false ≡ flag (get_or rows r 0) c
unfolding column
at-column [] c r p = absurd (omega arith)
at-column (w ∷ rows) c zero p = refl
at-column (w ∷ rows) c (suc r) p = at-column rows c r (omega arith)

-- each row of the transposed block is a column of the block before
pub transposed_columns : (old new : List ℕ) → Transposed 64 old new → length old ≡ 64
    → (r : ℕ) → r < 64 → word_flags (get_or new r 0) ≡ column old r
transposed_columns old new t long r p =
    ext_get_or false (word_flags (get_or new r 0)) (column old r)
    (length-bits 64 (get_or new r 0) ∙ sym (length-column old r ∙ long))
    (λ c q.
    let s : c < 64 = omega (arith, length-bits 64 (get_or new r 0)) in
    let e : c ≡ 0 * 64 + c = omega arith in
    let f : 0 * 64 + r ≡ r = omega arith in
    let g : bit_at (get_or new r 0) c ≡ bit_at (get_or old c 0) r =
    ap (bit_at (get_or new r 0)) e ∙ t.bits 0 r c p s (omega arith) ∙ ap (bit_at (get_or old c 0)) f in
    at_bits 64 (get_or new r 0) c s ∙ ap is_one g ∙ sym (at_bits 64 (get_or old c 0) r p)
    ∙ sym (at-column old r c (omega (arith, long))))

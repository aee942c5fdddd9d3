-- Words added to bit planes, at any number of planes; the numbers of the columns.
use Rattle.std.proofs.Common.{◌≡◌, refl, sym, ap, ap₂, ◌∙◌, Bool, true, false, ◌&&◌, List, [], ◌∷◌, ◌++◌, append-nil, append_assoc, ℕ, zero}
use Rattle.std.proofs.Common.{suc, ◌+◌, ◌-◌, ◌*◌, ◌%◌, ◌^◌, ◌≤◌, ◌<◌, min, pow-suc, mod-eq_of_lt, zero-add, add-one, arith, bit_and}
use Rattle.std.proofs.Common.{bit_xor, ⊎_elim, length, take, drop, get_or, set, replicate, length-append, drop_of_length-le, drop-drop}
use Rattle.std.proofs.Common.{drop-cons, take-suc-set, drop-set-lt, take_all, get_or-set_same, get_or-set_other}
use Rattle.std.proofs.Math.Bool.{xor}
use Rattle.std.proofs.Math.ListN.{get_or-append}
use Rattle.std.proofs.Math.Seq.{take-append_seam, drop-append_seam, get_or-append_right}
use Rattle.std.proofs.lemmas.List.{take_min}
use Rattle.std.proofs.lemmas.Bool.{cases_lt}
use Rattle.words.specs.Flags.{digit, count}
use Rattle.words.specs.Columns.{column, column_counts}
use Rattle.words.specs.Planes.{planes_at, added, Grown, Totals, Wrote}
use Rattle.words.proofs.columns.ColumnLaws.{flag, flag-and, flag-xor, zero-digit, column-append, column-le, columns-are}
use Rattle.words.proofs.counts.Counting.{count-append}

-- ---- one more word

-- a half adder
half-add : (x y : Bool) → digit (xor x y) + 2 * digit (x && y) ≡ digit x + digit y
unfolding xor
half-add true true = refl
half-add true false = refl
half-add false true = refl
half-add false false = refl

pub doubled : (n x : ℕ) → 2 ^ suc n * x ≡ 2 * (2 ^ n * x)
doubled n x =
    let e : 2 ^ suc n ≡ 2 ^ n * 2 = pow-suc 2 n in ap (λ (y : ℕ). y * x) e ∙ (let f : 2 ^ n * 2 * x ≡ 2 * (2 ^ n * x) = omega arith in f)

-- what the last plane hands on
unfoldable pub carry_of : List ℕ → ℕ → ℕ
carry_of [] w = w
carry_of (p ∷ ps) w = carry_of ps (bit_and p w)

-- at any number of planes, each column's number grows by the word's flag, except for what the last plane hands on
pub adds : (ps : List ℕ) (w c : ℕ) → c < 64
    → planes_at (added ps w) c + 2 ^ length ps * digit (flag (carry_of ps w) c) ≡ planes_at ps c + digit (flag w c)
unfolding planes_at added carry_of
adds [] w c b = omega arith
adds (p ∷ ps) w c b =
    let ih : planes_at (added ps (bit_and p w)) c + 2 ^ length ps * digit (flag (carry_of ps (bit_and p w)) c)
    ≡ planes_at ps c + digit (flag (bit_and p w) c) =
    adds ps (bit_and p w) c b in
    let e : digit (flag (bit_xor p w) c) ≡ digit (xor (flag p c) (flag w c)) = ap digit (flag-xor p w c b) in
    let f : digit (flag (bit_and p w) c) ≡ digit (flag p c && flag w c) = ap digit (flag-and p w c b) in
    let g : 2 ^ suc (length ps) * digit (flag (carry_of ps (bit_and p w)) c)
    ≡ 2 * (2 ^ length ps * digit (flag (carry_of ps (bit_and p w)) c)) =
    doubled (length ps) (digit (flag (carry_of ps (bit_and p w)) c)) in
    omega (arith, half-add (flag p c) (flag w c))

pub none-on : (s n : ℕ) (t : Bool) (k : ℕ) → s + n * digit t ≡ k → k < n → s ≡ k
none-on s n false k e h = omega arith
none-on s n true k e h = absurd (omega arith)

-- if there is room, nothing is handed on
pub adds_one : (ps : List ℕ) (w c : ℕ) → c < 64 → planes_at ps c + digit (flag w c) < 2 ^ length ps
    → planes_at (added ps w) c ≡ planes_at ps c + digit (flag w c)
adds_one ps w c b h =
    none-on (planes_at (added ps w) c) (2 ^ length ps) (flag (carry_of ps w) c) (planes_at ps c + digit (flag w c)) (adds ps w c b) h

pub length-added : (ps : List ℕ) (w : ℕ) → length (added ps w) ≡ length ps
unfolding added
length-added [] w = refl
length-added (p ∷ ps) w = ap suc (length-added ps (bit_and p w))

-- ---- the loop over the planes

-- a word added to the planes above the first k
unfoldable pub added_from : ℕ → List ℕ → ℕ → List ℕ
added_from k ps w = take k ps ++ added (drop k ps) w

pub way_none : (ps : List ℕ) (w : ℕ) → added_from 0 ps w ≡ added ps w
unfolding added_from
way_none ps w = refl

-- a step at plane i; the planes above it have yet to be added to
pub way_step : (ps : List ℕ) (carry i : ℕ) → i < length ps
    → added_from (i + 1) (set ps i (bit_xor (get_or ps i 0) carry)) (bit_and (get_or ps i 0) carry) ≡ added_from i ps carry
unfolding added_from added
way_step ps carry i h =
    ap (λ (n : ℕ). take n (set ps i x) ++ added (drop n (set ps i x)) y) (add-one i)
    ∙ ap₂ (λ (s t : List ℕ). s ++ added t y) (take-suc-set ps i x h) (drop-set-lt (suc i) ps i x (omega arith))
    ∙ append_assoc (take i ps) (x ∷ []) (added (drop (suc i) ps) y)
    ∙ ap (λ (t : List ℕ). take i ps ++ added t carry) (sym (drop-cons ps i 0 h))
  where
    x : ℕ
    x = bit_xor (get_or ps i 0) carry

    y : ℕ
    y = bit_and (get_or ps i 0) carry

pub way_end : (all ps : List ℕ) (carry i : ℕ) → length ps ≤ i → added_from i ps carry ≡ all → ps ≡ all
unfolding added_from added
way_end all ps carry i h e = sym (ap₂ (λ (s t : List ℕ). s ++ added t carry) (take_all i ps h) (drop_of_length-le ps h) ∙ append-nil ps) ∙ e

-- ---- the columns of some words

zeros_at : (n c : ℕ) → c < 64 → planes_at (replicate n 0) c ≡ 0
unfolding planes_at
zeros_at zero c p = refl
zeros_at (suc n) c p = omega (arith, zero-digit c, zeros_at n c p)

pub totals_none : (words : List ℕ) → Totals words (replicate 9 0) words
totals_none words = record {
  nine = refl;
  sums = λ c p. ap (λ (n : ℕ). n + count (column words c)) (zeros_at 9 c p) ∙ zero-add (count (column words c));
}

-- some of the words that were left are added
pub totals_grown : (words ps ws left all new : List ℕ) → length words < 512 → all ≡ ws ++ left → Totals words ps all → Grown ps ws new
    → Totals words new left
totals_grown words ps ws left all new few e t g = record {
  nine = g.alike ∙ t.nine;
  sums = λ c p.
      let n : length ps ≡ 9 = t.nine in
      let more : planes_at ps c + count (column all c) ≡ count (column words c) = t.sums c p in
      let both : count (column all c) ≡ count (column ws c) + count (column left c) =
      ap (λ (l : List ℕ). count (column l c)) e ∙ ap count (column-append ws left c) ∙ count-append (column ws c) (column left c) in
      let room : planes_at ps c + count (column ws c) < 2 ^ length ps = rw n (omega (arith, column-le words c)) in
      omega (arith, g.sums c p room);
}

-- one word that was left is added
pub one_grown : (ps : List ℕ) (w : ℕ) (new : List ℕ) → new ≡ added ps w → Grown ps (w ∷ []) new
unfolding column count
one_grown ps w new e = record {
  alike = ap length e ∙ length-added ps w;
  sums = λ c p room.
      let g : planes_at (added ps w) c ≡ planes_at ps c + digit (flag w c) = adds_one ps w c p (omega arith) in
      ap (λ (t : List ℕ). planes_at t c) e ∙ omega arith;
}

pub one_left : (words ps rest new : List ℕ) (i : ℕ) → length words < 512 → i < length rest → Totals words ps (drop i rest)
    → new ≡ added ps (get_or rest i 0)
    → Totals words new (drop (i + 1) rest)
one_left words ps rest new i few h t e =
    let next : drop i rest ≡ (get_or rest i 0 ∷ []) ++ drop (i + 1) rest =
    drop-cons rest i 0 h ∙ ap (λ (n : ℕ). get_or rest i 0 ∷ drop n rest) (sym (add-one i)) in
    totals_grown words ps (get_or rest i 0 ∷ []) (drop (i + 1) rest) (drop i rest) new few next t (one_grown ps (get_or rest i 0) new e)

-- what is left of the words: their end, after some whole eights
pub record EndOf (words left : List ℕ) : Type 0 where
  pub within : length left ≤ length words
  pub end : left ≡ drop (length words - length left) words
  pub rest : length left % 8 ≡ length words % 8

pub end_none : (words : List ℕ) → EndOf words words
end_none words =
    let e : length words - length words ≡ 0 = omega arith in
    record { within = omega arith; end = ap (λ (n : ℕ). drop n words) (sym e); rest = refl }

pub end_more : (words ws left all : List ℕ) → length ws ≡ 8 → all ≡ ws ++ left → EndOf words all → EndOf words left
end_more words ws left all h e x =
    let n : length all ≡ 8 + length left = ap length e ∙ length-append ws left ∙ ap (λ (k : ℕ). k + length left) h in
    let k : length words - length all + 8 ≡ length words - length left = omega (arith, x.within) in
    record {
      within = omega (arith, x.within);
      end = sym (ap (λ (i : ℕ). drop i (ws ++ left)) (sym h) ∙ drop-append_seam ws left) ∙ ap (drop 8) (sym e) ∙ ap (drop 8) x.end
          ∙ drop-drop 8 (length words - length all) words ∙ ap (λ (i : ℕ). drop i words) k;
      rest = omega (arith, x.rest);
    }

pub end_all : (words left rest : List ℕ) → EndOf words left → length left < 8 → rest ≡ drop (length words - length words % 8) words
    → left ≡ rest
end_all words left rest x h e =
    let n : length left ≡ length words % 8 = sym (mod-eq_of_lt h) ∙ x.rest in
    x.end ∙ ap (λ (i : ℕ). drop (length words - i) words) n ∙ sym e

pub wrote_none : (ps : List ℕ) (s : ℕ) (out : List ℕ) → Wrote ps s out 0
unfolding Wrote
wrote_none ps s out c p = absurd (omega arith)

pub wrote_step : (ps : List ℕ) (s : ℕ) (out : List ℕ) (k v : ℕ) → k < length out → Wrote ps s out k → v ≡ planes_at ps (s + k)
    → Wrote ps s (set out k v) (k + 1)
unfolding Wrote
wrote_step ps s out k v h inv e c p = ⊎_elim
    (λ (l : c < k). get_or-set_other out k c v 0 (λ f. omega arith) ∙ inv c l)
    (λ (l : k ≤ c).
    let f : c ≡ k = omega arith in
    ap (λ (x : ℕ). get_or (set out k v) x 0) f ∙ get_or-set_same out k v 0 h ∙ e ∙ ap (λ (x : ℕ). planes_at ps (s + x)) (sym f))
    (cases_lt c k)

-- two halves
pub wrote_both : (ps low high : List ℕ) → length low ≡ 32 → Wrote ps 0 low 32 → Wrote ps 32 high 32 → Wrote ps 0 (low ++ high) 64
unfolding Wrote
wrote_both ps low high long a b c p = ⊎_elim
    (λ (l : c < 32). get_or-append low high 0 c (omega arith) ∙ a c l)
    (λ (l : 32 ≤ c).
    let e : c - length low ≡ c - 32 = omega arith in
    let f : 32 + (c - 32) ≡ 0 + c = omega arith in
    get_or-append_right low high c 0 (omega arith) ∙ ap (λ (n : ℕ). get_or high n 0) e ∙ b (c - 32) (omega arith) ∙ ap (planes_at ps) f)
    (cases_lt c 32)

-- two halves written, the first before zeros
pub wrote_halves : (ps low zeros high : List ℕ) → length low ≡ 32 → length zeros ≡ 32 → Wrote ps 0 low 32 → Wrote ps 32 high 32
    → Wrote ps 0 (take 32 (low ++ zeros) ++ (high ++ drop 32 (drop 32 (low ++ zeros)))) 64
wrote_halves ps low zeros high long same a b =
    let e : take 32 (low ++ zeros) ≡ low = ap (λ (n : ℕ). take n (low ++ zeros)) (sym long) ∙ take-append_seam low zeros in
    let f : drop 32 (drop 32 (low ++ zeros)) ≡ [] =
    drop-drop 32 32 (low ++ zeros) ∙ drop_of_length-le (low ++ zeros) {i = 64} (omega (arith, length-append low zeros)) in
    let g : take 32 (low ++ zeros) ++ (high ++ drop 32 (drop 32 (low ++ zeros))) ≡ low ++ high =
    ap₂ (λ (s t : List ℕ). s ++ (high ++ t)) e f ∙ ap (λ (t : List ℕ). low ++ t) (append-nil high) in
    rw g (wrote_both ps low high long a b)

-- the planes above the first k make the rest of a number, times 2 ^ k
planes-split : (ps : List ℕ) (k c : ℕ) → planes_at ps c ≡ planes_at (take k ps) c + 2 ^ k * planes_at (drop k ps) c
unfolding planes_at
planes-split ps zero c = omega arith
planes-split [] (suc k) c = omega arith
planes-split (p ∷ ps) (suc k) c =
    let d : 2 ^ suc k * planes_at (drop k ps) c ≡ 2 * (2 ^ k * planes_at (drop k ps) c) = doubled k (planes_at (drop k ps) c) in
    omega (arith, planes-split ps k c)

-- so a number below 32 has all its digits in the first five planes
planes-few : (n m r : ℕ) → n ≡ m + 32 * r → n < 32 → m ≡ n
planes-few n m r e h = omega arith

five-planes : (ps : List ℕ) → length ps ≡ 9
    → take 5 ps ≡ get_or ps 0 0 ∷ get_or ps 1 0 ∷ get_or ps 2 0 ∷ get_or ps 3 0 ∷ get_or ps 4 0 ∷ []
five-planes (a ∷ b ∷ c ∷ d ∷ e ∷ ps) h = refl
five-planes [] h = absurd (omega arith)
five-planes (a ∷ []) h = absurd (omega arith)
five-planes (a ∷ b ∷ []) h = absurd (omega arith)
five-planes (a ∷ b ∷ c ∷ []) h = absurd (omega arith)
five-planes (a ∷ b ∷ c ∷ d ∷ []) h = absurd (omega arith)

-- fewer than 32 words: five planes have the sums
pub wrote-few : (words ps few out : List ℕ) → length words < 32 → Totals words ps []
    → few ≡ get_or ps 0 0 ∷ get_or ps 1 0 ∷ get_or ps 2 0 ∷ get_or ps 3 0 ∷ get_or ps 4 0 ∷ [] → Wrote few 0 out 64 → Wrote ps 0 out 64
unfolding Wrote column count
wrote-few words ps few out h t e w c p =
    let f : few ≡ take 5 ps = e ∙ sym (five-planes ps t.nine) in
    let z : planes_at ps (0 + c) ≡ planes_at ps c = ap (planes_at ps) (zero-add c) in
    let s : planes_at ps c + 0 ≡ count (column words c) = t.sums c p in
    let n : planes_at ps (0 + c) < 32 = omega (arith, column-le words c) in
    w c p ∙ ap (λ (l : List ℕ). planes_at l (0 + c)) f
    ∙ planes-few (planes_at ps (0 + c)) (planes_at (take 5 ps) (0 + c)) (planes_at (drop 5 ps) (0 + c)) (planes-split ps 5 (0 + c)) n

-- the numbers of planes that have the sums of all words
pub counted : (words ps out : List ℕ) → Totals words ps [] → length out ≡ 64 → Wrote ps 0 out 64 → out ≡ column_counts words
unfolding Wrote column count
counted words ps out t long w = columns-are words out long (λ c p.
    let e : planes_at ps c + 0 ≡ count (column words c) = t.sums c p in
    let z : 0 + c ≡ c = omega arith in
    w c p ∙ ap (planes_at ps) z ∙ omega arith)

-- the numbers of planes that have the sums of the first words
pub counted_first : (n m : ℕ) (words ps out : List ℕ) → m ≡ min n (length words) → Totals (take m words) ps [] → length out ≡ 64
    → Wrote ps 0 out 64 → out ≡ column_counts (take n words)
counted_first n m words ps out e t long w =
    counted (take m words) ps out t long w ∙ ap (λ (x : ℕ). column_counts (take x words)) e ∙ ap column_counts (take_min n words)

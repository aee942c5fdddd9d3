-- Words added eight at a time, by full adders in each column.
use Rattle.std.proofs.Common.{◌≡◌, refl, sym, ap, ap₂, ◌∙◌, Bool, true, false, ◌&&◌, ◌||◌, List, [], ◌∷◌, ◌++◌, append-nil, ℕ, zero, suc}
use Rattle.std.proofs.Common.{◌+◌, ◌*◌, ◌^◌, ◌≤◌, ◌<◌, arith, bit_and, bit_or, bit_xor, length, take, drop, get_or, set, length-set}
use Rattle.std.proofs.Common.{length-drop, take_all, drop_of_length-le, take-append-drop, get_or-set_other}
use Rattle.std.proofs.Math.Bool.{xor}
use Rattle.words.specs.Flags.{digit, count}
use Rattle.words.specs.Columns.{column}
use Rattle.words.specs.Planes.{digit_of, planes_at, added, Added, FourMore, Grown}
use Rattle.words.proofs.columns.ColumnLaws.{flag, flag-and, flag_or, flag-xor, column-append}
use Rattle.words.proofs.counts.Counting.{count-append}
use Rattle.words.proofs.planes.PlaneLaws.{added_from, adds, carry_of, doubled, none-on, length-added}

-- ---- three words at once

-- a full adder
full : (x y z : Bool) → digit (xor (xor x y) z) + 2 * digit ((x && y) || (xor x y && z)) ≡ digit x + digit y + digit z
unfolding xor
full true true true = refl
full true true false = refl
full true false true = refl
full true false false = refl
full false true true = refl
full false true false = refl
full false false true = refl
full false false false = refl

pub full-adds : (x y z : ℕ) → Added x y z (bit_xor (bit_xor x y) z) (bit_or (bit_and x y) (bit_and (bit_xor x y) z))
unfolding Added
full-adds x y z c p =
    let u : flag (bit_xor x y) c ≡ xor (flag x c) (flag y c) = flag-xor x y c p in
    let e : flag (bit_xor (bit_xor x y) z) c ≡ xor (xor (flag x c) (flag y c)) (flag z c) =
    flag-xor (bit_xor x y) z c p ∙ ap (λ (t : Bool). xor t (flag z c)) u in
    let f : flag (bit_or (bit_and x y) (bit_and (bit_xor x y) z)) c ≡ ((flag x c && flag y c) || (xor (flag x c) (flag y c) && flag z c)) =
    flag_or (bit_and x y) (bit_and (bit_xor x y) z) c p
    ∙ ap₂ ◌||◌ (flag-and x y c p) (flag-and (bit_xor x y) z c p ∙ ap (λ (t : Bool). t && flag z c) u) in
    ap₂ (λ (s t : Bool). digit s + 2 * digit t) e f ∙ full (flag x c) (flag y c) (flag z c)

-- four words by three full adders
pub four-more : (ws : List ℕ) (p q a1 a2 b1 b2 c1 c2 : ℕ) → length ws ≡ 4
    → Added p (get_or ws 0 0) (get_or ws 1 0) a1 a2 → Added a1 (get_or ws 2 0) (get_or ws 3 0) b1 b2 → Added q a2 b2 c1 c2
    → FourMore ws p q b1 c1 c2
unfolding Added FourMore column count
four-more [] p q a1 a2 b1 b2 c1 c2 h f g k c d = absurd (omega arith)
four-more (w ∷ []) p q a1 a2 b1 b2 c1 c2 h f g k c d = absurd (omega arith)
four-more (w ∷ x ∷ []) p q a1 a2 b1 b2 c1 c2 h f g k c d = absurd (omega arith)
four-more (w ∷ x ∷ y ∷ []) p q a1 a2 b1 b2 c1 c2 h f g k c d = absurd (omega arith)
four-more (w ∷ x ∷ y ∷ z ∷ []) p q a1 a2 b1 b2 c1 c2 h f g k c d = omega (arith, f c d, g c d, k c d)
four-more (w ∷ x ∷ y ∷ z ∷ u ∷ ws) p q a1 a2 b1 b2 c1 c2 h f g k c d = absurd (omega arith)

-- ---- adding to the planes above the first k

-- a word added to the planes above the first k: each number grows by the flag times 2 ^ k
adds-from : (k : ℕ) (ps : List ℕ) (w c : ℕ) → c < 64 → k ≤ length ps
    → planes_at (added_from k ps w) c + 2 ^ length ps * digit_of (carry_of (drop k ps) w) c ≡ planes_at ps c + 2 ^ k * digit_of w c
unfolding added_from planes_at
adds-from zero ps w c b h =
    adds ps w c b ∙ (let e : planes_at ps c + digit_of w c ≡ planes_at ps c + 2 ^ 0 * digit_of w c = omega arith in e)
adds-from (suc k) [] w c b h = absurd (omega arith)
adds-from (suc k) (p ∷ ps) w c b h =
    omega (arith, adds-from k ps w c b (omega arith), doubled (length ps) (digit_of (carry_of (drop k ps) w) c), doubled k (digit_of w c))

length_from : (k : ℕ) (ps : List ℕ) (w : ℕ) → length (added_from k ps w) ≡ length ps
unfolding added_from
length_from zero ps w = length-added ps w
length_from (suc k) [] w = length-added [] w
length_from (suc k) (p ∷ ps) w = ap suc (length_from k ps w)

-- another plane in place of plane i
replaced : (ps : List ℕ) (i x c : ℕ) → i < length ps
    → planes_at (set ps i x) c + 2 ^ i * digit_of (get_or ps i 0) c ≡ planes_at ps c + 2 ^ i * digit_of x c
unfolding planes_at
replaced [] i x c h = absurd (omega arith)
replaced (p ∷ ps) zero x c h = omega arith
replaced (p ∷ ps) (suc i) x c h =
    omega (arith, replaced ps i x c (omega arith), doubled i (digit_of (get_or ps i 0) c), doubled i (digit_of x c))

-- eight words: two fours and a full adder; what is left is added to plane 3 and those above it
module _ (ps ws second new : List ℕ) (a1 a2 a4 b1 b2 b4 d1 d2 : ℕ) (nine : length ps ≡ 9)
    (f : FourMore (take 4 ws) (get_or ps 0 0) (get_or ps 1 0) a1 a2 a4) (m : second ≡ drop 4 ws) (g : FourMore second a1 a2 b1 b2 b4)
    (k : Added (get_or ps 2 0) a4 b4 d1 d2) where
  abbrev stored : List ℕ
  stored = set (set (set ps 0 b1) 1 b2) 2 d1

  module _ (e : new ≡ added_from 3 stored d2) where
    long : length stored ≡ 9
    long = simp length-set nine

    eight_sum : (c : ℕ) → c < 64 → planes_at ps c + count (column ws c) < 2 ^ length ps
        → planes_at new c ≡ planes_at ps c + count (column ws c)
    unfolding FourMore Added
    eight_sum c p room =
        let n1 : length (set ps 0 b1) ≡ 9 = length-set ps 0 b1 ∙ nine in
        let n2 : length (set (set ps 0 b1) 1 b2) ≡ 9 = length-set (set ps 0 b1) 1 b2 ∙ n1 in
        let o1 : get_or (set ps 0 b1) 1 0 ≡ get_or ps 1 0 = get_or-set_other ps 0 1 b1 0 (λ q. omega arith) in
        let o2 : get_or (set (set ps 0 b1) 1 b2) 2 0 ≡ get_or ps 2 0 =
        get_or-set_other (set ps 0 b1) 1 2 b2 0 (λ q. omega arith) ∙ get_or-set_other ps 0 2 b1 0 (λ q. omega arith) in
        let r0 : planes_at (set ps 0 b1) c + digit_of (get_or ps 0 0) c ≡ planes_at ps c + digit_of b1 c =
        omega (arith, replaced ps 0 b1 c (omega arith)) in
        let r1 : planes_at (set (set ps 0 b1) 1 b2) c + 2 * digit_of (get_or ps 1 0) c ≡ planes_at (set ps 0 b1) c + 2 * digit_of b2 c =
        ap (λ (x : ℕ). planes_at (set (set ps 0 b1) 1 b2) c + 2 * digit_of x c) (sym o1) ∙ replaced (set ps 0 b1) 1 b2 c (omega arith) in
        let r2 : planes_at stored c + 4 * digit_of (get_or ps 2 0) c ≡ planes_at (set (set ps 0 b1) 1 b2) c + 4 * digit_of d1 c =
        ap (λ (x : ℕ). planes_at stored c + 4 * digit_of x c) (sym o2) ∙ replaced (set (set ps 0 b1) 1 b2) 2 d1 c (omega arith) in
        let both : count (column ws c) ≡ count (column (take 4 ws) c) + count (column second c) =
        ap (λ (l : List ℕ). count (column l c)) (sym (take-append-drop 4 ws) ∙ ap (λ (l : List ℕ). take 4 ws ++ l) (sym m))
        ∙ ap count (column-append (take 4 ws) second c) ∙ count-append (column (take 4 ws) c) (column second c) in
        let t : planes_at stored c + 8 * digit_of d2 c ≡ planes_at ps c + count (column ws c) = omega (arith, f c p, g c p, k c p) in
        let h : planes_at (added_from 3 stored d2) c + 2 ^ length stored * digit_of (carry_of (drop 3 stored) d2) c
        ≡ planes_at ps c + count (column ws c) =
        adds-from 3 stored d2 c p (omega (arith, long)) ∙ t in
        let few : planes_at ps c + count (column ws c) < 2 ^ length stored =
        rw long (rw nine at room) in
        ap (λ (l : List ℕ). planes_at l c) e
        ∙ none-on (planes_at (added_from 3 stored d2) c) (2 ^ length stored) (flag (carry_of (drop 3 stored) d2) c)
        (planes_at ps c + count (column ws c)) h few

    pub eight_grown : Grown ps ws new
    eight_grown = record { alike = ap length e ∙ length_from 3 stored d2 ∙ long ∙ sym nine; sums = eight_sum }

-- the planes above the first k, as they were lent and came back
pub added_part : (ps part : List ℕ) (k n w : ℕ) → length ps ≡ k + n → part ≡ added (take n (drop k ps)) w
    → take k ps ++ (part ++ drop n (drop k ps)) ≡ added_from k ps w
unfolding added_from
added_part ps part k n w h e =
    let long : length (drop k ps) ≤ n = omega (arith, length-drop k ps) in
    ap (λ (l : List ℕ). take k ps ++ l)
    (ap (λ (l : List ℕ). part ++ l) (drop_of_length-le (drop k ps) long) ∙ append-nil part ∙ e
    ∙ ap (λ (l : List ℕ). added l w) (take_all n (drop k ps) long))

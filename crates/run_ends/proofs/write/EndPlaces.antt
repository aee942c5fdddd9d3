-- Where runs end: the positions of the flags that differ from the one before them, word by word, and the end of the list; and numbers
-- written over a list one after the other.
use Rattle.std.proofs.Common.{◌≡◌, ℕ, zero, suc, ◌+◌, ◌-◌, ◌^◌, ◌≤◌, ◌<◌, ℤ, pos, Bool, true, false, List, [], ◌∷◌, ◌++◌}
use Rattle.std.proofs.Common.{length, map, take, drop, get_or, set, refl, sym, ap, ap₂, ◌∙◌, arith, append_assoc, take-append-drop}
use Rattle.std.proofs.Common.{take_all, take_at, length-append}
use Rattle.std.proofs.Math.Bool.{xor}
use Rattle.words.specs.Changes.{changes, without_first}
use Rattle.words.specs.Ends.{leading}
use Rattle.words.specs.Flags.{bits, over, window, word_flags}
use Rattle.words.proofs.changes.ChangeLaws.{changes-append, changes-take, length-changes, some_set}
use Rattle.words.proofs.flags.Bits.{length-bits}
use Rattle.words.proofs.flags.Windows.{length-window, length_over, over_none, window-add}
use Rattle.masks.specs.TrueIdx.{ones_from}
use Rattle.masks.proofs.true_idx.PositionRuns.{ones-append, padded}
use Rattle.run_ends.specs.Write.{ends_from, written_ends}
use Rattle.run_ends.specs.WriteWorkers.{put_from, set_places}

-- ---- written over a list from an element on

put-none : (l : List ℤ) (n : ℕ) → put_from l n [] ≡ l
unfolding put_from
put-none l n = ap (λ (m : List ℤ). take n l ++ m) (over_none (drop n l)) ∙ take-append-drop n l

-- the first number is set, the others are written after it
put-one : (l : List ℤ) (n : ℕ) (x : ℤ) (m : List ℤ) → n < length l → put_from l n (x ∷ m) ≡ put_from (set l n x) (suc n) m
unfolding put_from over
put-one [] n x m h = absurd (omega arith)
put-one (y ∷ l) zero x m h = refl
put-one (y ∷ l) (suc n) x m h = ap (λ (k : List ℤ). y ∷ k) (put-one l n x m (omega arith))

length-put : (l : List ℤ) (n : ℕ) (m : List ℤ) → length (put_from l n m) ≡ length l
unfolding put_from over
length-put [] zero m = refl
length-put [] (suc n) m = refl
length-put (x ∷ l) zero m = length_over (x ∷ l) m
length-put (x ∷ l) (suc n) m = ap suc (length-put l n m)

length-set : (l : List ℤ) (n : ℕ) (x : ℤ) → length (set l n x) ≡ length l
length-set [] n x = refl
length-set (y ∷ l) zero x = refl
length-set (y ∷ l) (suc n) x = ap suc (length-set l n x)

put-append : (l : List ℤ) (n : ℕ) (a b : List ℤ) → n + length a ≤ length l
    → put_from l n (a ++ b) ≡ put_from (put_from l n a) (n + length a) b
put-append l n [] b h =
    let e : n ≡ n + 0 = omega arith in
    ap₂ (λ (k : List ℤ) (i : ℕ). put_from k i b) (sym (put-none l n)) e
put-append l n (x ∷ a) b h =
    let e : suc n + length a ≡ n + suc (length a) = omega arith in
    put-one l n x (a ++ b) (omega arith)
    ∙ put-append (set l n x) (suc n) a b (omega (arith, length-set l n x))
    ∙ ap₂ (λ (k : List ℤ) (i : ℕ). put_from k i b) (sym (put-one l n x a (omega arith))) e

put-front : (l m : List ℤ) → put_from l 0 m ≡ over l m
unfolding put_from
put-front l m = refl

-- ---- an output under way: writing what is left, at the count, ends in the whole

pub record UnderWay (whole now : List ℤ) (count : ℕ) (left : List ℤ) : Type 0 where
  pub filled : put_from now count left ≡ whole
  pub room : count + length left ≤ length now

pub begins : (old all : List ℤ) → length all ≤ length old → UnderWay (over old all) old 0 all
begins old all h = record { filled = put-front old all; room = omega arith }

pub finished : (whole now : List ℤ) (count : ℕ) (left : List ℤ) → UnderWay whole now count left → left ≡ [] → now ≡ whole
finished whole now count left u e = sym (put-none now count) ∙ ap (put_from now count) (sym e) ∙ u.filled

pub one-on : (whole now : List ℤ) (count : ℕ) (left : List ℤ) (x : ℤ) (m next : List ℤ) → UnderWay whole now count left → left ≡ x ∷ m
    → next ≡ set now count x → UnderWay whole next (count + 1) m
one-on whole now count left x m next u e p =
    let s : suc count ≡ count + 1 = omega arith in
    let long : length left ≡ suc (length m) = ap length e in
    let room = u.room in
    record {
      filled =
          ap₂ (λ (l : List ℤ) (n : ℕ). put_from l n m) p (sym s) ∙ sym (put-one now count x m (omega arith))
          ∙ ap (put_from now count) (sym e) ∙ u.filled;
      room = omega (arith, ap length p, length-set now count x);
    }

pub part-on : (whole now : List ℤ) (count : ℕ) (left a b next : List ℤ) (r : ℕ) → UnderWay whole now count left → left ≡ a ++ b
    → next ≡ put_from now count a → r ≡ count + length a → UnderWay whole next r b
part-on whole now count left a b next r u e p q =
    let long : length left ≡ length a + length b = ap length e ∙ length-append a b in
    let room = u.room in
    record {
      filled =
          ap₂ (λ (l : List ℤ) (n : ℕ). put_from l n b) p q ∙ sym (put-append now count a b (omega arith))
          ∙ ap (put_from now count) (sym e) ∙ u.filled;
      room = omega (arith, ap length p, length-put now count a);
    }

-- ---- the set flags of a word, one by one

first-set : (k : ℕ) (l : List Bool) → leading false l < length l
    → ones_from k l ≡ (k + leading false l) ∷ ones_from k (without_first l)
unfolding ones_from leading without_first
first-set k [] h = absurd (omega arith)
first-set k (true ∷ l) h = let e : k ≡ k + 0 = omega arith in ap (λ (i : ℕ). i ∷ ones_from (suc k) l) e
first-set k (false ∷ l) h =
    let e : suc k + leading false l ≡ k + suc (leading false l) = omega arith in
    first-set (suc k) l (omega arith) ∙ ap (λ (i : ℕ). i ∷ ones_from (suc k) (without_first l)) e

-- of a word that is not 0: the first set flag, and those of the word without it
pub next-place : (k w z v : ℕ) → 0 < w → w < 2 ^ 64 → z ≡ leading false (take 64 (bits 64 w)) → bits 64 v ≡ without_first (bits 64 w)
    → (set_places k w ≡ pos (k + z) ∷ set_places k v) × (z < 64)
next-place k w z v h q e p =
    let long : length (bits 64 w) ≡ 64 = length-bits 64 w in
    let f : z ≡ leading false (bits 64 w) = e ∙ ap (leading false) (take_all 64 (bits 64 w) (omega arith)) in
    let some = some_set 64 w h q in (
      ap (map pos)
          (first-set k (bits 64 w) (omega arith)
          ∙ ap₂ (λ (i : ℕ) (l : List Bool). (k + i) ∷ ones_from k l) (sym f) (sym p)),
      omega arith,
    )

-- it is one of 64, and there is one
pub some-place : (k w z : ℕ) → 0 < w → w < 2 ^ 64 → z ≡ leading false (take 64 (bits 64 w)) → (z < 64) × (0 < length (set_places k w))
some-place k w z h q e =
    let long : length (bits 64 w) ≡ 64 = length-bits 64 w in
    let f : z ≡ leading false (bits 64 w) = e ∙ ap (leading false) (take_all 64 (bits 64 w) (omega arith)) in
    let some = some_set 64 w h q in (
      omega arith,
      omega (arith, ap (λ (l : List ℕ). length (map pos l)) (first-set k (bits 64 w) (omega arith))),
    )

pub no-place : (k w : ℕ) → w ≡ 0 → set_places k w ≡ []
unfolding ones_from bits
no-place k w e = rw e refl

-- ---- ends by flags that differ

-- the end of the list, counted from one position on
far : (p : ℕ) (x : Bool) (l : List Bool) (m : List ℕ)
    → m ≡ ones_from (suc (suc p)) (changes x l) ++ ((suc (suc p) + length l) ∷ [])
    → m ≡ ones_from (suc (suc p)) (changes x l) ++ ((suc p + suc (length l)) ∷ [])
far p x l m e =
    let f : suc (suc p) + length l ≡ suc p + suc (length l) = omega arith in
    e ∙ ap (λ (k : ℕ). ones_from (suc (suc p)) (changes x l) ++ (k ∷ [])) f

ends-changes : (p : ℕ) (x : Bool) (l : List Bool)
    → ends_from p (x ∷ l) ≡ ones_from (suc p) (changes x l) ++ ((suc p + length l) ∷ [])
unfolding ends_from changes ones_from xor
ends-changes p x [] = let e : suc p ≡ suc p + 0 = omega arith in ap (λ (k : ℕ). k ∷ []) e
ends-changes p true (true ∷ l) = far p true l _ (ends-changes (suc p) true l)
ends-changes p true (false ∷ l) = ap (λ (m : List ℕ). suc p ∷ m) (far p false l _ (ends-changes (suc p) false l))
ends-changes p false (true ∷ l) = ap (λ (m : List ℕ). suc p ∷ m) (far p true l _ (ends-changes (suc p) true l))
ends-changes p false (false ∷ l) = far p false l _ (ends-changes (suc p) false l)

-- the ends that are left to be written from position `at` on, of n flags of F that start at s; the flag before is x
abbrev pub ends_left : List Bool → ℕ → ℕ → Bool → ℕ → List ℤ
ends_left F s n x at = map pos (ones_from at (changes x (window F (s + at) (n - at))) ++ (n ∷ []))

pub all-left : (F : List Bool) (s n : ℕ) (x : Bool) → 0 < n → x ≡ get_or F s false
    → written_ends (window F s n) ≡ ends_left F s n x 0
unfolding window changes ones_from xor
all-left F s zero x h e = absurd (omega arith)
all-left F s (suc n) x h e =
    let z : s + 0 ≡ s = omega arith in
    let m : suc n - 0 ≡ suc n = omega arith in
    let y = get_or F s false in
    let l = window F (suc s) n in
    let end : suc 0 + length l ≡ suc n = omega (arith, length-window F (suc s) n) in
    ap (map pos)
    (ends-changes 0 y l ∙ ap (λ (k : ℕ). ones_from 1 (changes y l) ++ (k ∷ [])) end
    ∙ ap (λ (k : List ℕ). k ++ (suc n ∷ [])) (first-same y l)
    ∙ ap₂ (λ (t : Bool) (k : ℕ). ones_from 0 (changes t (window F k (suc n))) ++ (suc n ∷ [])) (sym e) (sym z)
    ∙ ap (λ (k : ℕ). ones_from 0 (changes x (window F (s + 0) k)) ++ (suc n ∷ [])) (sym m))
  where
    first-same : (y : Bool) (l : List Bool) → ones_from 1 (changes y l) ≡ ones_from 0 (changes y (y ∷ l))
    first-same true l = refl
    first-same false l = refl

map-append : (a b : List ℕ) → map pos (a ++ b) ≡ map pos a ++ map pos b
map-append [] b = refl
map-append (x ∷ a) b = ap (λ (l : List ℤ). pos x ∷ l) (map-append a b)

-- one more whole word
pub word-left : (F : List Bool) (s n : ℕ) (x : Bool) (at w c : ℕ) → at + 64 ≤ n → word_flags w ≡ window F (s + at) 64
    → word_flags c ≡ changes x (word_flags w)
    → ends_left F s n x at ≡ set_places at c ++ ends_left F s n (get_or (word_flags w) 63 false) (at + 64)
word-left F s n x at w c h p q =
    let e : n - at ≡ 64 + (n - (at + 64)) = omega arith in
    let f : s + at + 64 ≡ s + (at + 64) = omega arith in
    let rest = window F (s + (at + 64)) (n - (at + 64)) in
    let y = get_or (word_flags w) 63 false in
    let long : length (changes x (word_flags w)) ≡ 64 = length-changes x (word_flags w) ∙ length-bits 64 w in
    ap (map pos)
    (ap (λ (l : List Bool). ones_from at (changes x l) ++ (n ∷ []))
    (ap (window F (s + at)) e ∙ window-add F (s + at) 64 (n - (at + 64))
    ∙ ap₂ (λ (l : List Bool) (k : ℕ). l ++ window F k (n - (at + 64))) (sym p) f)
    ∙ ap (λ (l : List Bool). ones_from at l ++ (n ∷ [])) (changes-append x (word_flags w) rest 63 (length-bits 64 w))
    ∙ ap (λ (l : List ℕ). l ++ (n ∷ [])) (ones-append at (changes x (word_flags w)) (changes y rest)
    ∙ ap₂ (λ (l : List Bool) (k : ℕ). ones_from at l ++ ones_from (at + k) (changes y rest)) (sym q) long)
    ∙ append_assoc (ones_from at (word_flags c)) (ones_from (at + 64) (changes y rest)) (n ∷ []))
    ∙ map-append (ones_from at (word_flags c)) (ones_from (at + 64) (changes y rest) ++ (n ∷ []))

window-first : (F : List Bool) (k a b : ℕ) → a ≤ b → take a (window F k b) ≡ window F k a
window-first F k a b h =
    let e : b ≡ a + (b - a) = omega arith in
    ap (λ (i : ℕ). take a (window F k i)) e ∙ ap (take a) (window-add F k a (b - a))
    ∙ take_at (window F k a) (window F (k + a) (b - a)) a (length-window F k a)

-- the last word, of which fewer than 64 flags are left
pub last-left : (F : List Bool) (s n : ℕ) (x : Bool) (at w c r : ℕ) → at ≤ n → n - at ≤ 64 → word_flags w ≡ window F (s + at) 64
    → word_flags c ≡ changes x (word_flags w) → word_flags r ≡ window (take (n - at) (word_flags c)) 0 64
    → ends_left F s n x at ≡ set_places at r ++ (pos n ∷ [])
last-left F s n x at w c r h k p q t =
    let m = window F (s + at) (n - at) in
    let z : s + at + 0 ≡ s + at = omega arith in
    let long : length (changes x m) ≡ n - at = length-changes x m ∙ length-window F (s + at) (n - at) in
    let cut : take (n - at) (word_flags w) ≡ m = ap (take (n - at)) p ∙ window-first F (s + at) (n - at) 64 k in
    let same : ones_from at (word_flags r) ≡ ones_from at (changes x m) =
    ap (ones_from at)
    (t ∙ ap (λ (l : List Bool). window (take (n - at) l) 0 64) q
    ∙ ap (λ (l : List Bool). window l 0 64) (changes-take x (word_flags w) (n - at) ∙ ap (changes x) cut))
    ∙ padded (changes x m) at 64 (omega arith) in
    ap (λ (l : List ℕ). map pos (l ++ (n ∷ []))) (sym same) ∙ map-append (ones_from at (word_flags r)) (n ∷ [])

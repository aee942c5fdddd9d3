-- The plain reading of `Flags`, `Ops`, `Loops`, `Merge`, `Nth`, `Counts` and `all_equal` of specs/: how long each list is, what its flag j
-- is, what is counted and what is found. A reading that is a law of another file is named, not repeated.
--
-- `digit`, `bit_at`, `flag_at` and `op_of` are plain as they are. Flag j of a list l is `get_or l j false`: false past its end.
use Rattle.std.specs.Prelude.{Ok, Err}
use Rattle.std.proofs.Common.{◌≡◌, refl, sym, ap, ◌∙◌, Bool, true, false, List, [], ◌∷◌, ◌++◌, ⊎_elim, ℕ, zero, suc, ◌+◌, ◌-◌, ◌*◌, ◌/◌}
use Rattle.std.proofs.Common.{◌%◌, ◌^◌, ◌≤◌, ◌<◌, min, zero-add, div-one, mod-lt, zero-lt-suc, arith, length, take, drop, get_or}
use Rattle.std.proofs.Common.{length-append, length-take, length-drop, get_or-take, get_or-drop, get_or-append-add, length-take-le, eqb}
use Rattle.std.proofs.Common.{lt-ltb, le-ltb}
use Rattle.std.proofs.Math.Bool.{xor}
use Rattle.std.proofs.Math.ListN.{get_or-eq_default, get_or-append}
use Rattle.std.proofs.Math.Nat.{zero-div}
use Rattle.std.proofs.lemmas.Bool.{cases_lt}
use Rattle.words.specs.Flags.{is_one, digit, bit_at, flag_at, bits, word_of, flags_of, copies, count, window, over, over_at}
use Rattle.words.specs.Counts.{any_set, same_flags}
use Rattle.words.specs.Loops.{stretch, combined, whole_words}
use Rattle.words.specs.Merge.{merged}
use Rattle.words.specs.Nth.{nth_one, nth_place}
use Rattle.words.specs.Ops.{op_of, zip3}
use Rattle.words.specs.Uniform.{all_equal}
use Rattle.words.specs.declared.ops.Op.{Op}
use Rattle.words.proofs.counts.AnyFlag.{any_some}
use Rattle.words.proofs.flags.Bits.{length-bits, halves, eqb-is_one}
use Rattle.words.proofs.flags.Bytes.{length-flags}
use Rattle.words.proofs.ops.Combining.{at-zip-in}
use Rattle.words.proofs.counts.Counting.{count-append}
use Rattle.words.proofs.uniform.UniformLaws.{all_none, all_cons}
use Rattle.words.proofs.flags.Windows.{length-window, window-all, window-cut, at_in, bits-window, length_over, over_at-past}

-- ---- numbers and bytes

-- `bits d n` has d flags (`length-bits` of Bits.antt), and its flag k is bit k of n.
pub at_bits : (d n k : ℕ) → k < d → get_or (bits d n) k false ≡ bit_at n k
unfolding bits
at_bits zero n k h = absurd (omega arith)
at_bits (suc d) n zero h = ap (λ (x : ℕ). is_one (x % 2)) (sym (div-one n))
at_bits (suc d) n (suc k) h = at_bits d (n / 2) k (omega arith) ∙ ap (λ (x : ℕ). is_one (x % 2)) (halves n k)

-- `flags_of bytes` has eight flags for each byte (`length-flags` of Bytes.antt), and its flag j is, for every j, Arrow's flag j:
-- bit j mod 8 of byte j div 8, and false past the end.
pub at-flags : (bytes : List ℕ) (j : ℕ) → get_or (flags_of bytes) j false ≡ flag_at bytes j
unfolding flags_of
at-flags [] j = rw zero-div
at-flags (b ∷ bytes) j = ⊎_elim
    (λ (h : j < 8).
    let q : j / 8 ≡ 0 = omega arith in
    let r : j % 8 ≡ j = omega arith in
    rw (q, r) (get_or-append (bits 8 b) (flags_of bytes) false j (omega (arith, length-bits 8 b)) ∙ at_bits 8 b j h))
    (λ (h : 8 ≤ j).
    let e : j ≡ length (bits 8 b) + (j - 8) = omega (arith, length-bits 8 b) in
    let q : j / 8 ≡ suc ((j - 8) / 8) = omega arith in
    let r : j % 8 ≡ (j - 8) % 8 = omega arith in
    rw (q, r)
    (ap (λ (x : ℕ). get_or (bits 8 b ++ flags_of bytes) x false) e ∙ get_or-append-add (bits 8 b) (flags_of bytes) (j - 8) false
    ∙ at-flags bytes (j - 8)))
    (cases_lt j 8)

-- So a flag can be read from one byte.
pub read-flag : (bytes : List ℕ) (j b : ℕ) → b ≡ get_or bytes (j / 8) 0 → eqb (b / 2 ^ (j % 8) % 2) 1 ≡ get_or (flags_of bytes) j false
read-flag bytes j b e =
    eqb-is_one (b / 2 ^ (j % 8) % 2) (mod-lt (b / 2 ^ (j % 8)) (zero-lt-suc 1)) ∙ ap (λ (x : ℕ). bit_at x (j % 8)) e
    ∙ sym (at-flags bytes j)

pub no_flag : (bytes : List ℕ) (j : ℕ) → length bytes ≤ j / 8 → false ≡ get_or (flags_of bytes) j false
no_flag bytes j h = sym (get_or-eq_default (flags_of bytes) false (omega (arith, length-flags bytes)))

-- Bit k of `word_of l` is, for every k, flag k of l.
pub at-word : (l : List Bool) (k : ℕ) → bit_at (word_of l) k ≡ get_or l k false
at-word l k =
    sym (at_bits (suc k) (word_of l) k (omega arith)) ∙ ap (λ (t : List Bool). get_or t k false) (bits-window (suc k) l)
    ∙ at_in l 0 (suc k) k (omega arith) ∙ ap (λ (x : ℕ). get_or l x false) (zero-add k)

-- ---- how many are set

-- The empty list has no set flag.
pub count-empty : count [] ≡ 0
unfolding count
count-empty = refl

-- One more flag at the end counts one if it is set, else nothing.
pub count-last : (l : List Bool) (x : Bool) → count (l ++ (x ∷ [])) ≡ count l + digit x
unfolding count
count-last l x = let e : count (x ∷ []) ≡ digit x = omega arith in count-append l (x ∷ []) ∙ ap (λ (n : ℕ). count l + n) e

-- The first j + 1 flags have as many set as the first j, and one more if flag j is set.
pub count-first : (l : List Bool) (j : ℕ) → count (take (suc j) l) ≡ count (take j l) + digit (get_or l j false)
unfolding count
count-first [] zero = refl
count-first [] (suc j) = refl
count-first (x ∷ l) zero = omega arith
count-first (x ∷ l) (suc j) = let h : count (take (suc j) l) ≡ count (take j l) + digit (get_or l j false) = count-first l j in omega arith

-- ---- parts

-- `window l k n` has n flags (`length-window`), flag j of which is flag k + j of l (`at_in`; `at-window` for every j: all three of
-- Windows.antt). If they are all in range, they are the first n of what is left when k are dropped.
pub window-part : (l : List Bool) (k n : ℕ) → k + n ≤ length l → window l k n ≡ take n (drop k l)
window-part l k n h =
    ap (λ (x : ℕ). window l x n) (sym (zero-add k)) ∙ sym (window-cut l 0 (length l) k n h)
    ∙ ap (λ (t : List Bool). take n (drop k t)) (window-all l)

-- `copies n x` has n flags (`length-copies`), and each of them is x (`at_copies`, both of Windows.antt).

-- Flag j of a stretch of bytes that begins at flag `start` is Arrow's flag start + j of the bytes.
pub at-stretch : (bytes : List ℕ) (start n j : ℕ) → j < n → get_or (stretch bytes start n) j false ≡ flag_at bytes (start + j)
at-stretch bytes start n j h = at_in (flags_of bytes) start n j h ∙ at-flags bytes (start + j)

-- `whole_words l` has 64 flags for each word of l, a begun word counting whole,
pub length_whole : (l : List Bool) → length (whole_words l) ≡ 64 * ((length l + 63) / 64)
unfolding whole_words
length_whole l = length-window l 0 (64 * ((length l + 63) / 64))

-- and its flag j is, for every j, flag j of l.
pub at-whole : (l : List Bool) (j : ℕ) → get_or (whole_words l) j false ≡ get_or l j false
unfolding whole_words
at-whole l j = ⊎_elim
    (λ (h : j < 64 * ((length l + 63) / 64)). at_in l 0 (64 * ((length l + 63) / 64)) j h ∙ ap (λ (x : ℕ). get_or l x false) (zero-add j))
    (λ (h : 64 * ((length l + 63) / 64) ≤ j).
    get_or-eq_default (whole_words l) false (omega (arith, length_whole l)) ∙ sym (get_or-eq_default l false (omega arith)))
    (cases_lt j (64 * ((length l + 63) / 64)))

-- ---- writing

-- `over l m` is as long as l (`length_over` of Windows.antt). If both have an element j, it is that of m,
pub at-over : {A : Type 0} (l m : List A) (j : ℕ) (d : A) → j < length m → j < length l → get_or (over l m) j d ≡ get_or m j d
unfolding over
at-over [] m j d h k = absurd (omega arith)
at-over (x ∷ l) [] j d h k = absurd (omega arith)
at-over (x ∷ l) (y ∷ m) zero d h k = refl
at-over (x ∷ l) (y ∷ m) (suc j) d h k = at-over l m j d (omega arith) (omega arith)

-- and past the end of m it is that of l.
pub at-after : {A : Type 0} (l m : List A) (j : ℕ) (d : A) → length m ≤ j → get_or (over l m) j d ≡ get_or l j d
unfolding over
at-after [] m j d h = refl
at-after (x ∷ l) [] j d h = refl
at-after (x ∷ l) (y ∷ m) zero d h = absurd (omega arith)
at-after (x ∷ l) (y ∷ m) (suc j) d h = at-after l m j d (omega arith)

-- `over_at l n m` is as long as l.
pub length-over_at : (l : List Bool) (n : ℕ) (m : List Bool) → length (over_at l n m) ≡ length l
unfolding over_at
length-over_at l n m =
    omega (arith, length-append (take n l) (over (drop n l) m), length-take n l, length_over (drop n l) m, length-drop n l)

-- Before n it has the flags of l,
pub over_at-before : (l : List Bool) (n : ℕ) (m : List Bool) (j : ℕ) → j < n → get_or (over_at l n m) j false ≡ get_or l j false
unfolding over_at
over_at-before l n m j h = ⊎_elim
    (λ (k : j < length l). get_or-append (take n l) (over (drop n l) m) false j (omega (arith, length-take n l))
    ∙ get_or-take n l j false h)
    (λ (k : length l ≤ j). get_or-eq_default (over_at l n m) false (omega (arith, length-over_at l n m))
    ∙ sym (get_or-eq_default l false k))
    (cases_lt j (length l))

-- starting at n, it has what is written over the rest of l:
over_at-rest : (l : List Bool) (n : ℕ) (m : List Bool) (j : ℕ) → n ≤ length l
    → get_or (over_at l n m) (n + j) false ≡ get_or (over (drop n l) m) j false
unfolding over_at
over_at-rest l n m j h =
    ap (λ (x : ℕ). get_or (take n l ++ over (drop n l) m) (x + j) false) (sym (length-take-le n l h))
    ∙ get_or-append-add (take n l) (over (drop n l) m) j false

-- there it has those of m, as many as l has room for,
pub over_at-in : (l : List Bool) (n : ℕ) (m : List Bool) (j : ℕ) → j < length m → n + j < length l
    → get_or (over_at l n m) (n + j) false ≡ get_or m j false
over_at-in l n m j h k = over_at-rest l n m j (omega arith) ∙ at-over (drop n l) m j false h (omega (arith, length-drop n l))

-- and past the end of m those of l again.
pub over_at-after : (l : List Bool) (n : ℕ) (m : List Bool) (j : ℕ) → length m ≤ j
    → get_or (over_at l n m) (n + j) false ≡ get_or l (n + j) false
over_at-after l n m j h = ⊎_elim
    (λ (k : n < length l). over_at-rest l n m j (omega arith) ∙ at-after (drop n l) m j false h ∙ get_or-drop n l j false)
    (λ (k : length l ≤ n). ap (λ (t : List Bool). get_or t (n + j) false) (sym (over_at-past l n m k)))
    (cases_lt n (length l))

-- ---- two words read as one

-- With an offset inside a, flag j of `merged a b offset` is flag offset + j of a and b in a row,
pub at-merged : (a b : List Bool) (offset j : ℕ) → offset < length a → j < length a
    → get_or (merged a b offset) j false ≡ get_or (a ++ b) (offset + j) false
unfolding merged
at-merged a b offset j h k =
    rw (lt-ltb offset (length a) h) (get_or-take (length a) (drop offset (a ++ b)) j false k ∙ get_or-drop offset (a ++ b) j false)

-- and it is as long as a, if b is no shorter;
pub length_merged : (a b : List Bool) (offset : ℕ) → offset < length a → length a ≤ length b → length (merged a b offset) ≡ length a
unfolding merged
length_merged a b offset h k =
    rw (lt-ltb offset (length a) h)
    (length-take-le (length a) (drop offset (a ++ b)) (omega (arith, length-drop offset (a ++ b), length-append a b)))

-- with an offset of a's length or more it is a.
pub merged-past : (a b : List Bool) (offset : ℕ) → length a ≤ offset → merged a b offset ≡ a
unfolding merged
merged-past a b offset h = rw (le-ltb offset (length a) h)

-- ---- flag by flag

-- `zip3 f a b c` is as long as the shortest of the three,
pub length-zip3 : (f : Bool → Bool → Bool → Bool) (a b c : List Bool) → length (zip3 f a b c) ≡ min (length a) (min (length b) (length c))
unfolding zip3
length-zip3 f [] b c = omega arith
length-zip3 f (x ∷ a) [] c = omega arith
length-zip3 f (x ∷ a) (y ∷ b) [] = omega arith
length-zip3 f (x ∷ a) (y ∷ b) (z ∷ c) = omega (arith, length-zip3 f a b c)

-- and its flag j is f of their flags j.
pub at-zip3 : (f : Bool → Bool → Bool → Bool) (a b c : List Bool) (j : ℕ) → j < length a → j < length b → j < length c
    → get_or (zip3 f a b c) j false ≡ f (get_or a j false) (get_or b j false) (get_or c j false)
unfolding zip3
at-zip3 f [] b c j p q r = absurd (omega arith)
at-zip3 f (x ∷ a) [] c j p q r = absurd (omega arith)
at-zip3 f (x ∷ a) (y ∷ b) [] j p q r = absurd (omega arith)
at-zip3 f (x ∷ a) (y ∷ b) (z ∷ c) zero p q r = refl
at-zip3 f (x ∷ a) (y ∷ b) (z ∷ c) (suc j) p q r = at-zip3 f a b c j (omega arith) (omega arith) (omega arith)

-- Flag j of three stretches combined is the operation on Arrow's flags of the three buffers, each j flags from its start.
pub at-combined : (op : Op) (a : List ℕ) (sa : ℕ) (b : List ℕ) (sb : ℕ) (c : List ℕ) (sc n j : ℕ) → j < n
    → get_or (combined op a sa b sb c sc n) j false ≡ op_of op (flag_at a (sa + j)) (flag_at b (sb + j)) (flag_at c (sc + j))
at-combined op a sa b sb c sc n j h =
    at-zip-in (op_of op) (flags_of a) (flags_of b) (flags_of c) sa sb sc n j h
    ∙ rw (at-flags a (sa + j), at-flags b (sb + j), at-flags c (sc + j))

-- ---- the set flag number n

-- If more than n flags are set, `nth_place l n` is a place in the list (`nth-lt` of `NthLaws`), the flag there is set,
pub nth-set : (l : List Bool) (n : ℕ) → n < count l → get_or l (nth_place l n) false ≡ true
unfolding nth_place count
nth-set [] n h = absurd (omega arith)
nth-set (false ∷ l) n h = nth-set l n (omega arith)
nth-set (true ∷ l) zero h = refl
nth-set (true ∷ l) (suc n) h = nth-set l n (omega arith)

-- and n flags before it are set.
pub nth-before : (l : List Bool) (n : ℕ) → n < count l → count (take (nth_place l n) l) ≡ n
unfolding nth_place count
nth-before [] n h = absurd (omega arith)
nth-before (false ∷ l) n h = omega (arith, nth-before l n (omega arith))
nth-before (true ∷ l) zero h = refl
nth-before (true ∷ l) (suc n) h = omega (arith, nth-before l n (omega arith))

-- `nth_one l n` is that place if more than n flags are set,
pub nth-found : (l : List Bool) (n : ℕ) → n < count l → nth_one l n ≡ Ok (nth_place l n)
unfolding nth_one
nth-found l n h = rw (lt-ltb n (count l) h)

-- and the number of the set flags if at most n are,
pub nth-missing : (l : List Bool) (n : ℕ) → count l ≤ n → nth_one l n ≡ Err (count l)
unfolding nth_one
nth-missing l n h = rw (le-ltb n (count l) h)

-- and only then: the number that it has is that of the set flags, and at most n.
pub missing-nth : (l : List Bool) (n k : ℕ) → nth_one l n ≡ Err k → (k ≡ count l) × (count l ≤ n)
missing-nth l n k e = ⊎_elim
    (λ (h : n < count l). absurd (let f : nth_one l n
    ≡ Ok (nth_place l n) = nth-found l n h in let z : ◌≡◌ {A = ℕ} 0 1 = cc in omega arith))
    (λ (h : count l ≤ n). let f : nth_one l n ≡ Err (count l) = nth-missing l n h in let p : k ≡ count l = cc in (p, h))
    (cases_lt n (count l))

-- ---- whether a flag is set, and whether two lists are the same

-- If flag j is set, `any_set` is true,
pub flag-any : (l : List Bool) (j : ℕ) → get_or l j false ≡ true → any_set l ≡ true
unfolding any_set
flag-any [] j e = e
flag-any (true ∷ l) j e = refl
flag-any (false ∷ l) zero e = absurd (let z : ◌≡◌ {A = ℕ} 0 1 = cc e in omega arith)
flag-any (false ∷ l) (suc j) e = flag-any l j e

-- and if it is true, there is a flag that is set. (`any-count` of AnyFlag.antt states it by the count.)
pub any_flag : (l : List Bool) → any_set l ≡ true → (j : ℕ) × (get_or l j false ≡ true)
any_flag l e = (nth_place l 0, nth-set l 0 (any_some l (sym e)))

-- Lists that are the same are equal,
pub same-equal : (a b : List Bool) → same_flags a b ≡ true → a ≡ b
unfolding same_flags xor
same-equal [] [] e = refl
same-equal [] (y ∷ b) e = absurd (let z : ◌≡◌ {A = ℕ} 0 1 = cc e in omega arith)
same-equal (x ∷ a) [] e = absurd (let z : ◌≡◌ {A = ℕ} 0 1 = cc e in omega arith)
same-equal (true ∷ a) (true ∷ b) e = ap (λ (t : List Bool). true ∷ t) (same-equal a b e)
same-equal (false ∷ a) (false ∷ b) e = ap (λ (t : List Bool). false ∷ t) (same-equal a b e)
same-equal (true ∷ a) (false ∷ b) e = absurd (let z : ◌≡◌ {A = ℕ} 0 1 = cc e in omega arith)
same-equal (false ∷ a) (true ∷ b) e = absurd (let z : ◌≡◌ {A = ℕ} 0 1 = cc e in omega arith)

-- and equal lists are the same.
pub equal-same : (a b : List Bool) → a ≡ b → same_flags a b ≡ true
unfolding same_flags xor
equal-same a b e = ap (same_flags a) (sym e) ∙ itself a
  where
    itself : (a : List Bool) → same_flags a a ≡ true
    itself [] = refl
    itself (true ∷ a) = itself a
    itself (false ∷ a) = itself a

-- ---- whether all flags equal one flag

-- A list whose flags are all x consists of copies of x,
pub all-copies : (x : Bool) (l : List Bool) → all_equal x l ≡ true → l ≡ copies (length l) x
unfolding copies xor
all-copies x [] e = refl
all-copies true (true ∷ l) e = ap (λ (t : List Bool). true ∷ t) (all-copies true l (sym (all_cons true true l) ∙ e))
all-copies false (false ∷ l) e = ap (λ (t : List Bool). false ∷ t) (all-copies false l (sym (all_cons false false l) ∙ e))
all-copies true (false ∷ l) e =
    absurd (let f : false ≡ true = sym (all_cons true false l) ∙ e in let z : ◌≡◌ {A = ℕ} 0 1 = cc f in omega arith)
all-copies false (true ∷ l) e =
    absurd (let f : false ≡ true = sym (all_cons false true l) ∙ e in let z : ◌≡◌ {A = ℕ} 0 1 = cc f in omega arith)

-- and copies of x are all x.
pub copies-all : (x : Bool) (n : ℕ) → all_equal x (copies n x) ≡ true
unfolding copies xor
copies-all x zero = all_none x
copies-all true (suc n) = all_cons true true (copies n true) ∙ copies-all true n
copies-all false (suc n) = all_cons false false (copies n false) ∙ copies-all false n

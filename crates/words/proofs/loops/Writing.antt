-- Loops that write word by word: F is the output's flags at first, G what is written over them, zeros past its end.
use Rattle.std.proofs.Common.{◌≡◌, sym, ap, ap₂, ◌∙◌, Bool, false, List, ◌++◌, ⊎_elim, ℕ, ◌+◌, ◌-◌, ◌*◌, ◌/◌, ◌%◌, ◌≤◌, ◌<◌, arith, length}
use Rattle.std.proofs.Common.{take, drop, get_or, replicate, [], append-nil, drop_of_length-le, zero, suc, refl, ◌∷◌, zero-add, suc-add}
use Rattle.std.proofs.Common.{take_all, le_of_eq, length-take-le, lt-ltb, le-ltb}
use Rattle.std.proofs.Math.ListN.{get_or-eq_default}
use Rattle.std.proofs.lemmas.Bool.{cases_lt}
use Rattle.words.specs.Flags.{bits, copies, flags_of, window, over, over_at}
use Rattle.words.specs.Loops.{whole_words}
use Rattle.words.proofs.flags.Bytes.{length-flags, over-part}
use Rattle.words.proofs.word.Loads.{over-take}
use Rattle.words.proofs.flags.Windows.{length-copies, at_copies, length-window, window-add, window-all, window-ext, at_take, over_none}
use Rattle.words.proofs.flags.Windows.{over-more}
use Rattle.words.proofs.flags.Windows.{over_enough}

pub write-none : (F G : List Bool) → F ≡ over F (window G 0 0)
unfolding window
write-none F G = sym (over_none F)

-- one more word
pub write_step : (F G : List Bool) (i w : ℕ) (out out' : List ℕ) → flags_of out ≡ over F (window G 0 (64 * i))
    → bits 64 w ≡ window G (64 * i) 64
    → flags_of out' ≡ over_at (flags_of out) (8 * (8 * i)) (bits 64 w) → flags_of out' ≡ over F (window G 0 (64 * (i + 1)))
unfolding over_at
write_step F G i w out out' inv new put =
    let n : 8 * (8 * i) ≡ length (window G 0 (64 * i)) = omega (arith, length-window G 0 (64 * i)) in
    let z : 64 * i ≡ 0 + 64 * i = omega arith in
    let e : 64 * i + 64 ≡ 64 * (i + 1) = omega arith in
    put ∙ ap₂ (λ (x y : List Bool). over_at x (8 * (8 * i)) y) inv (new ∙ ap (λ (x : ℕ). window G x 64) z)
    ∙ ap (λ (x : ℕ). over_at (over F (window G 0 (64 * i))) x (window G (0 + 64 * i) 64)) n
    ∙ over-more F (window G 0 (64 * i)) (window G (0 + 64 * i) 64)
    ∙ ap (over F) (sym (window-add G 0 (64 * i) 64) ∙ ap (window G 0) e)

-- all words of a list that is whole words
pub write-all : (F G : List Bool) (i n : ℕ) (out : List ℕ) → flags_of out ≡ over F (window G 0 (64 * i)) → length G ≡ 64 * n → i ≤ n → n ≤ i
    → flags_of out ≡ over F G
write-all F G i n out p l h k =
    let e : 64 * i ≡ length G = omega arith in
    p ∙ ap (λ (x : ℕ). over F (window G 0 x)) e ∙ ap (over F) (window-all G)

-- all words of a stretch that is whole words
pub write-stretch : (F l : List Bool) (k x len n : ℕ) (out : List ℕ) → flags_of out ≡ over F (window l x n)
    → x ≡ k → n ≡ len → len % 64 ≡ 0 → flags_of out ≡ over F (whole_words (window l k len))
unfolding whole_words
write-stretch F l k x len n out p ex en h =
    let e : 64 * ((length (window l k len) + 63) / 64) ≡ length (window l k len) = omega (arith, length-window l k len) in
    p ∙ ap₂ (λ (i m : ℕ). over F (window l i m)) ex en ∙ ap (over F) (sym (ap (window (window l k len) 0) e ∙ window-all (window l k len)))

-- all words of a list of len flags, or as many as the output's m flags have room for
pub write-end : (F G : List Bool) (len m i : ℕ) (out : List ℕ) → flags_of out ≡ over F (window G 0 (64 * i))
    → length F ≡ m → length G ≡ len → (i < (len + 63) / 64 → m ≤ 64 * i) → i ≤ (len + 63) / 64
    → flags_of out ≡ over F (whole_words G)
unfolding whole_words
write-end F G len m i out p l_f l_g full h =
    ⊎_elim
    (λ (l : i < (len + 63) / 64).
    let e : 64 * i + (64 * ((len + 63) / 64) - 64 * i) ≡ 64 * ((len + 63) / 64) = omega arith in
    let room : m ≤ 64 * i = full l in
    p ∙ sym (over_enough F (window G 0 (64 * i)) (window G (0 + 64 * i) (64 * ((len + 63) / 64) - 64 * i))
    (omega (arith, length-window G 0 (64 * i))))
    ∙ ap (over F) (sym (window-add G 0 (64 * i) (64 * ((len + 63) / 64) - 64 * i)) ∙ ap (window G 0) e))
    (λ (l : (len + 63) / 64 ≤ i). let e : i ≡ (len + 63) / 64 = omega arith in p ∙ ap (λ (x : ℕ). over F (window G 0 (64 * x))) e)
    (cases_lt i ((len + 63) / 64))
    ∙ ap (λ (n : ℕ). over F (window G 0 (64 * ((n + 63) / 64)))) (sym l_g)

-- the last, cut word of copies
pub copies-cut : (len : ℕ) (x : Bool) (k w r : ℕ) → k ≤ len → bits 64 w ≡ copies 64 x
    → bits 64 r ≡ window (take (len - k) (bits 64 w)) 0 64 → bits 64 r ≡ window (copies len x) k 64
copies-cut len x k w r h q p =
    p ∙ ap (λ (t : List Bool). window (take (len - k) t) 0 64) q ∙ window-ext (take (len - k) (copies 64 x)) (copies len x) 0 k 64 (λ j b.
    let z : 0 + j ≡ j = omega arith in
    ap (λ (i : ℕ). get_or (take (len - k) (copies 64 x)) i false) z ∙ at_take (len - k) (copies 64 x) j
    ∙ ⊎_elim
    (λ (l : j < len - k). rw (lt-ltb j (len - k) l) (at_copies 64 x j b ∙ sym (at_copies len x (k + j) (omega arith))))
    (λ (l : len - k ≤ j). rw (le-ltb j (len - k) l) (sym (get_or-eq_default (copies len x) false (omega (arith, length-copies len x)))))
    (cases_lt j (len - k)))

-- a list of at most 64 flags, written as one word
pub write-once : (G : List Bool) (len w : ℕ) (out out' : List ℕ) → length G ≡ len → 0 < len → len ≤ 64 → bits 64 w ≡ window G 0 64
    → flags_of out' ≡ over (flags_of out) (bits 64 w)
    → flags_of out' ≡ over (flags_of out) (whole_words G)
unfolding whole_words
write-once G len w out out' l low high new put =
    let e : 64 ≡ 64 * ((length G + 63) / 64) = omega arith in
    put ∙ ap (over (flags_of out)) (new ∙ ap (window G 0) e)

pub write-nothing : (F G : List Bool) (len : ℕ) → length G ≡ len → len ≤ 0 → F ≡ over F (whole_words G)
unfolding whole_words
write-nothing F G len l h =
    let e : 0 ≡ 64 * ((length G + 63) / 64) = omega arith in
    write-none F G ∙ ap (λ (n : ℕ). over F (window G 0 n)) e

-- bytes whose flags are all equal
pub copies-add : (m n : ℕ) (x : Bool) → copies (m + n) x ≡ copies m x ++ copies n x
unfolding copies
copies-add zero n x = rw zero-add refl
copies-add (suc m) n x = rw suc-add (ap (λ (l : List Bool). x ∷ l) (copies-add m n x))

flags-same : (n b : ℕ) (x : Bool) → bits 8 b ≡ copies 8 x → flags_of (replicate n b) ≡ copies (8 * n) x
unfolding flags_of copies
flags-same zero b x h = refl
flags-same (suc n) b x h =
    let e : 8 * suc n ≡ 8 + 8 * n = omega arith in
    ap₂ (λ (l m : List Bool). l ++ m) h (flags-same n b x h) ∙ sym (ap (λ (k : ℕ). copies k x) e ∙ copies-add 8 (8 * n) x)

-- all bytes, written one by one
pub filled_all : (l out : List ℕ) (i b : ℕ) (x : Bool) → out ≡ replicate i b ++ drop i l → i ≡ length l → bits 8 b ≡ copies 8 x
    → flags_of out ≡ copies (8 * length l) x
filled_all l out i b x p e h =
    let rest : drop i l ≡ [] = drop_of_length-le l (le_of_eq (sym e)) in
    ap flags_of (p ∙ ap (λ (m : List ℕ). replicate i b ++ m) rest ∙ append-nil (replicate i b)) ∙ flags-same i b x h
    ∙ ap (λ (n : ℕ). copies (8 * n) x) e

-- a flag, written over the bytes that n words take
pub fill-front : (n m : ℕ) (x : Bool) (out part : List ℕ) → 8 * n ≤ length out → n ≡ m
    → flags_of part ≡ copies (8 * length (take (8 * n) out)) x
    → flags_of (part ++ drop (8 * n) out) ≡ over (flags_of out) (copies (64 * m) x)
fill-front n m x out part h e p =
    let long : length (take (8 * n) out) ≡ 8 * n = length-take-le (8 * n) out h in
    let q : 8 * length (take (8 * n) out) ≡ 64 * m = omega arith in
    let r : length (copies (64 * m) x) ≡ 8 * (8 * n) = length-copies (64 * m) x ∙ omega arith in
    let s : length (flags_of (take (8 * n) out)) ≡ length (copies (64 * m) x) =
    length-flags (take (8 * n) out) ∙ q ∙ sym (length-copies (64 * m) x) in
    over-part (8 * n) (copies (64 * m) x) out part h r
    (p ∙ ap (λ (k : ℕ). copies k x) q ∙ sym (take_all (length (flags_of (take (8 * n) out))) (copies (64 * m) x) (le_of_eq (sym s)))
    ∙ sym (over-take (flags_of (take (8 * n) out)) (copies (64 * m) x) (le_of_eq s)))

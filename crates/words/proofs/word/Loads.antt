-- Loads and stores of words: at most eight bytes, whole in range, from any bit, and two loads that overlap.
use Rattle.std.proofs.Common.{◌≡◌, refl, sym, ap, ap₂, ◌∙◌, subst, Bool, false, cond, ◌&&◌, List, [], ◌∷◌, ◌++◌, ⊎_elim, ℕ, zero, suc}
use Rattle.std.proofs.Common.{◌+◌, ◌-◌, ◌*◌, ◌/◌, ◌%◌, ◌^◌, ◌≤◌, ◌<◌, le_of_lt, mod-lt, one-mul, arith, length, take, drop, add-one, bit_or}
use Rattle.std.proofs.Common.{get_or, length-take-le, length-drop, lit<, leb, ltb, drop_at, take_all, get_or-take}
use Rattle.std.proofs.Common.{shl_exact, pow_pos, lt-ltb, le-ltb, le-leb}
use Rattle.std.proofs.Math.ListN.{get_or-eq_default}
use Rattle.std.proofs.lemmas.Bool.{cases_lt}
use Rattle.std.proofs.Math.Nat.{div-one}
use Rattle.std.proofs.lemmas.List.{get_or-drop}
use Rattle.std.proofs.lemmas.Nat.{le_bytes_8}
use Rattle.std.specs.Array.{IsWholeChunk}
use Rattle.std.specs.Int.{w64, to_le_bytes, from_le_bytes}
use Rattle.words.specs.Flags.{bits, word_of, flags_of, window, over, over_at}
use Rattle.words.proofs.flags.Bits.{length-bits, bits-add, bits-take, bits-zero, bits-mod, word_of_bits, or-append}
use Rattle.words.proofs.flags.Bytes.{flags-more, flags-append, flags-take, flags-drop, flags-one, length-flags, over-part}
use Rattle.words.proofs.flags.Windows.{window-all, window-cut, window-drop, window-past, window-ext, at-window, in_window, bits-window}
use Rattle.words.proofs.flags.Windows.{ltb-sub}

-- ---- at most eight bytes: joined byte by byte, written as the bytes of a word

-- the first i bytes, as a number
unfoldable pub up_to : List ℕ → ℕ → ℕ
up_to bs i = word_of (flags_of (take i bs))

pub up_none : (bs : List ℕ) → 0 ≡ up_to bs 0
unfolding up_to flags_of word_of
up_none bs = refl

up_more : (bs : List ℕ) (i : ℕ) → i < length bs → length bs ≤ 8 → get_or bs i 0 < 256
    → bit_or (up_to bs i) (get_or bs i 0 * 2 ^ (8 * i) % 2 ^ 64) ≡ up_to bs (i + 1)
unfolding up_to
up_more bs i h k b =
    let long : length (flags_of (take i bs)) ≡ 8 * i =
    length-flags (take i bs) ∙ ap (λ (n : ℕ). 8 * n) (length-take-le i bs (le_of_lt h)) in
    ap (bit_or (word_of (flags_of (take i bs)))) (shl_exact 8 (8 * i) 64 b (omega arith))
    ∙ ap₂ (λ (x y : ℕ). bit_or (word_of (flags_of (take i bs))) (x * 2 ^ y)) (sym (word_of_bits 8 (get_or bs i 0) b)) (sym long)
    ∙ or-append (flags_of (take i bs)) (bits 8 (get_or bs i 0))
    ∙ rw (add-one, flags-more bs i h)

-- one more byte is loaded
pub up_step : (bs : List ℕ) (i v w : ℕ) → length bs ≤ 8 → i < length bs → w ≡ up_to bs i → (v ≡ get_or bs i 0) × (v < 256)
    → bit_or w (v * 2 ^ (8 * i) % 2 ^ 64) ≡ up_to bs (i + 1)
up_step bs i v w k h p q =
    ap₂ (λ (x y : ℕ). bit_or x (y * 2 ^ (8 * i) % 2 ^ 64)) p q.0 ∙ up_more bs i h k (subst (λ (y : ℕ). y < 256) q.0 q.1)

pub up-all : (bs : List ℕ) (i w : ℕ) → w ≡ up_to bs i → length bs ≤ i → bits 64 w ≡ window (flags_of bs) 0 64
unfolding up_to
up-all bs i w p h = ap (bits 64) (p ∙ ap (λ (l : List ℕ). word_of (flags_of l)) (take_all i bs h)) ∙ bits-window 64 (flags_of bs)

-- the i low bytes of w
bytes_of : ℕ → ℕ → List ℕ
bytes_of w zero = []
bytes_of w (suc i) = bytes_of w i ++ (w / 2 ^ (8 * i) % 256 ∷ [])

flags-bytes : (w n : ℕ) → flags_of (bytes_of w n) ≡ bits (8 * n) w
unfolding bytes_of flags_of bits
flags-bytes w zero = refl
flags-bytes w (suc i) =
    flags-append (bytes_of w i) (w / 2 ^ (8 * i) % 256 ∷ [])
    ∙ ap₂ (λ (x y : List Bool). x ++ y) (flags-bytes w i) (flags-one (w / 2 ^ (8 * i) % 256) ∙ bits-mod 8 (w / 2 ^ (8 * i)))
    ∙ sym (bits-add (8 * i) 8 w)
    ∙ (let e : 8 * i + 8 ≡ 8 * suc i = omega arith in ap (λ (d : ℕ). bits d w) e)

-- the eight bytes of a word have its flags
flags-word : (w : ℕ) → flags_of (to_le_bytes w64 w) ≡ bits 64 w
unfolding bytes_of
flags-word w =
    ap (λ (x : ℕ). flags_of (x % 256 ∷ drop 1 (to_le_bytes w64 w))) (sym (div-one w)) ∙ flags-bytes w 8

pub over-take : {A : Type 0} (l m : List A) → length l ≤ length m → over l m ≡ take (length l) m
unfolding over
over-take [] m h = refl
over-take (x ∷ l) [] h = absurd (omega arith)
over-take (x ∷ l) (y ∷ m) h = ap (λ t. y ∷ t) (over-take l m (omega arith))

-- the bytes of a word over at most eight others
pub split-all : (out new : List ℕ) (w : ℕ) → length out ≤ 8 → new ≡ take (length out) (to_le_bytes w64 w)
    → flags_of new ≡ over (flags_of out) (bits 64 w)
split-all out new w h p =
    let fits : length (flags_of out) ≤ length (bits 64 w) = rw (length-flags, length-bits) (omega arith) in
    ap flags_of p ∙ flags-take (length out) (to_le_bytes w64 w)
    ∙ ap₂ (λ (n : ℕ) (l : List Bool). take n l) (sym (length-flags out)) (flags-word w)
    ∙ sym (over-take (flags_of out) (bits 64 w) fits)

-- ---- a part of the bytes

-- the first eight bytes are enough
load-first : (bs : List ℕ) (r : ℕ) → bits 64 r ≡ window (flags_of (take 8 bs)) 0 64 → bits 64 r ≡ window (flags_of bs) 0 64
load-first bs r p = p ∙ ap (λ (l : List Bool). window l 0 64) (flags-take 8 bs) ∙ front (flags_of bs)
  where
    front : (l : List Bool) → window (take 64 l) 0 64 ≡ window l 0 64
    front l =
        window-ext (take 64 l) l 0 0 64 (λ j h. let z : 0 + j ≡ j = omega arith in ap (λ (x : ℕ). get_or (take 64 l) x false) z
        ∙ get_or-take 64 l j false h ∙ sym (ap (λ (x : ℕ). get_or l x false) z))

pub load-mid : (bs : List ℕ) (at r : ℕ) → bits 64 r ≡ window (flags_of (take (at + 8 - at) (drop at bs))) 0 64
    → bits 64 r ≡ window (flags_of bs) (8 * at) 64
load-mid bs at r p =
    let e : at + 8 - at ≡ 8 = omega arith in
    let z : 8 * at + 0 ≡ 8 * at = omega arith in
    load-first (drop at bs) r (p ∙ ap (λ (n : ℕ). window (flags_of (take n (drop at bs))) 0 64) e)
    ∙ ap (λ (l : List Bool). window l 0 64) (flags-drop at bs) ∙ window-drop (flags_of bs) (8 * at) 0 64
    ∙ ap (λ (x : ℕ). window (flags_of bs) x 64) z

-- eight bytes as an array
pub load-eight : (bs part : List ℕ) (at r : ℕ) → IsWholeChunk (take (at + 8 - at) (drop at bs)) part 8
    → ((i : ℕ) → get_or bs i 0 < 256) → r ≡ from_le_bytes w64 part → bits 64 r ≡ window (flags_of bs) (8 * at) 64
load-eight bs part at r whole small p =
    load-mid bs at r
    (sym (flags-word r) ∙ ap flags_of (le_bytes_8 part r long each p) ∙ sym (window-all (flags_of part))
    ∙ ap₂ (λ (l : List ℕ) (n : ℕ). window (flags_of l) 0 n) whole.same (length-flags part ∙ ap (λ (n : ℕ). 8 * n) long))
  where
    long : length part ≡ 8
    long = ap length whole.same ∙ whole.long

    each : (i : ℕ) → get_or part i 0 < 256
    each i =
        ⊎_elim
        (λ (h : i < at + 8 - at). subst (λ (x : ℕ). x < 256)
        (sym (ap (λ (l : List ℕ). get_or l i 0) whole.same ∙ get_or-take (at + 8 - at) (drop at bs) i 0 h ∙ get_or-drop at bs i 0))
        (small (at + i)))
        (λ (h : at + 8 - at ≤ i). subst (λ (x : ℕ). x < 256) (sym (get_or-eq_default part 0 (omega (arith, long)))) (lit< tt))
        (cases_lt i (at + 8 - at))

pub put-mid : (out part : List ℕ) (at w : ℕ) → at + 8 ≤ length out
    → flags_of part ≡ over (flags_of (take (at + 8 - at) (drop at out))) (bits 64 w)
    → flags_of (take at out ++ (part ++ drop (at + 8 - at) (drop at out))) ≡ over_at (flags_of out) (8 * at) (bits 64 w)
unfolding over_at
put-mid out part at w h p =
    let e : at + 8 - at ≡ 8 = omega arith in
    ap (λ (n : ℕ). flags_of (take at out ++ (part ++ drop n (drop at out)))) e
    ∙ flags-append (take at out) (part ++ drop 8 (drop at out))
    ∙ ap₂ (λ (x y : List Bool). x ++ y) (flags-take at out)
    (over-part 8 (bits 64 w) (drop at out) part (omega (arith, length-drop at out)) (length-bits 64 w)
    (p ∙ ap (λ (n : ℕ). over (flags_of (take n (drop at out))) (bits 64 w)) e)
    ∙ ap (λ (x : List Bool). over x (bits 64 w)) (flags-drop at out))

-- ---- the low flags, and a shift to the right

pub low-some : (d k w : ℕ) → k < d → bits d (w % (1 * 2 ^ k % 2 ^ d)) ≡ window (take k (bits d w)) 0 d
low-some d k w h =
    ap (bits d) (ap (λ (x : ℕ). w % x) (shl_exact 1 k d (lit< tt) (omega arith) ∙ one-mul (2 ^ k))
    ∙ sym (word_of_bits k (w % 2 ^ k) (mod-lt w (pow_pos k))) ∙ ap word_of (bits-mod k w ∙ sym (bits-take d k w (le_of_lt h))))
    ∙ bits-window d (take k (bits d w))

pub low-all : (d k w : ℕ) → d ≤ k → w < 2 ^ d → bits d w ≡ window (take k (bits d w)) 0 d
low-all d k w h b =
    ap (bits d) (sym (word_of_bits d w b)) ∙ bits-window d (bits d w)
    ∙ ap (λ (l : List Bool). window l 0 d) (sym (take_all k (bits d w) (subst (λ (x : ℕ). x ≤ k) (sym (length-bits d w)) h)))

pub bits-more : (d m x : ℕ) → x < 2 ^ d → bits m x ≡ window (bits d x) 0 m
bits-more d m x h = ap (bits m) (sym (word_of_bits d x h)) ∙ bits-window m (bits d x)

pub bits-shr : (d s x : ℕ) → x < 2 ^ d → bits d (x / 2 ^ s) ≡ window (bits d x) s d
bits-shr d s x h =
    let z : 0 + s ≡ s = omega arith in
    sym (ap (take d) (drop_at (bits s x) (bits d (x / 2 ^ s)) s (length-bits s x))
    ∙ take_all d (bits d (x / 2 ^ s)) (omega (arith, length-bits d (x / 2 ^ s))))
    ∙ ap (λ (l : List Bool). take d (drop s l)) (sym (bits-add s d x) ∙ bits-more d (s + d) x h)
    ∙ window-cut (bits d x) 0 (s + d) s d (omega arith) ∙ ap (λ (n : ℕ). window (bits d x) n d) z

pub shr-all : (d k w : ℕ) → d ≤ k → bits d 0 ≡ window (bits d w) k d
shr-all d k w h = bits-zero d ∙ sym (window-past (bits d w) k d (omega (arith, length-bits d w)))

-- a word of the list's last flags, shifted right
pub from_end : (l : List Bool) (p k bit x r : ℕ) → length l ≤ p + 64 → bit ≡ p + k → bits 64 x ≡ window l p 64
    → bits 64 r ≡ window (bits 64 x) k 64
    → bits 64 r ≡ window l bit 64
from_end l p k bit x r h e q u =
    u ∙ ap (λ (t : List Bool). window t k 64) q
    ∙ window-ext (window l p 64) l k bit 64 (λ j _.
    let n : p + (k + j) ≡ bit + j = omega arith in
    at-window l p 64 (k + j)
    ∙ ap (λ (n : ℕ). ltb (k + j) 64 && get_or l n false) n
    ∙ ⊎_elim
    (λ (q : k + j < 64). ap (λ (t : Bool). t && get_or l (bit + j) false) (lt-ltb (k + j) 64 q))
    (λ (q : 64 ≤ k + j). ap (λ (t : Bool). t && get_or l (bit + j) false) (le-ltb (k + j) 64 q)
    ∙ sym (get_or-eq_default l false (omega arith)))
    (cases_lt (k + j) 64))

-- a word of the bytes' last flags: nothing is left of them, fewer than eight bytes, or the last eight
pub at-past : (bs : List ℕ) (at s : ℕ) → length bs ≤ at → bits 64 0 ≡ window (flags_of bs) (8 * at + s) 64
at-past bs at s h = bits-zero 64 ∙ sym (window-past (flags_of bs) (8 * at + s) 64 (omega (arith, length-flags bs)))

pub at-few : (bs : List ℕ) (bit x r : ℕ) → length bs < 8 → bits 64 x ≡ window (flags_of bs) 0 64 → bits 64 r ≡ window (bits 64 x) bit 64
    → bits 64 r ≡ window (flags_of bs) bit 64
at-few bs bit x r h p u = from_end (flags_of bs) 0 bit bit x r (omega (arith, length-flags bs)) (omega arith) p u

pub at_last : (bs : List ℕ) (at s x r : ℕ) → 8 ≤ length bs → length bs - at < 9 → at < length bs
    → bits 64 x ≡ window (flags_of bs) (8 * (length bs - 8)) 64
    → bits 64 r ≡ window (bits 64 x) (8 * (at + 8 - length bs) + s) 64 → bits 64 r ≡ window (flags_of bs) (8 * at + s) 64
at_last bs at s x r h k b p u =
    from_end (flags_of bs) (8 * (length bs - 8)) (8 * (at + 8 - length bs) + s) (8 * at + s) x r (omega (arith, length-flags bs))
    (omega arith) p u

pub byte_past : (bs : List ℕ) (at : ℕ) → length bs ≤ at → bits 64 0 ≡ window (flags_of bs) (8 * at) 64
byte_past bs at h = bits-zero 64 ∙ sym (window-past (flags_of bs) (8 * at) 64 (omega (arith, length-flags bs)))

-- ---- a store where there is room for all eight bytes, or none

-- what a caller that knows of the room may conclude
pub had-room : (at n : ℕ) (out new old : List Bool) → out ≡ cond (leb (at + 8) n) new old → at + 8 ≤ n → out ≡ new
had-room at n out new old e h = e ∙ ap (λ (t : Bool). cond t new old) (le-leb (at + 8) n h)

-- the flags of a word that was read at a flag, shifted right
pub moved-flags : (l : List Bool) (at k n x r : ℕ) → k + n ≤ 64 → bits 64 x ≡ window l at 64 → bits 64 r ≡ window (bits 64 x) k 64
    → take n (bits 64 r) ≡ window l (at + k) n
moved-flags l at k n x r h p q =
    let e : at + (k + 0) ≡ at + k = omega arith in
    ap (take n) q ∙ window-cut (bits 64 x) k 64 0 n (omega arith) ∙ ap (λ (t : List Bool). window t (k + 0) n) p
    ∙ in_window l at 64 (k + 0) n (omega arith) ∙ ap (λ (y : ℕ). window l y n) e

-- the flags to the end of the eight bytes in which flag `bit` lies, with zeros after them
pub near-all : (l : List Bool) (bit x r : ℕ) → bits 64 x ≡ window l (8 * (bit / 8)) 64 → bits 64 r ≡ window (bits 64 x) (bit % 8) 64
    → bits 64 r ≡ window (window l bit (64 - bit % 8)) 0 64
near-all l bit x r p q =
    let s : ℕ = bit % 8 in
    q ∙ ap (λ (t : List Bool). window t s 64) p
    ∙ window-ext (window l (8 * (bit / 8)) 64) (window l bit (64 - s)) s 0 64 (λ j b.
    let z : 0 + j ≡ j = omega arith in
    let e : 8 * (bit / 8) + (s + j) ≡ bit + j = omega arith in
    at-window l (8 * (bit / 8)) 64 (s + j) ∙ ap₂ (λ (t : Bool) (n : ℕ). t && get_or l n false) (sym (ltb-sub j 64 s)) e
    ∙ sym (ap (λ (k : ℕ). get_or (window l bit (64 - s)) k false) z ∙ at-window l bit (64 - s) j))

-- the first n flags of such a word
pub near-first : (l : List Bool) (bit n r : ℕ) → bit % 8 + n ≤ 64 → bits 64 r ≡ window (window l bit (64 - bit % 8)) 0 64
    → take n (bits 64 r) ≡ window l bit n
near-first l bit n r h q =
    let z : bit + (0 + 0) ≡ bit = omega arith in
    ap (take n) q ∙ window-cut (window l bit (64 - bit % 8)) 0 64 0 n (omega arith) ∙ in_window l bit (64 - bit % 8) (0 + 0) n (omega arith)
    ∙ ap (λ (k : ℕ). window l k n) z

-- `&bytes[0..]` is all bytes
pub whole_part : (bytes : List ℕ) → take (length bytes - 0) (drop 0 bytes) ≡ bytes
whole_part bytes = take_all (length bytes - 0) bytes (omega arith)

pub whole-stretch : (bytes : List ℕ) (start n : ℕ)
    → window (flags_of (take (length bytes - 0) (drop 0 bytes))) start n ≡ window (flags_of bytes) start n
whole-stretch bytes start n = ap (λ (l : List ℕ). window (flags_of l) start n) (whole_part bytes)

-- Flags gathered by indices: index by index into a word, and word by word. For both gathers.
use mathlib.Core.Path.{◌≡◌, refl, sym, ap, ap₂, ◌∙◌}
use mathlib.Core.Bool.{Bool, false, ◌&&◌}
use mathlib.Core.List.{List, [], ◌∷◌, ◌++◌, append-nil}
use Prim.Native.Nat.{ℕ, suc, ◌+◌, ◌≤◌, ◌<◌}
use native.Mathlib.Numerals.{add-one}
use native.Mathlib.Omega.{arith}
use lib.Dec.{ltb}
use Rattle.std.specs.List.{list_all}
use lib.ListN.{length, take, get_or, length-append}
use lib.Seq.{take-suc, take-take, take-append-add}
use borrow.Author.Tests.{lt-ltb, le-ltb}
use Rattle.words.specs.Flags.{bits, copies, window}
use Rattle.words.proofs.flags.Bits.{length-bits}
use Rattle.words.proofs.theorems.Plain.{window-part}
use Rattle.words.proofs.flags.Windows.{at-window}
use Rattle.masks.specs.Appends.{gathered, all_below}
use Rattle.masks.specs.Builder.{Filling, appended}
use Rattle.masks.specs.Workers.{Room}
use Rattle.masks.proofs.builder.AppendLaws.{append-then, take-copies, one-copy}
use Rattle.masks.proofs.utils.PartLaws.{length-low}
use Rattle.masks.proofs.builder.RoomLaws.{room_after}

gathered-append : (l : List Bool) (a b : List ℕ) → gathered l (a ++ b) ≡ gathered l a ++ gathered l b
unfolding gathered
gathered-append l [] b = refl
gathered-append l (i ∷ a) b = ap (λ (t : List Bool). get_or l i false ∷ t) (gathered-append l a b)

pub length-gathered : (l : List Bool) (a : List ℕ) → length (gathered l a) ≡ length a
unfolding gathered
length-gathered l [] = refl
length-gathered l (i ∷ a) = ap suc (length-gathered l a)

pub gathered_none : (l : List Bool) (a : List ℕ) → [] ≡ gathered l (take 0 a)
unfolding gathered
gathered_none l a = refl

one-gathered : (l : List Bool) (i : ℕ) → gathered l (i ∷ []) ≡ get_or l i false ∷ []
unfolding gathered
one-gathered l i = refl

gathered_next : (l : List Bool) (a : List ℕ) (i : ℕ) → i < length a
    → gathered l (take (i + 1) a) ≡ gathered l (take i a) ++ (get_or l (get_or a i 0) false ∷ [])
gathered_next l a i h =
    ap (λ (n : ℕ). gathered l (take n a)) (add-one i) ∙ ap (gathered l) (take-suc a i 0 h)
    ∙ gathered-append l (take i a) (get_or a i 0 ∷ []) ∙ ap (λ (t : List Bool). gathered l (take i a) ++ t) (one-gathered l (get_or a i 0))

-- the flag at an index of a span is the flag of the bytes at start + index
pub flag-inside : (l : List Bool) (s n at : ℕ) (x : Bool) → at < n → x ≡ get_or l (s + at) false → x ≡ get_or (window l s n) at false
flag-inside l s n at x h e = sym (at-window l s n at ∙ ap (λ (t : Bool). t && get_or l (s + at) false) (lt-ltb at n h) ∙ sym e)

pub flag-past : (l : List Bool) (s n at : ℕ) → n ≤ at → false ≡ get_or (window l s n) at false
flag-past l s n at h = sym (at-window l s n at ∙ ap (λ (t : Bool). t && get_or l (s + at) false) (le-ltb at n h))

-- ---- into a word

-- joining one more flag to the first i of a word
next-flag : (w v r i : ℕ) (x : Bool) → i < 64 → bits 64 v ≡ copies 64 x → bits 64 r ≡ window (take i (bits 64 w) ++ bits 64 v) 0 64
    → take (i + 1) (bits 64 r) ≡ take i (bits 64 w) ++ (x ∷ [])
next-flag w v r i x h e p =
    let front : length (take i (bits 64 w)) ≡ i = length-low i w (omega arith) in
    let long : length (take i (bits 64 w) ++ bits 64 v) ≡ i + 64 =
    length-append (take i (bits 64 w)) (bits 64 v) ∙ ap₂ (λ (a b : ℕ). a + b) front (length-bits 64 v) in
    let row : bits 64 r ≡ take 64 (take i (bits 64 w) ++ bits 64 v) =
    p ∙ window-part (take i (bits 64 w) ++ bits 64 v) 0 64 (omega arith) in
    let n : i + 1 ≡ length (take i (bits 64 w)) + 1 = omega arith in
    ap (take (i + 1)) row ∙ take-take (i + 1) 64 (take i (bits 64 w) ++ bits 64 v) (omega arith)
    ∙ ap (λ (k : ℕ). take k (take i (bits 64 w) ++ bits 64 v)) n ∙ take-append-add (take i (bits 64 w)) (bits 64 v) 1
    ∙ ap (λ (t : List Bool). take i (bits 64 w) ++ t) (ap (take 1) e ∙ take-copies 1 64 x (omega arith) ∙ one-copy x)

pub word-step : (l : List Bool) (a : List ℕ) (w v r i at : ℕ) (x : Bool) → take i (bits 64 w) ≡ gathered l (take i a) → i < length a
    → length a ≤ 64 → at ≡ get_or a i 0
    → x ≡ get_or l at false
    → bits 64 v ≡ copies 64 x → bits 64 r ≡ window (take i (bits 64 w) ++ bits 64 v) 0 64
    → take (i + 1) (bits 64 r) ≡ gathered l (take (i + 1) a)
word-step l a w v r i at x inv h few ea ex ev er =
    next-flag w v r i x (omega arith) ev er
    ∙ ap₂ (λ (s : List Bool) (t : Bool). s ++ (t ∷ [])) inv (ex ∙ ap (λ (n : ℕ). get_or l n false) ea) ∙ sym (gathered_next l a i h)

-- ---- word by word: appending the flags that are left makes the builder that appending all of them makes

pub part-step : (f g h : Filling) (l : List Bool) (p a rest : List ℕ) (w : ℕ) → appended g (gathered l a) ≡ f → a ≡ p ++ rest
    → take (length p) (bits 64 w) ≡ gathered l p → h ≡ appended g (take (length p) (bits 64 w)) → appended h (gathered l rest) ≡ f
part-step f g h l p a rest w inv e part push =
    append-then g h (appended h (gathered l rest)) (gathered l p) (gathered l rest) (push ∙ ap (appended g) part) refl
    ∙ ap (appended g) (sym (gathered-append l p rest) ∙ ap (gathered l) (sym e)) ∙ inv

pub part-room : (g h : Filling) (l : List Bool) (p a rest : List ℕ) (w : ℕ) → a ≡ p ++ rest
    → take (length p) (bits 64 w) ≡ gathered l p → h ≡ appended g (take (length p) (bits 64 w))
    → Room g.builder (length a) (length g.bytes) → Room h.builder (length rest) (length h.bytes)
part-room g h l p a rest w e part push r =
    let n : length (take (length p) (bits 64 w)) ≡ length p = ap length part ∙ length-gathered l p in
    let m : length a ≡ length p + length rest = ap length e ∙ length-append p rest in
    room_after g h (take (length p) (bits 64 w)) (length a) (length rest) push (omega arith) r

pub none-more : (g h : Filling) (l : List Bool) → h ≡ appended g l → appended h [] ≡ h
none-more g h l e = append-then g h (appended h []) l [] e refl ∙ ap (appended g) (append-nil l) ∙ sym e

pub nothing-left : (f g : Filling) (l : List Bool) (a : List ℕ) → appended g (gathered l a) ≡ f → length a ≡ 0 → appended g [] ≡ g → g ≡ f
nothing-left f g l [] inv e none = sym none ∙ ap (appended g) (gathered_none l []) ∙ inv
nothing-left f g l (i ∷ a) inv e none = absurd (omega arith)

-- ---- indices that are all below n, by std's definition

pub below-is-all : (n : ℕ) (a : List ℕ) → list_all (λ (i : ℕ). ltb i n) a ≡ all_below n a
unfolding all_below
below-is-all n [] = refl
below-is-all n (i ∷ a) = ap (λ (x : Bool). ltb i n && x) (below-is-all n a)

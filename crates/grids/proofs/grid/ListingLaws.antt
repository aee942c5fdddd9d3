-- Lists by their numbers: how long they are, what stands where, when two are equal.
use Rattle.std.proofs.Common.{◌≡◌, refl, sym, ap, ap₂, ◌∙◌, ℕ, zero, suc, ◌+◌, ◌*◌, ◌<◌, Bool, false, List, [], ◌∷◌, ◌++◌, length, get_or}
use Rattle.std.proofs.Common.{arith, slice_set}
use Rattle.std.proofs.lemmas.List.{get_or_append_left, get_or-append-add, length-append}
use Rattle.words.specs.Flags.{over, window}
use Rattle.words.proofs.flags.Windows.{over_none, set-over}
use Rattle.grids.specs.Grid.{concatenated, listing}

pub length-listing : {A : Type 0} (n : ℕ) (f : ℕ → A) → length (listing n f) ≡ n
unfolding listing
length-listing zero f = refl
length-listing (suc n) f = ap suc (length-listing n (λ (k : ℕ). f (suc k)))

pub at-listing : {A : Type 0} (n : ℕ) (f : ℕ → A) (k : ℕ) (d : A) → k < n → get_or (listing n f) k d ≡ f k
unfolding listing
at-listing zero f k d p = absurd (omega arith)
at-listing (suc n) f zero d p = refl
at-listing (suc n) f (suc k) d p = at-listing n (λ (i : ℕ). f (suc i)) k d (omega arith)

pub listing-ext : {A : Type 0} (n : ℕ) (f g : ℕ → A) → ((k : ℕ) → k < n → f k ≡ g k) → listing n f ≡ listing n g
unfolding listing
listing-ext zero f g h = refl
listing-ext (suc n) f g h =
    ap₂ (λ (x : _) (l : List _). x ∷ l) (h 0 (omega arith))
    (listing-ext n (λ (k : ℕ). f (suc k)) (λ (k : ℕ). g (suc k)) (λ k p. h (suc k) (omega arith)))

-- one more, at the end
pub listing-more : {A : Type 0} (n : ℕ) (f : ℕ → A) → listing (suc n) f ≡ listing n f ++ (f n ∷ [])
unfolding listing
listing-more zero f = refl
listing-more (suc n) f = ap (λ (l : List _). f 0 ∷ l) (listing-more n (λ (k : ℕ). f (suc k)))

-- a window is the list of its flags
pub window-listing : (l : List Bool) (k n : ℕ) → window l k n ≡ listing n (λ i. get_or l (k + i) false)
unfolding listing window
window-listing l k zero = refl
window-listing l k (suc n) =
    let z : k ≡ k + 0 = omega arith in
    ap₂ (λ (x : Bool) (m : List Bool). x ∷ m) (ap (λ (i : ℕ). get_or l i false) z)
    (window-listing l (suc k) n
    ∙ listing-ext n _ _ (λ i p. let e : suc k + i ≡ k + suc i = omega arith in ap (λ (j : ℕ). get_or l j false) e))

-- ---- lists one after another

pub concatenated-ext : (n : ℕ) (f g : ℕ → List Bool) → ((k : ℕ) → k < n → f k ≡ g k) → concatenated n f ≡ concatenated n g
unfolding concatenated
concatenated-ext zero f g h = refl
concatenated-ext (suc n) f g h =
    ap₂ (λ (x l : List Bool). x ++ l) (h 0 (omega arith))
    (concatenated-ext n (λ (k : ℕ). f (suc k)) (λ (k : ℕ). g (suc k)) (λ k p. h (suc k) (omega arith)))

pub length-concatenated : (n m : ℕ) (f : ℕ → List Bool) → ((k : ℕ) → length (f k) ≡ m) → length (concatenated n f) ≡ n * m
unfolding concatenated
length-concatenated zero m f h = omega arith
length-concatenated (suc n) m f h =
    let rest = length-concatenated n m (λ (k : ℕ). f (suc k)) (λ k. h (suc k)) in
    omega (arith, length-append (f 0) (concatenated n (λ (k : ℕ). f (suc k))), h 0, rest)

-- flag r of list c
pub at-concatenated : (n m : ℕ) (f : ℕ → List Bool) (c r : ℕ) → ((k : ℕ) → length (f k) ≡ m) → c < n → r < m
    → get_or (concatenated n f) (c * m + r) false ≡ get_or (f c) r false
unfolding concatenated
at-concatenated zero m f c r h p q = absurd (omega arith)
at-concatenated (suc n) m f zero r h p q =
    let e : zero * m + r ≡ r = omega arith in
    ap (λ (k : ℕ). get_or (f 0 ++ concatenated n (λ (i : ℕ). f (suc i))) k false) e
    ∙ get_or_append_left (f 0) (concatenated n (λ (i : ℕ). f (suc i))) false r (omega (arith, h 0))
at-concatenated (suc n) m f (suc c) r h p q =
    let e : suc c * m + r ≡ length (f 0) + (c * m + r) = omega (arith, h 0) in
    ap (λ (k : ℕ). get_or (f 0 ++ concatenated n (λ (i : ℕ). f (suc i))) k false) e
    ∙ get_or-append-add (f 0) (concatenated n (λ (i : ℕ). f (suc i))) (c * m + r) false
    ∙ at-concatenated n m (λ (i : ℕ). f (suc i)) c r (λ k. h (suc k)) (omega arith) q

-- ---- written over places, one by one

pub set-listing : (old now : List ℕ) (n x : ℕ) (f : ℕ → ℕ) → now ≡ over old (listing n f) → x ≡ f n
    → slice_set now n x ≡ over old (listing (n + 1) f)
set-listing old now n x f e p =
    let s : n + 1 ≡ suc n = omega arith in
    ap₂ (λ (l : List ℕ) (k : ℕ). slice_set l k x) e (sym (length-listing n f)) ∙ set-over old (listing n f) x
    ∙ ap (λ (y : ℕ). over old (listing n f ++ (y ∷ []))) p ∙ ap (over old) (sym (listing-more n f) ∙ ap (λ (k : ℕ). listing k f) (sym s))

pub listing-none : {A : Type 0} (old : List A) (f : ℕ → A) → old ≡ over old (listing 0 f)
unfolding listing
listing-none old f = sym (over_none old)

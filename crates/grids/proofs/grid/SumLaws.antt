-- Sums over lists by their numbers, and the zeros of lists.
use Rattle.std.proofs.Common.{◌≡◌, refl, sym, ap, ◌∙◌, ℕ, zero, suc, ◌+◌, ◌≤◌, Bool, true, false, not, List, [], ◌∷◌, ◌++◌, arith}
use Rattle.std.proofs.lemmas.List.{map-append}
use Rattle.std.proofs.lemmas.List.Sums.{sum_by-cons}
use Rattle.std.specs.Int.{from_bool}
use Rattle.std.specs.Prelude.{map, sum}
use Rattle.words.specs.Flags.{count, digit}
use Rattle.words.proofs.counts.Counting.{count-append}
use Rattle.masks.specs.Utils.{zeros}
use Rattle.grids.specs.Grid.{concatenated, listing}
use Rattle.grids.proofs.grid.ListingLaws.{listing-ext, listing-more}

-- ---- zeros

pub zeros-append : (a b : List Bool) → zeros (a ++ b) ≡ zeros a + zeros b
unfolding zeros
zeros-append a b = ap count (map-append not a b) ∙ count-append (map not a) (map not b)

pub no-zeros : zeros [] ≡ 0
unfolding zeros count
no-zeros = refl

-- the zeros of one flag
abbrev pub zero_of : Bool → ℕ
zero_of x = digit (not x)

-- a flag as a number
pub one-zero : (x y : Bool) (r : ℕ) → r ≡ from_bool (not x) → x ≡ y → (r ≡ zero_of y) × (r ≤ 1)
one-zero true y r e p = rw (sym p) (e, omega arith)
one-zero false y r e p = rw (sym p) (e, omega arith)

zeros-cons : (x : Bool) (l : List Bool) → zeros (x ∷ l) ≡ zero_of x + zeros l
unfolding zeros count
zeros-cons x l = refl

pub zeros-more : (n : ℕ) (f : ℕ → Bool) → zeros (listing n f) + zero_of (f n) ≡ zeros (listing (n + 1) f)
zeros-more n f =
    let s : suc n ≡ n + 1 = omega arith in
    sym
    (ap (λ (k : ℕ). zeros (listing k f)) (sym s) ∙ ap zeros (listing-more n f) ∙ zeros-append (listing n f) (f n ∷ [])
    ∙ ap (λ (k : ℕ). zeros (listing n f) + k) (omega (arith, zeros-cons (f n) [], no-zeros)))

pub zeros-listed : (f : ℕ → Bool) → 0 ≡ zeros (listing 0 f)
unfolding listing
zeros-listed f = sym no-zeros

-- ---- sums

sum-cons : (x : ℕ) (xs : List ℕ) → sum (x ∷ xs) ≡ x + sum xs
sum-cons x xs = sum_by-cons (λ (n : ℕ). n) x xs

pub zeros-concatenated : (n : ℕ) (f : ℕ → List Bool) → sum (listing n (λ k. zeros (f k))) ≡ zeros (concatenated n f)
unfolding concatenated listing
zeros-concatenated zero f = sym no-zeros
zeros-concatenated (suc n) f =
    sum-cons (zeros (f 0)) (listing n (λ (k : ℕ). zeros (f (suc k))))
    ∙ ap (λ (k : ℕ). zeros (f 0) + k) (zeros-concatenated n (λ (k : ℕ). f (suc k)))
    ∙ sym (zeros-append (f 0) (concatenated n (λ (k : ℕ). f (suc k))))

pub zeros-listing : (n : ℕ) (f : ℕ → Bool) → zeros (listing n f) ≡ sum (listing n (λ k. zero_of (f k)))
unfolding listing
zeros-listing zero f = no-zeros
zeros-listing (suc n) f =
    zeros-cons (f 0) (listing n (λ (k : ℕ). f (suc k)))
    ∙ ap (λ (k : ℕ). zero_of (f 0) + k) (zeros-listing n (λ (k : ℕ). f (suc k)))
    ∙ sym (sum-cons (zero_of (f 0)) (listing n (λ (k : ℕ). zero_of (f (suc k)))))

sum-add : (n : ℕ) (f g : ℕ → ℕ) → sum (listing n (λ k. f k + g k)) ≡ sum (listing n f) + sum (listing n g)
unfolding listing
sum-add zero f g = refl
sum-add (suc n) f g =
    let h = sum-add n (λ (k : ℕ). f (suc k)) (λ (k : ℕ). g (suc k)) in
    sum-cons (f 0 + g 0) (listing n (λ (k : ℕ). f (suc k) + g (suc k)))
    ∙ omega (arith, h, sum-cons (f 0) (listing n (λ (k : ℕ). f (suc k))), sum-cons (g 0) (listing n (λ (k : ℕ). g (suc k))))

sum-zero : (n : ℕ) → sum (listing n (λ (k : ℕ). 0)) ≡ 0
unfolding listing
sum-zero zero = refl
sum-zero (suc n) = sum-cons 0 (listing n (λ (k : ℕ). 0)) ∙ omega (arith, sum-zero n)

-- two sums, one in the other, in either order
pub sums-exchanged : (n m : ℕ) (f : ℕ → ℕ → ℕ)
    → sum (listing n (λ c. sum (listing m (λ r. f c r)))) ≡ sum (listing m (λ r. sum (listing n (λ c. f c r))))
unfolding listing
sums-exchanged zero m f = sym (sum-zero m)
sums-exchanged (suc n) m f =
    sum-cons (sum (listing m (f 0))) (listing n (λ (c : ℕ). sum (listing m (f (suc c)))))
    ∙ ap (λ (k : ℕ). sum (listing m (f 0)) + k) (sums-exchanged n m (λ (c : ℕ). f (suc c)))
    ∙ sym (sum-add m (f 0) (λ (r : ℕ). sum (listing n (λ (c : ℕ). f (suc c) r))))
    ∙ ap sum (listing-ext m _ _ (λ r p. sym (sum-cons (f 0 r) (listing n (λ (c : ℕ). f (suc c) r)))))

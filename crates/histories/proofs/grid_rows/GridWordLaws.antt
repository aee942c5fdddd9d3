-- The reference list's own words on grids agree with the definitions of the contracts, for a list of rows * columns flags.
use Rattle.std.proofs.Common.{◌≡◌, refl, sym, ap, ap₂, ◌∙◌, ℕ, zero, suc, ◌+◌, ◌*◌, ◌<◌, Bool, false, List, [], ◌∷◌, ◌++◌, length, drop}
use Rattle.std.proofs.Common.{arith, get_or}
use Rattle.std.proofs.lemmas.List.{get_or-drop, length-drop}
use Rattle.std.proofs.Math.Nat.{mul-le-mul_left}
use mathlib.Core.List.{flat_map, map}
use Rattle.words.proofs.theorems.Plain.{window-part}
use Rattle.grids.specs.Grid.{column_flags, concatenated, listing, row_flags, transposed}
use Rattle.grids.proofs.grid.ListingLaws.{concatenated-ext, listing-ext, window-listing}
use Rattle.histories.specs.ReferenceList.{column_of, every_nth, exchanged, row_of, up_from}

-- ---- lists by their numbers

counted-from : {A : Type 0} (n first : ℕ) (f : ℕ → A) → listing n (λ k. f (first + k)) ≡ map f (up_from first n)
unfolding listing
counted-from zero first f = refl
counted-from (suc n) first f =
    let z : first + 0 ≡ first = omega arith in
    ap₂ (λ (x : _) (l : List _). x ∷ l) (ap f z)
    (listing-ext n _ _ (λ k p. let e : first + suc k ≡ suc first + k = omega arith in ap f e) ∙ counted-from n (suc first) f)

pub listed : {A : Type 0} (n : ℕ) (f : ℕ → A) → listing n f ≡ map f (up_from 0 n)
listed n f = listing-ext n _ _ (λ k p. let e : k ≡ 0 + k = omega arith in ap f e) ∙ counted-from n 0 f

concatenated-from : (n first : ℕ) (f : ℕ → List Bool) → concatenated n (λ k. f (first + k)) ≡ flat_map f (up_from first n)
unfolding concatenated flat_map
concatenated-from zero first f = refl
concatenated-from (suc n) first f =
    let z : first + 0 ≡ first = omega arith in
    ap₂ (λ (a b : List Bool). a ++ b) (ap f z)
    (concatenated-ext n _ _ (λ k p. let e : first + suc k ≡ suc first + k = omega arith in ap f e) ∙ concatenated-from n (suc first) f)

-- ---- rows, columns, and both exchanged

pub row-word : (l : List Bool) (rows columns r : ℕ) → length l ≡ rows * columns → r < rows → row_flags l columns r ≡ row_of columns r l
unfolding row_flags
row-word l rows columns r size inside =
    let far = mul-le-mul_left columns inside in
    sym (window-listing l (r * columns) columns) ∙ window-part l (r * columns) columns (omega (arith, far, size))

-- of a list with so many flags that the last of these is in it
nth-flags : (step n : ℕ) (l : List Bool) → n * step < length l + step → listing n (λ r. get_or l (r * step) false) ≡ every_nth step n l
unfolding listing
nth-flags step zero l h = refl
nth-flags step (suc n) [] h = absurd (omega arith)
nth-flags step (suc n) (x ∷ l) h =
    let z : 0 * step ≡ 0 = omega arith in
    ap₂ (λ (y : Bool) (m : List Bool). y ∷ m) (ap (λ (i : ℕ). get_or (x ∷ l) i false) z)
    (listing-ext n _ _ (λ r p.
    let e : suc r * step ≡ step + r * step = omega arith in
    ap (λ (i : ℕ). get_or (x ∷ l) i false) e ∙ sym (get_or-drop step (x ∷ l) (r * step) false))
    ∙ nth-flags step n (drop step (x ∷ l)) (omega (arith, length-drop step (x ∷ l))))

pub column-word : (l : List Bool) (rows columns c : ℕ) → length l ≡ rows * columns → c < columns
    → column_flags l rows columns c ≡ column_of rows columns c l
unfolding column_flags
column-word l rows columns c size inside =
    listing-ext rows _ _ (λ r p.
    let e : r * columns + c ≡ c + r * columns = omega arith in
    ap (λ (i : ℕ). get_or l i false) e ∙ sym (get_or-drop c l (r * columns) false))
    ∙ nth-flags columns rows (drop c l) (omega (arith, length-drop c l))

pub exchanged-word : (l : List Bool) (rows columns : ℕ) → length l ≡ rows * columns → transposed l rows columns ≡ exchanged rows columns l
unfolding transposed
exchanged-word l rows columns size =
    concatenated-ext columns _ (λ (c : ℕ). column_of rows columns (0 + c) l) (λ c p.
    let e : c ≡ 0 + c = omega arith in
    column-word l rows columns c size p ∙ ap (λ (i : ℕ). column_of rows columns i l) e)
    ∙ concatenated-from columns 0 (λ (c : ℕ). column_of rows columns c l)

-- The zeros of the rows, one after another.
use Rattle.std.proofs.Common.{◌≡◌, sym, ap, ◌∙◌, ℕ, ◌+◌, ◌-◌, ◌*◌, ◌<◌, ◌≤◌, Bool, List, arith, get_or, false, take}
use Rattle.std.proofs.Math.Nat.{mul-le-mul_left}
use Rattle.words.specs.Flags.{bits, count, over, window}
use Rattle.words.proofs.flags.Windows.{at_in, length-window, window-cut}
use Rattle.masks.specs.Utils.{zeros}
use Rattle.masks.proofs.utils.PartLaws.{zeros-rest}
use Rattle.grids.specs.Grid.{listing, row_flags, row_zeros}
use Rattle.grids.proofs.grid.ListingLaws.{listing-ext, window-listing}

-- a row is the flags of the bytes that begin at its start
pub row-stretch : (F : List Bool) (start rows columns r : ℕ) → r < rows
    → row_flags (window F start (rows * columns)) columns r ≡ window F (start + r * columns) columns
unfolding row_flags
row-stretch F start rows columns r inside =
    let far = mul-le-mul_left columns inside in
    listing-ext columns _ _ (λ c p.
    let e : start + (r * columns + c) ≡ start + r * columns + c = omega arith in
    at_in F start (rows * columns) (r * columns + c) (omega (arith, far)) ∙ ap (λ (i : ℕ). get_or F i false) e)
    ∙ sym (window-listing F (start + r * columns) columns)

-- the zeros of rows 0 to n - 1
abbrev pub zeros_up_to : List Bool → ℕ → ℕ → List ℕ
zeros_up_to l columns n = listing n (λ r. zeros (row_flags l columns r))

-- of the columns of a row, those whose flags are not ones are its zeros
pub row-zeros : (F : List Bool) (start rows columns r ones : ℕ) → r < rows → ones ≡ count (window F (start + r * columns) columns)
    → columns - ones ≡ zeros (row_flags (window F start (rows * columns)) columns r)
row-zeros F start rows columns r ones inside e =
    zeros-rest (window F (start + r * columns) columns) columns ones (length-window F (start + r * columns) columns) e
    ∙ ap zeros (sym (row-stretch F start rows columns r inside))

pub all_rows : (old : List ℕ) (l : List Bool) (rows columns n : ℕ) → n ≡ rows
    → over old (zeros_up_to l columns n) ≡ over old (row_zeros l rows columns)
unfolding row_zeros
all_rows old l rows columns n e = ap (λ (k : ℕ). over old (zeros_up_to l columns k)) e

-- ---- a row of at most a word

-- the ones of the low flags of the word that is read at a row's start are those of the row
pub word-row : (F : List Bool) (at columns w ones : ℕ) → columns ≤ 64 → bits 64 w ≡ window F at 64 → ones ≡ count (take columns (bits 64 w))
    → ones ≡ count (window F at columns)
word-row F at columns w ones few p q =
    let e : at + 0 ≡ at = omega arith in
    q ∙ ap (λ (l : List Bool). count (take columns l)) p ∙ ap count (window-cut F at 64 0 columns (omega (arith, few)))
    ∙ ap (λ (i : ℕ). count (window F i columns)) e

pub at-place : (F : List Bool) (at place columns : ℕ) → at ≡ place → count (window F at columns) ≡ count (window F place columns)
at-place F at place columns e = ap (λ (i : ℕ). count (window F i columns)) e

pub next-place : (at start row columns : ℕ) → at ≡ start + row * columns → at + columns ≡ start + (row + 1) * columns
next-place at start row columns e = omega (arith, e)

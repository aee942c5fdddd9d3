-- Words as rows of flags: a flag of an operation on words, columns of parts and of changed rows, counts of all columns.
use Rattle.std.proofs.Common.{◌≡◌, refl, sym, ap, ◌∙◌, Bool, false, ◌&&◌, ◌||◌, List, [], ◌∷◌, ◌++◌, ⊎_elim, ℕ, zero, suc, ◌+◌, ◌≤◌, ◌<◌}
use Rattle.std.proofs.Common.{zero-add, arith, bit_and, bit_or, bit_xor, length, get_or, set, replicate, ext_get_or}
use Rattle.std.proofs.Math.Bool.{xor}
use Rattle.std.proofs.Math.ListN.{get_or-eq_default}
use mathlib.Core.List.{zip_with}
use Rattle.std.proofs.lemmas.Bool.{cases_lt}
use Rattle.words.specs.Flags.{digit, bits, word_flags, count}
use Rattle.words.specs.Columns.{column, columns_from, column_counts}
use Rattle.words.specs.Planes.{digit_of}
use Rattle.words.proofs.flags.Bits.{length-bits, bits-and, bits-or, bits-xor, bits-zero}
use Rattle.words.proofs.counts.Counting.{count-append, count-le}
use Rattle.words.proofs.flags.Windows.{at_copies}

-- ---- a flag of a word

-- flag c of a word
abbrev pub flag : ℕ → ℕ → Bool
flag w c = get_or (word_flags w) c false

-- two lists joined flag by flag, by position
pub at_zip_with : (f : Bool → Bool → Bool) (a b : List Bool) (j : ℕ) → j < length a → j < length b
    → get_or (zip_with f a b) j false ≡ f (get_or a j false) (get_or b j false)
unfolding zip_with
at_zip_with f [] b j p q = absurd (omega arith)
at_zip_with f (x ∷ a) [] j p q = absurd (omega arith)
at_zip_with f (x ∷ a) (y ∷ b) zero p q = refl
at_zip_with f (x ∷ a) (y ∷ b) (suc j) p q = at_zip_with f a b j (omega arith) (omega arith)

module _ (op : ℕ → ℕ → ℕ) (f : Bool → Bool → Bool) (law : (d a b : ℕ) → bits d (op a b) ≡ zip_with f (bits d a) (bits d b)) where
  flag-op : (a b c : ℕ) → c < 64 → flag (op a b) c ≡ f (flag a c) (flag b c)
  flag-op a b c p =
      ap (λ (l : List Bool). get_or l c false) (law 64 a b)
      ∙ at_zip_with f (bits 64 a) (bits 64 b) c (omega (arith, length-bits 64 a)) (omega (arith, length-bits 64 b))

pub flag-and : (a b c : ℕ) → c < 64 → flag (bit_and a b) c ≡ (flag a c && flag b c)
flag-and = flag-op bit_and ◌&&◌ bits-and

pub flag-xor : (a b c : ℕ) → c < 64 → flag (bit_xor a b) c ≡ xor (flag a c) (flag b c)
flag-xor = flag-op bit_xor xor bits-xor

pub flag_or : (a b c : ℕ) → c < 64 → flag (bit_or a b) c ≡ (flag a c || flag b c)
flag_or = flag-op bit_or ◌||◌ bits-or

-- a word has no flag 64 and none above
pub no_digit : (w c : ℕ) → 64 ≤ c → 0 ≡ digit_of w c
no_digit w c h = ap digit (sym (get_or-eq_default (word_flags w) false (omega (arith, length-bits 64 w))))

-- no flag of 0 is set
pub zero-digit : (c : ℕ) → digit_of 0 c ≡ 0
zero-digit c = ⊎_elim
    (λ (p : c < 64). ap (λ (l : List Bool). digit (get_or l c false)) (bits-zero 64) ∙ ap digit (at_copies 64 false c p))
    (λ (h : 64 ≤ c). sym (no_digit 0 c h))
    (cases_lt c 64)

-- ---- a column

pub length-column : (rows : List ℕ) (c : ℕ) → length (column rows c) ≡ length rows
unfolding column
length-column [] c = refl
length-column (w ∷ rows) c = ap suc (length-column rows c)

pub column-append : (a b : List ℕ) (c : ℕ) → column (a ++ b) c ≡ column a c ++ column b c
unfolding column
column-append [] b c = refl
column-append (w ∷ a) b c = ap (λ (l : List Bool). flag w c ∷ l) (column-append a b c)

-- another word in place of word i: its flag is counted, and the flag of the word that was there is not
pub column-set : (rows : List ℕ) (i w c : ℕ) → i < length rows
    → count (column (set rows i w) c) + digit_of (get_or rows i 0) c ≡ count (column rows c) + digit_of w c
unfolding column count
column-set [] i w c h = absurd (omega arith)
column-set (x ∷ rows) zero w c h = omega arith
column-set (x ∷ rows) (suc i) w c h = omega (arith, column-set rows i w c (omega arith))

-- the flag of word i is one of those that its column counts
pub digit-counted : (rows : List ℕ) (i c : ℕ) → i < length rows → digit_of (get_or rows i 0) c ≤ count (column rows c)
unfolding column count
digit-counted [] i c h = absurd (omega arith)
digit-counted (x ∷ rows) zero c h = omega arith
digit-counted (x ∷ rows) (suc i) c h = omega (arith, digit-counted rows i c (omega arith))

pub column-le : (rows : List ℕ) (c : ℕ) → count (column rows c) ≤ length rows
column-le rows c = omega (arith, count-le (column rows c), length-column rows c)

pub column-zeros : (n c : ℕ) → count (column (replicate n 0) c) ≡ 0
unfolding column count
column-zeros zero c = refl
column-zeros (suc n) c = omega (arith, zero-digit c, column-zeros n c)

-- ---- all columns

length_from : (rows : List ℕ) (c n : ℕ) → length (columns_from rows c n) ≡ n
unfolding columns_from
length_from rows c zero = refl
length_from rows c (suc n) = ap suc (length_from rows (suc c) n)

at_from : (rows : List ℕ) (c n j : ℕ) → j < n → get_or (columns_from rows c n) j 0 ≡ count (column rows (c + j))
unfolding columns_from
at_from rows c zero j h = absurd (omega arith)
at_from rows c (suc n) zero h = let e : c ≡ c + 0 = omega arith in ap (λ (x : ℕ). count (column rows x)) e
at_from rows c (suc n) (suc j) h =
    let e : suc c + j ≡ c + suc j = omega arith in at_from rows (suc c) n j (omega arith) ∙ ap (λ (x : ℕ). count (column rows x)) e

pub length-columns : (rows : List ℕ) → length (column_counts rows) ≡ 64
unfolding column_counts
length-columns rows = length_from rows 0 64

pub at-columns : (rows : List ℕ) (c : ℕ) → c < 64 → get_or (column_counts rows) c 0 ≡ count (column rows c)
unfolding column_counts
at-columns rows c h = at_from rows 0 64 c h ∙ ap (λ (x : ℕ). count (column rows x)) (zero-add c)

-- 64 numbers, each the count of its column, are the counts
pub columns-are : (rows out : List ℕ) → length out ≡ 64 → ((c : ℕ) → c < 64 → get_or out c 0 ≡ count (column rows c))
    → out ≡ column_counts rows
columns-are rows out long each =
    ext_get_or 0 out (column_counts rows) (long ∙ sym (length-columns rows))
    (λ c h. let p : c < 64 = omega arith in each c p ∙ sym (at-columns rows c p))

-- two lists of rows with equal counts in each column
pub columns-alike : (a b : List ℕ) → ((c : ℕ) → c < 64 → count (column a c) ≡ count (column b c)) → column_counts a ≡ column_counts b
columns-alike a b each = columns-are b (column_counts a) (length-columns a) (λ c p. at-columns a c p ∙ each c p)

-- words of zero after the others count nothing
pub columns-padded : (rows : List ℕ) (n : ℕ) → column_counts (rows ++ replicate n 0) ≡ column_counts rows
columns-padded rows n = columns-alike (rows ++ replicate n 0) rows (λ c p.
    ap count (column-append rows (replicate n 0) c) ∙ count-append (column rows c) (column (replicate n 0) c)
    ∙ omega (arith, column-zeros n c))

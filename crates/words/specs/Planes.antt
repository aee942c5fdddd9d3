-- Numbers of 64 columns in bit planes: plane i has digit i of each. The statements of the contracts in `planes`.
use Rattle.std.specs.Prelude.{ℕ, ◌+◌, ◌*◌, ◌^◌, ◌<◌, false, List, [], ◌∷◌, ◌≡◌, length, get_or}
use Rattle.std.specs.Int.Bits.{bit_and, bit_xor}
use Rattle.words.specs.Flags.{word_flags, count, digit}
use Rattle.words.specs.Columns.{column}

-- flag c of a word as a number; a word has no flag from 64 on
abbrev pub digit_of : ℕ → ℕ → ℕ
digit_of w c = digit (get_or (word_flags w) c false)

-- the number whose binary digits, lowest first, are the flags c of the planes
unfoldable pub planes_at : List ℕ → ℕ → ℕ
planes_at [] c = 0
planes_at (p ∷ ps) c = digit (get_or (word_flags p) c false) + 2 * planes_at ps c

-- the planes with the word w added: each plane hands its carry to the next, and that of the last is lost
unfoldable pub added : List ℕ → ℕ → List ℕ
added [] w = []
added (p ∷ ps) w = bit_xor p w ∷ added ps (bit_and p w)

-- in each column, the sum of the flags of x, y and z has the two digits `low` and `high`
unfoldable pub Added : ℕ → ℕ → ℕ → ℕ → ℕ → Type 0
Added x y z low high = (c : ℕ) → c < 64 → digit_of low c + 2 * digit_of high c ≡ digit_of x c + digit_of y c + digit_of z c

-- in each column, how many of `words` have the flag set plus the number with digits p, q is the one with digits `ones`, `twos`, `fours`
unfoldable pub FourMore : List ℕ → ℕ → ℕ → ℕ → ℕ → ℕ → Type 0
FourMore words p q ones twos fours = (c : ℕ) → c < 64
    → digit_of ones c + 2 * digit_of twos c + 4 * digit_of fours c ≡ digit_of p c + 2 * digit_of q c + count (column words c)

-- `planes` with `words` added are `new`: a column's number grows by how many words have its flag set, if the planes can hold the sum
pub record Grown (planes words new : List ℕ) : Type 0 where
  pub alike : length new ≡ length planes
  pub sums : (c : ℕ) → c < 64 → planes_at planes c + count (column words c) < 2 ^ length planes
      → planes_at new c ≡ planes_at planes c + count (column words c)

-- for `words`: nine planes that hold, for each column, how many of them have its flag set, those of `left` not counted
pub record Totals (words planes left : List ℕ) : Type 0 where
  pub nine : length planes ≡ 9
  pub sums : (c : ℕ) → c < 64 → planes_at planes c + count (column left c) ≡ count (column words c)

-- the numbers of the columns of `planes`, starting at column s, are the first k numbers of `out`
unfoldable pub Wrote : List ℕ → ℕ → List ℕ → ℕ → Type 0
Wrote planes s out k = (c : ℕ) → c < k → get_or out c 0 ≡ planes_at planes (s + c)

-- The checks of the reference: each is its number, and whether it holds.
--
-- A call's checks are a list made of the pieces below. The number of the call is that of the first check that fails. First is the one of
-- the least `rank`: so a list may name its checks in any order.
use Rattle.std.specs.Prelude.{ℕ, zero, suc, ◌+◌, ◌*◌, ◌/◌, Bool, cond, List, [], ◌∷◌, leb, eqb}

pub record Check : Type 0 where
  pub number : ℕ
  pub holds : Bool

abbrev pub check : ℕ → Bool → Check
check n t = record { number = n; holds = t }

-- ---- the order of the checks

-- the numbers of the checks in their order, the first one first: written from include/refusals.txt
abbrev pub order : List ℕ
order =
    1
    ∷ 2
    ∷ 13
    ∷ 3
    ∷ 14
    ∷ 4
    ∷ 5
    ∷ 12
    ∷ 6
    ∷ 7
    ∷ 8
    ∷ 9
    ∷ []

-- the place of a number in a list, counted from 0; the list's length if it is not there
unfoldable pub place_in : List ℕ → ℕ → ℕ
place_in [] n = 0
place_in (m ∷ ms) n = cond (eqb n m) 0 (suc (place_in ms n))

-- the place of a number in the order of the checks
unfoldable pub rank : ℕ → ℕ
rank n = place_in order n

-- ---- the first failed check

-- the one of two numbers that comes first in the order; each is 0 if nothing failed
unfoldable pub earlier : ℕ → ℕ → ℕ
earlier zero b = b
earlier (suc a) zero = suc a
earlier (suc a) (suc b) = cond (leb (rank (suc a)) (rank (suc b))) (suc a) (suc b)

abbrev pub failure : Check → ℕ
failure c = cond c.holds 0 c.number

-- the number of the first check that fails, and 0 if none fails
unfoldable pub first_failed : List Check → ℕ
first_failed [] = 0
first_failed (c ∷ cs) = earlier (failure c) (first_failed cs)

-- the flag limit
abbrev pub limit : ℕ
limit = 4194304

-- ---- the pieces

-- check 1 of a start or a length
abbrev pub within_limit : ℕ → Check
within_limit n = check 1 (leb n limit)

-- checks 1 and 2 of a span of n flags over `size` bytes
unfoldable pub span_checks : ℕ → ℕ → ℕ → List Check
span_checks start n size = within_limit start ∷ within_limit n ∷ check 2 (leb (start + n) (8 * size)) ∷ []

-- check 8 of an address remainder
unfoldable pub address_checks : ℕ → List Check
address_checks address = check 8 (leb address 7) ∷ []

-- check 9: an output of `size` bytes holds the frozen bytes of n flags
unfoldable pub output_checks : ℕ → ℕ → List Check
output_checks n size = check 9 (leb (8 * ((n + 63) / 64)) size) ∷ []

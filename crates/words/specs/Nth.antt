-- The place of set flag n of a list.
use Rattle.std.specs.Prelude.{ℕ, zero, suc, Bool, true, false, cond, List, [], ◌∷◌, ltb, Result, Ok, Err}
use Rattle.words.specs.Flags.{count}

-- in l, the place of set flag n, counted from 0, if more than n flags are set
unfoldable pub nth_place : List Bool → ℕ → ℕ
nth_place [] n = 0
nth_place (false ∷ l) n = suc (nth_place l n)
nth_place (true ∷ l) zero = 0
nth_place (true ∷ l) (suc n) = suc (nth_place l n)

-- for the flags l of a word: the place of set flag n, or, if at most n flags are set, how many are
unfoldable pub nth_one : List Bool → ℕ → Result ℕ ℕ
nth_one l n = cond (ltb n (count l)) (Ok (nth_place l n)) (Err (count l))

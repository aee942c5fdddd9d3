-- The reference list's own words: what spans, other masks and appends add to it, and what the operations make of flags.
--
-- Written from the reference and Arrow's numbering: `flag_at bytes j` is bit j mod 8 of byte j div 8, `bit_at w j` is bit j of w. This file
-- has no definition that the contract of a history's call cites; `ReferenceLaws` proves that both say the same.
use Rattle.std.specs.Prelude.{ℕ, zero, suc, ◌+◌, ◌*◌, ℤ, pos, negsuc, Bool, false, cond, not, ◌&&◌, ◌||◌, ltb, drop, replicate, take}
use mathlib.Core.List.{List, [], ◌∷◌, ◌++◌, flat_map, map, zip, zip_with}
use Rattle.words.specs.Flags.{bit_at, flag_at}
use Rattle.masks.specs.equations.Appends.{Append, push_flag, extend_constant, push_word, extend_slice}
use Rattle.masks.specs.equations.Appends.{extend_repeated, extend_bitmap, extend_gather, extend_opt_gather}
use Rattle.masks.specs.declared.bitmap.Bitmap.{Bitmap}

-- n consecutive numbers that begin with `first`
abbrev pub up_from : ℕ → ℕ → List ℕ
up_from first zero = []
up_from first (suc n) = first ∷ up_from (suc first) n

-- ---- spans and masks: the flags in their bytes

abbrev pub span_flags : List ℕ → ℕ → ℕ → List Bool
span_flags bytes start n = map (flag_at bytes) (up_from start n)

abbrev pub flags_in : Bitmap → List ℕ → List Bool
flags_in m bytes = span_flags bytes m.start m.length

-- n flags of a list, after the first `offset`
abbrev pub piece : ℕ → ℕ → List Bool → List Bool
piece offset n l = take n (drop offset l)

-- ---- what an append adds: `push` its flag, `extend_constant` copies of one, a word its flags from bit 0, both span calls their
-- piece, the repeating one each flag k times in a row, gathers the flag at each index, the optional one 0 at or past the span's length

abbrev pub added : Append → List Bool
added (push_flag x) = x ∷ []
added (extend_constant n x) = replicate n x
added (push_word w n) = map (bit_at w) (up_from 0 n)
added (extend_slice bytes start n) = span_flags bytes start n
added (extend_bitmap m bytes offset n) = piece offset n (flags_in m bytes)
added (extend_repeated bytes start n k) = flat_map (λ (x : Bool). replicate k x) (span_flags bytes start n)
added (extend_gather bytes start n idxs) = map (λ (i : ℕ). flag_at bytes (start + i)) idxs
added (extend_opt_gather bytes start n idxs) = map (λ (i : ℕ). cond (ltb i n) (flag_at bytes (start + i)) false) idxs

-- ---- the operations, flag by flag

pub data Pair : Type 0 where
  and and_not or or_not xor : Pair

-- `and_not` and `or_not` first invert the flag of the second mask
abbrev pub pair_flag : Pair → Bool → Bool → Bool
pair_flag and x y = x && y
pair_flag and_not x y = x && not y
pair_flag or x y = x || y
pair_flag or_not x y = x || not y
pair_flag xor x y = cond x (not y) y

abbrev pub flag_by_flag : Pair → List Bool → List Bool → List Bool
flag_by_flag op l m = zip_with (pair_flag op) l m

abbrev pub inverted : List Bool → List Bool
inverted l = map not l

-- `select` takes the flag of the second list if that of the first is set, else that of the third
abbrev pub selected : List Bool → List Bool → List Bool → List Bool
selected s t f = zip_with (λ (x : Bool) (p : Bool × Bool). cond x p.0 p.1) s (zip t f)

-- `select_constant` takes the flag of the second list if that of the first is set, else the constant c
abbrev pub selected_or : Bool → List Bool → List Bool → List Bool
selected_or c s t = zip_with (λ (x y : Bool). cond x y c) s t

-- ---- a list of flags as a grid, row after row

-- row r: as many flags as there are columns, after those of the rows before it
abbrev pub row_of : ℕ → ℕ → List Bool → List Bool
row_of columns r l = piece (r * columns) columns l

-- n flags: the first one, and then every step-th
abbrev pub every_nth : ℕ → ℕ → List Bool → List Bool
every_nth step zero l = []
every_nth step (suc n) l = take 1 l ++ every_nth step n (drop step l)

-- column c: from flag c on every columns-th, one for each row
abbrev pub column_of : ℕ → ℕ → ℕ → List Bool → List Bool
column_of rows columns c l = every_nth columns rows (drop c l)

-- rows and columns exchanged: the columns, one after another
abbrev pub exchanged : ℕ → ℕ → List Bool → List Bool
exchanged rows columns l = flat_map (λ (c : ℕ). column_of rows columns c l) (up_from 0 columns)

-- ---- a list of flags as runs, each with its end and its flag

-- whether an end is above position p, which one below 0 never is
abbrev pub above : ℕ → ℤ → Bool
above p (pos e) = ltb p e
above p (negsuc e) = false

-- the value of the first run whose end is above p
abbrev pub value_at : List ℤ → List Bool → ℕ → Bool
value_at [] values p = false
value_at (e ∷ ends) [] p = false
value_at (e ∷ ends) (x ∷ values) p = cond (above p e) x (value_at ends values p)

-- the flags of positions 0, 1 and so on: n of them
abbrev pub read_runs : List ℤ → ℕ → List Bool → List Bool
read_runs ends n values = map (value_at ends values) (up_from 0 n)

-- each flag that differs from the one before it; x comes before the first
abbrev pub changes_after : Bool → List Bool → List Bool
changes_after x [] = []
changes_after x (y ∷ l) = cond (pair_flag xor x y) (y ∷ changes_after y l) (changes_after y l)

-- the values of a list's runs: the first flag, and each that differs from the one before it
abbrev pub run_values : List Bool → List Bool
run_values [] = []
run_values (x ∷ l) = x ∷ changes_after x l

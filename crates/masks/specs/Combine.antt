-- The combinations of masks: their flags, flag by flag, and the zero count of the result, known if the counts show that it is constant.
use Rattle.std.specs.Prelude.{ℕ, max, Bool, true, false, not, cond, ◌&&◌, ◌||◌, eqb, Option, Some, None}
use mathlib.Core.List.{List, [], ◌∷◌, ◌++◌, map, zip_with}
use Rattle.words.specs.Ops.{op_of, zip3}
use Rattle.words.specs.declared.ops.Op.{Op}
pub use Rattle.words.specs.declared.ops.Op.TheVariants.{And, AndNot, Or, OrNot, Xor, Not, Select}
use Rattle.masks.specs.Checks.{Check, check, output_checks}
use Rattle.masks.specs.Mask.{mask_under, mask_flags, mask_checks, zero_count, uncounted}
use Rattle.masks.specs.declared.bitmap.Bitmap.{Bitmap}

-- ---- shortcuts: what the zero counts l and r of two masks of n flags imply about the result

-- constant by count: whether n flags with this number of zeros are all ones, all zeros
abbrev pub full : ℕ → ℕ → Bool
full n zeros = eqb zeros 0

abbrev pub clear : ℕ → ℕ → Bool
clear n zeros = eqb zeros n

-- `and` is all zero if either count equals the length; `or` is all one if either count is 0; `xor` is constant if both masks
-- are constant by count. The other combinations have no shortcut.
unfoldable pub shortcut : Op → ℕ → ℕ → ℕ → Option Bool
shortcut And n l r = cond (clear n l || clear n r) (Some false) None
shortcut Or n l r = cond (full n l || full n r) (Some true) None
shortcut Xor n l r =
    cond ((clear n l && clear n r) || (full n l && full n r)) (Some false)
    (cond ((full n l && clear n r) || (clear n l && full n r)) (Some true) None)
shortcut AndNot n l r = None
shortcut OrNot n l r = None
shortcut Not n l r = None
shortcut Select n l r = None

-- the count of a result of n flags: n if a shortcut makes it all zeros, 0 for no flags, else unknown
abbrev pub result_count : Option Bool → ℕ → Option ℕ
result_count (Some false) n = Some n
result_count (Some true) n = uncounted n
result_count None n = uncounted n

-- the largest serial of some masks, read or not
unfoldable pub largest_serial : List Bitmap → ℕ
largest_serial [] = 0
largest_serial (m ∷ ms) = max m.serial (largest_serial ms)

-- the record of a result of n flags, made only here: it takes the largest serial of the masks combined
abbrev pub result_mask : List Bitmap → ℕ → Option ℕ → Bitmap
result_mask masks n u = mask_under (largest_serial masks) 0 n u

-- ---- two masks

unfoldable pub pair_checks : Bitmap → List ℕ → Bitmap → List ℕ → ℕ → List Check
pair_checks a a_bytes b b_bytes size =
    mask_checks a a_bytes ++ (mask_checks b b_bytes ++ (check 5 (eqb a.length b.length) ∷ output_checks a.length size))

abbrev pub pair_shortcut : Op → Bitmap → List ℕ → Bitmap → List ℕ → Option Bool
pair_shortcut op a a_bytes b b_bytes = shortcut op a.length (zero_count a a_bytes) (zero_count b b_bytes)

-- the flags of two masks combined flag by flag: an operation on two flags does not read the third
abbrev pub pair_each : Op → Bitmap → List ℕ → Bitmap → List ℕ → List Bool
pair_each op a a_bytes b b_bytes = zip3 (op_of op) (mask_flags a a_bytes) (mask_flags b b_bytes) (mask_flags b b_bytes)

unfoldable pub pair_flags : Op → Bitmap → List ℕ → Bitmap → List ℕ → List Bool
pair_flags op a a_bytes b b_bytes = pair_each op a a_bytes b b_bytes

-- the record of the result of two masks
unfoldable pub pair_mask : Op → Bitmap → List ℕ → Bitmap → List ℕ → Bitmap
pair_mask op a a_bytes b b_bytes = result_mask (a ∷ b ∷ []) a.length (result_count (pair_shortcut op a a_bytes b b_bytes) a.length)

-- ---- combinations with no shortcut, by their checks, their masks, how many flags these have, and the flags of the result

-- `not`, which inverts each flag: its checks and its flags
unfoldable pub not_checks : Bitmap → List ℕ → ℕ → List Check
not_checks m bytes size = mask_checks m bytes ++ output_checks m.length size

abbrev pub not_flags : Bitmap → List ℕ → List Bool
not_flags m bytes = map not (mask_flags m bytes)

-- `select`, which takes the second mask's flag where the first's is 1, else the third's: as for `not`
unfoldable pub select_checks : Bitmap → List ℕ → Bitmap → List ℕ → Bitmap → List ℕ → ℕ → List Check
select_checks s s_bytes t t_bytes f f_bytes size =
    mask_checks s s_bytes
    ++ (mask_checks t t_bytes
    ++ (mask_checks f f_bytes
    ++ (check 5 (eqb s.length t.length) ∷ check 5 (eqb s.length f.length) ∷ output_checks s.length size)))

abbrev pub select_flags : Bitmap → List ℕ → Bitmap → List ℕ → Bitmap → List ℕ → List Bool
select_flags s s_bytes t t_bytes f f_bytes = zip3 cond (mask_flags s s_bytes) (mask_flags t t_bytes) (mask_flags f f_bytes)

-- `select_constant`, which takes the second mask's flag where the first's is 1, else the constant; its checks are those of a pair
abbrev pub select_constant_flags : Bitmap → List ℕ → Bitmap → List ℕ → Bool → List Bool
select_constant_flags s s_bytes t t_bytes x = zip_with (λ p q. cond p q x) (mask_flags s s_bytes) (mask_flags t t_bytes)

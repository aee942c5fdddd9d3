-- What the private functions of capi promise. No contract of an export cites it, so it need not be believed.
use Rattle.std.specs.Prelude.{ℕ, Bool, false, ◌&&◌, ◌||◌, eqb, leb}
use Rattle.words.specs.Short.{lies_near}
use Rattle.words.specs.declared.ops.Op.{Op}
use Rattle.words.specs.declared.ops.Op.TheVariants.{And, AndNot, Or, OrNot, Xor, Not, Select}
use Rattle.masks.specs.Checks.{limit}
use Rattle.capi.specs.declared.records.Mask.{Mask}

-- ---- `short`: combinations of masks that lie in eight bytes

-- whether a mask of unknown count has n flags, within the limit, which lie in eight of `size` bytes
unfoldable pub near_mask : Mask → ℕ → ℕ → Bool
near_mask m n size = eqb m.known 0 && (eqb m.length n && (leb m.start limit && lies_near size m.start n))

-- whether n flags are at least one, and an output of `room` bytes has eight
unfoldable pub near_output : ℕ → ℕ → Bool
near_output n room = leb 1 n && leb 8 room

-- whether a combination of two masks of n flags, with l and r zeros, is all zero by these counts
unfoldable pub all_clear : Op → ℕ → ℕ → ℕ → Bool
all_clear And n l r = eqb l n || eqb r n
all_clear Xor n l r = (eqb l n && eqb r n) || (eqb l 0 && eqb r 0)
all_clear Or n l r = false
all_clear AndNot n l r = false
all_clear OrNot n l r = false
all_clear Not n l r = false
all_clear Select n l r = false

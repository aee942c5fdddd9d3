-- Whether truck t may be reassigned: with no permission mask, no truck may.
use Rattle.std.specs.Prelude.{ℕ, Bool, false, List, Option, Some, None}
use Rattle.masks.specs.declared.bitmap.Bitmap.{Bitmap}
use Rattle.masks.specs.AtIndex.{and_not_flag}

-- Flag t of the permission mask and not flag t of the revocation mask; an absent revocation mask takes nothing away. An operator
-- with no permission mask may reassign nothing, whether or not revocations exist.
unfoldable pub reassignable : Option Bitmap → List ℕ → Option Bitmap → List ℕ → ℕ → Bool
reassignable (Some p) p_bytes revocation r_bytes t = and_not_flag (Some p) p_bytes revocation r_bytes t
reassignable None p_bytes revocation r_bytes t = false

-- For callers in other crates: what the answer of `may_reassign` is, mask by mask, and what follows from a yes. Why a call was accepted:
-- `index_in_first` and `index_in_second` of `masks.proofs.calling.Accepted`.
use Rattle.std.specs.Prelude.{Option, Some, None}
use Rattle.std.proofs.Math.Bool.{and-true}
use mathlib.Core.Path.{◌≡◌, refl}
use mathlib.Core.Bool.{Bool, true, false, not, ◌&&◌}
use mathlib.Core.List.{List}
use Prim.Native.Nat.{ℕ}
use native.Mathlib.Omega.{arith}
use lib.ListN.{get_or}
use Rattle.masks.specs.AtIndex.{and_not_flag, flag_or}
use Rattle.masks.specs.Mask.{mask_flags}
use Rattle.masks.specs.declared.bitmap.Bitmap.{Bitmap}
use Rattle.dispatch.specs.Reassign.{reassignable}

-- with no permission mask the answer is no
pub never : (p_bytes : List ℕ) (revocation : Option Bitmap) (r_bytes : List ℕ) (t : ℕ)
    → reassignable None p_bytes revocation r_bytes t ≡ false
unfolding reassignable
never p_bytes revocation r_bytes t = refl

-- with both masks it is the truck's flag in the first and not in the second
pub both : (p : Bitmap) (p_bytes : List ℕ) (r : Bitmap) (r_bytes : List ℕ) (t : ℕ)
    → reassignable (Some p) p_bytes (Some r) r_bytes t
    ≡ (get_or (mask_flags p p_bytes) t false && not (get_or (mask_flags r r_bytes) t false))
unfolding reassignable and_not_flag flag_or
both p p_bytes r r_bytes t = refl

-- with only a permission mask it is the truck's flag
pub unrevoked : (p : Bitmap) (p_bytes r_bytes : List ℕ) (t : ℕ)
    → reassignable (Some p) p_bytes None r_bytes t ≡ get_or (mask_flags p p_bytes) t false
unfolding reassignable and_not_flag flag_or
unrevoked p p_bytes r_bytes t = and-true (get_or (mask_flags p p_bytes) t false)

-- a yes is a permission mask with the truck's flag set, and no revocation mask with it set
pub record Free (permission : Option Bitmap) (p_bytes : List ℕ) (revocation : Option Bitmap) (r_bytes : List ℕ) (t : ℕ) : Type 0 where
  pub permitted : flag_or false permission p_bytes t ≡ true
  pub kept : flag_or false revocation r_bytes t ≡ false

pub yes : (permission : Option Bitmap) (p_bytes : List ℕ) (revocation : Option Bitmap) (r_bytes : List ℕ) (t : ℕ)
    → reassignable permission p_bytes revocation r_bytes t ≡ true → Free permission p_bytes revocation r_bytes t
unfolding reassignable and_not_flag flag_or
yes None p_bytes revocation r_bytes t e = absurd (let z : ◌≡◌ {A = ℕ} 0 1 = cc e in omega arith)
yes (Some p) p_bytes revocation r_bytes t e = go (get_or (mask_flags p p_bytes) t false) (flag_or false revocation r_bytes t) refl refl e
  where
    go : (a b : Bool) → get_or (mask_flags p p_bytes) t false ≡ a → flag_or false revocation r_bytes t ≡ b → (a && not b) ≡ true
        → Free (Some p) p_bytes revocation r_bytes t
    go true false x y f = record { permitted = x; kept = y }
    go true true x y f = absurd (let z : ◌≡◌ {A = ℕ} 0 1 = cc f in omega arith)
    go false b x y f = absurd (let z : ◌≡◌ {A = ℕ} 0 1 = cc f in omega arith)

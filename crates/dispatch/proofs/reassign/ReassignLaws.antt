-- With a permission mask the answer of `may_reassign` is that of `and_not_at`; with none it is no.
use Rattle.std.specs.Prelude.{Option, Some, None}
use Rattle.std.specs.Option.{is_some}
use Rattle.std.proofs.lemmas.Bool.{true≢false}
use mathlib.Core.Path.{◌≡◌, refl, sym}
use mathlib.Core.Bool.{Bool, true, false}
use mathlib.Core.List.{List}
use Prim.Native.Nat.{ℕ}
use Rattle.masks.specs.AtIndex.{and_not_flag}
use Rattle.masks.specs.equations.AtIndex.{and_not_at_of}
use Rattle.masks.specs.declared.bitmap.Bitmap.{Bitmap}
use Rattle.dispatch.specs.Reassign.{reassignable}
use Rattle.dispatch.specs.equations.Reassign.{may_reassign}

-- with a permission mask: `and_not` at the truck's number
pub is-and-not-at : (p : Bitmap) (p_bytes : List ℕ) (R : Option Bitmap) (r_bytes : List ℕ) (t : ℕ)
    → and_not_at_of (Some p) p_bytes R r_bytes t ≡ may_reassign (Some p) p_bytes R r_bytes t
unfolding and_not_at_of may_reassign reassignable
is-and-not-at p p_bytes R r_bytes t = refl

-- with a permission mask the answer is the flag of the two masks
pub by-flag : (P : Option Bitmap) (p_bytes : List ℕ) (R : Option Bitmap) (r_bytes : List ℕ) (t : ℕ) (x : Bool) → is_some P ≡ true
    → x ≡ and_not_flag P p_bytes R r_bytes t → x ≡ reassignable P p_bytes R r_bytes t
unfolding reassignable
by-flag (Some p) p_bytes R r_bytes t x here e = e
by-flag None p_bytes R r_bytes t x here e = absurd (true≢false (sym here))

-- with none it is no
pub by-none : (P : Option Bitmap) (p_bytes : List ℕ) (R : Option Bitmap) (r_bytes : List ℕ) (t : ℕ) (x : Bool) → is_some P ≡ false
    → x ≡ false → x ≡ reassignable P p_bytes R r_bytes t
unfolding reassignable
by-none (Some p) p_bytes R r_bytes t x gone e = absurd (true≢false gone)
by-none None p_bytes R r_bytes t x gone e = e

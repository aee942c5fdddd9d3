-- The theorem on counts for `may_reassign` and `offer`, proved: their checks are those with the mask's count unknown, and the flags that
-- they use read no count.
use Rattle.std.specs.Prelude.{Option, Some, None}
use Prim.Native.Nat.{ℕ}
use mathlib.Core.Path.{◌≡◌, refl, ap}
use mathlib.Core.Bool.{Bool}
use mathlib.Core.List.{List}
use Rattle.masks.specs.AtIndex.{and_not_flag, flag_or}
use Rattle.masks.specs.Checks.{first_failed}
use Rattle.masks.specs.Mask.{mask_checks}
use Rattle.masks.specs.declared.bitmap.Bitmap.{Bitmap}
use Rattle.masks.proofs.statements.CountsUnseen.{UnseenCall, forgot}
use Rattle.masks.proofs.theorems.CountsUnseenLaws.{at-checks-left, at-checks-right, free-left, free-right, next-checks-left}
use Rattle.masks.proofs.theorems.CountsUnseenLaws.{next-checks-right}
use Rattle.dispatch.specs.Reassign.{reassignable}
use Rattle.dispatch.specs.Offer.{offer_checks, offered_of, offering}
use Rattle.dispatch.proofs.statements.CountsUnseen.{CountsUnseen}

-- the truck's flag reads no count of the revocation mask, whether there is a permission mask or not
flag_unseen : (p : Option Bitmap) (p_bytes : List ℕ) (r : Bitmap) (r_bytes : List ℕ) (t : ℕ)
    → reassignable p p_bytes (Some r) r_bytes t ≡ reassignable p p_bytes (Some (forgot r)) r_bytes t
unfolding reassignable and_not_flag flag_or
flag_unseen (Some p) p_bytes r r_bytes t = refl
flag_unseen None p_bytes r r_bytes t = refl

-- an offer reads the masks by their checks and by the flags of `and_not`
offer_right : (r : Bitmap) (r_bytes : List ℕ) → first_failed (mask_checks r r_bytes) ≡ 0
    → (p : Option Bitmap) (p_bytes : List ℕ) (cursor : ℕ)
    → UnseenCall r (λ x. offer_checks p p_bytes (Some x) r_bytes cursor) (λ x. offered_of p p_bytes (Some x) r_bytes cursor)
unfolding offer_checks offered_of
offer_right r r_bytes e (Some p) p_bytes cursor =
    record {
      checked = next-checks-right r r_bytes e p p_bytes cursor;
      given = ap (λ (l : List Bool). offering p.length l cursor) (free-right r r_bytes e p p_bytes);
    }
offer_right r r_bytes e None p_bytes cursor = record { checked = next-checks-left r r_bytes e None p_bytes 0; given = refl }

pub counts_unseen : CountsUnseen
unfolding reassignable and_not_flag flag_or offer_checks offered_of
counts_unseen =
    record {
      permission = λ p p_bytes e r r_bytes t. record { checked = at-checks-left p p_bytes e r r_bytes t; given = refl };
      revocation = λ r r_bytes e p p_bytes t.
          record { checked = at-checks-right r r_bytes e p p_bytes t; given = flag_unseen p p_bytes r r_bytes t };
      offer-permission = λ p p_bytes e r r_bytes cursor.
          record {
            checked = next-checks-left p p_bytes e r r_bytes cursor;
            given = ap (λ (l : List Bool). offering p.length l cursor) (free-left p p_bytes e r r_bytes);
          };
      offer-revocation = offer_right;
    }

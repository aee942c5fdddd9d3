-- The meaning of `offer` for trucks, in plain words: which one is offered, when none is, and which are offered in as many calls as there
-- are trucks that may be reassigned.
use Rattle.std.specs.Prelude.{ℕ, zero, suc, ◌+◌, ◌≤◌, ◌<◌, ◌≡◌, Bool, true, false, cond, ◌&&◌, List, [], ◌∷◌, ◌++◌, eqb, ltb, Option, Some}
use Rattle.std.specs.Prelude.{None}
use Rattle.masks.specs.equations.Answer.{Answer, given, refused}
use Rattle.masks.specs.Checks.{first_failed}
use Rattle.masks.specs.declared.bitmap.Bitmap.{Bitmap}
use Rattle.dispatch.specs.Reassign.{reassignable}
use Rattle.dispatch.specs.declared.offer.Offering.{Offering}
use Rattle.dispatch.specs.Offer.{offer_checks, offered_of}
use Rattle.dispatch.specs.equations.Offer.{offer_of}

-- ---- one call, of n trucks; `may` is whether each may be reassigned

-- truck t may be reassigned, and none between the cursor and t; if t is before the cursor, none at or after the cursor may be, and t is the
-- first of all
pub record First (may : ℕ → Bool) (n cursor t : ℕ) : Type 0 where
  pub below : t < n
  pub allowed : may t ≡ true
  pub ahead : (j : ℕ) → cursor ≤ j → j < t → may j ≡ false
  pub after : t < cursor → (j : ℕ) → cursor ≤ j → j < n → may j ≡ false
  pub least : t < cursor → (j : ℕ) → j < t → may j ≡ false

pub record Right (may : ℕ → Bool) (n cursor : ℕ) (o : Offering) : Type 0 where
  -- no truck is offered if and only if none may be reassigned
  pub none_then : o.truck ≡ None → (j : ℕ) → j < n → may j ≡ false
  pub then-none : ((j : ℕ) → j < n → may j ≡ false) → o.truck ≡ None
  -- and the cursor is then unchanged
  pub stays : o.truck ≡ None → o.cursor ≡ cursor
  -- else the first, and the cursor one past it
  pub first : (t : ℕ) → o.truck ≡ Some t → First may n cursor t
  pub moves : (t : ℕ) → o.truck ≡ Some t → o.cursor ≡ t + 1

-- ---- calls in a row, each with the cursor of the one before

abbrev pub truck_in : Option ℕ → List ℕ
truck_in (Some t) = t ∷ []
truck_in None = []

-- the truck that an answer offers, and its cursor
abbrev pub trucks_of : Answer ℕ Offering → List ℕ
trucks_of (given o) = truck_in o.truck
trucks_of (refused k c) = []

abbrev pub cursor_of : Answer ℕ Offering → ℕ
cursor_of (given o) = o.cursor
cursor_of (refused k c) = c

-- the trucks that k calls offer
unfoldable pub offers : (ℕ → Answer ℕ Offering) → ℕ → ℕ → List ℕ
offers call zero cursor = []
offers call (suc k) cursor = trucks_of (call cursor) ++ offers call k (cursor_of (call cursor))

-- how many of the trucks below n may be reassigned
unfoldable pub many_below : (ℕ → Bool) → ℕ → ℕ
many_below may zero = 0
many_below may (suc n) = cond (may n) (suc (many_below may n)) (many_below may n)

-- how many times truck t is in a list
unfoldable pub times : ℕ → List ℕ → ℕ
times t [] = 0
times t (u ∷ us) = cond (eqb u t) (suc (times t us)) (times t us)

-- ---- the statements, of a permission mask and a cursor that are accepted

module _ (p : Bitmap) (p_bytes : List ℕ) (revocation : Option Bitmap) (r_bytes : List ℕ) where
  abbrev pub may : ℕ → Bool
  may t = reassignable (Some p) p_bytes revocation r_bytes t

  abbrev pub Accepted : ℕ → Type 0
  Accepted cursor = first_failed (offer_checks (Some p) p_bytes revocation r_bytes cursor) ≡ 0

  abbrev pub OneCall : Type 0
  OneCall = (cursor : ℕ) → Accepted cursor → Right may p.length cursor (offered_of (Some p) p_bytes revocation r_bytes cursor)

  -- in as many calls as there are trucks that may be reassigned each of them is offered once, and no other
  abbrev pub ARound : Type 0
  ARound = (cursor : ℕ) → Accepted cursor → (t : ℕ)
      → times t (offers (offer_of (Some p) p_bytes revocation r_bytes) (many_below may p.length) cursor)
      ≡ cond (ltb t p.length && may t) 1 0

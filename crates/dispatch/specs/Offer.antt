-- Which truck is offered next: the first at or after a cursor that is permitted and not revoked, going round to truck 0 once; and how
-- many windows of 32 flags are read for it, in the words of the reference.
use Rattle.std.specs.Prelude.{ℕ, zero, suc, ◌+◌, ◌/◌, Bool, cond, ◌&&◌, List, [], ◌∷◌, ◌++◌, leb, ltb, length, Option, Some, None, Result}
use Rattle.std.specs.Prelude.{Ok, Err}
use Rattle.masks.specs.declared.bitmap.Bitmap.{Bitmap}
use Rattle.masks.specs.Checks.{Check}
use Rattle.masks.specs.NextAndNot.{free_flags, next_checks}
use Rattle.masks.specs.Search.{nth_from}
use Rattle.masks.specs.Refusal.{number}
use Rattle.dispatch.specs.declared.offer.RefusedOffer.{RefusedOffer}
use Rattle.dispatch.specs.declared.offer.Offering.{Offering}

-- the number with which a call refuses, 0 if it does not
abbrev pub offer_failure : Result Offering RefusedOffer → ℕ
offer_failure (Ok o) = 0
offer_failure (Err e) = number e.refusal

-- ---- the truck and the cursor

-- the first if it is a truck, else the second
abbrev pub or_else : Option ℕ → Option ℕ → Option ℕ
or_else (Some t) other = Some t
or_else None other = other

-- in l, the flags of trucks that are permitted and not revoked: the first truck at or after the cursor, else the first of all
unfoldable pub next_truck : List Bool → ℕ → Option ℕ
next_truck l cursor = or_else (nth_from l 0 cursor) (nth_from l 0 0)

-- the cursor: one past the truck, or unchanged if none is offered
abbrev pub moved_to : Option ℕ → ℕ → ℕ
moved_to (Some t) cursor = t + 1
moved_to None cursor = cursor

-- ---- the windows

-- at most `most` windows, by the flags at which they begin: `from` and every 32 flags after it, below `end`
unfoldable pub beginning : ℕ → ℕ → ℕ → List ℕ
beginning zero from end = []
beginning (suc most) from end = cond (ltb from end) (from ∷ beginning most (from + 32) end) []

-- for n flags and the cursor, the windows: at the cursor and every 32 flags after it below n, then at 0 and every 32 below the cursor
unfoldable pub in_order : ℕ → ℕ → List ℕ
in_order n cursor = beginning n cursor n ++ beginning cursor 0 cursor

-- whether truck t is in the window that begins at w
abbrev pub holds : ℕ → ℕ → Bool
holds t w = leb w t && ltb t (w + 32)

-- for truck t, how many windows there are up to and with the one that holds it
unfoldable pub up_to : ℕ → List ℕ → ℕ
up_to t [] = 0
up_to t (w ∷ ws) = cond (holds t w) 1 (suc (up_to t ws))

-- of n flags, starting at the cursor, how many windows are read: up to and with the one that holds the truck, or all if none is offered
unfoldable pub windows_read : ℕ → ℕ → Option ℕ → ℕ
windows_read n cursor (Some t) = up_to t (in_order n cursor)
windows_read n cursor None = length (in_order n cursor)

-- ---- the call

-- of n trucks, with l as the flags of those that are permitted and not revoked, the offer at the cursor
unfoldable pub offering : ℕ → List Bool → ℕ → Offering
offering n l cursor = record {
  truck = next_truck l cursor;
  cursor = moved_to (next_truck l cursor) cursor;
  windows = windows_read n cursor (next_truck l cursor);
}

-- With a permission mask the checks are those of `next_and_not`: 1 to 3 of each mask that is present, 5 if both are, and 6: the cursor is
-- at most the length. Without one they are those of a search over a revocation mask that is present, starting at 0: 1 to 3 of that mask,
-- and 6, which no mask fails there.
unfoldable pub offer_checks : Option Bitmap → List ℕ → Option Bitmap → List ℕ → ℕ → List Check
offer_checks (Some p) p_bytes revocation r_bytes cursor = next_checks p p_bytes revocation r_bytes cursor
offer_checks None p_bytes (Some r) r_bytes cursor = next_checks r r_bytes None p_bytes 0
offer_checks None p_bytes None r_bytes cursor = []

-- with no permission mask no truck is offered, and no window read
unfoldable pub offered_of : Option Bitmap → List ℕ → Option Bitmap → List ℕ → ℕ → Offering
offered_of (Some p) p_bytes revocation r_bytes cursor = offering p.length (free_flags p p_bytes revocation r_bytes) cursor
offered_of None p_bytes revocation r_bytes cursor = record { truck = None; cursor = cursor; windows = 0 }

-- ---- the bound on the windows

-- the number of windows read, of a result; 0 of a refusal
abbrev pub windows_in : Result Offering RefusedOffer → ℕ
windows_in (Ok o) = o.windows
windows_in (Err e) = 0

-- ceil(length / 32) + 1 of the permission mask; without one none is read
abbrev pub most_windows : Option Bitmap → ℕ
most_windows (Some p) = (p.length + 31) / 32 + 1
most_windows None = 0

-- What follows if the checks of a cursor pass, and cursors that pass them.
use mathlib.Core.Path.{◌≡◌}
use mathlib.Core.List.{List, [], ◌∷◌}
use Prim.Native.Nat.{ℕ, ◌+◌, ◌*◌, ◌≤◌}
use lib.Dec.{leb}
use lib.ListN.{length}
use borrow.Author.Tests.{leb-true}
use Rattle.masks.specs.Checks.{check, first_failed, limit, span_checks}
use Rattle.masks.specs.Cursor.{cursor_checks}
use Rattle.masks.specs.Mask.{count_valid, mask_checks}
use Rattle.masks.specs.declared.bitmap.Bitmap.{Bitmap}
use Rattle.masks.proofs.checks.CheckLaws.{SpanAllowed, span-allowed, check-allowed, both_left, both_right}
use Rattle.masks.proofs.cursor.ListingLaws.{place-accepted}

pub record CursorAllowed (start n place size : ℕ) : Type 0 where
  pub starts : start ≤ limit
  pub short : n ≤ limit
  pub inside : start + n ≤ 8 * size
  pub reached : place ≤ n

pub cursor-allowed : (start n place size : ℕ) → first_failed (cursor_checks start n place size) ≡ 0 → CursorAllowed start n place size
unfolding cursor_checks
cursor-allowed start n place size e =
    let span : SpanAllowed start n size = span-allowed start n size (both_left (span_checks start n size) (check 6 (leb place n) ∷ []) e) in
    record {
      starts = span.starts;
      short = span.short;
      inside = span.inside;
      reached = leb-true place n (check-allowed 5 (leb place n) (both_right (span_checks start n size) (check 6 (leb place n) ∷ []) e));
    }

-- a cursor over a mask that passes its checks passes its own at each place up to the length
pub over-mask : (m : Bitmap) (bytes : List ℕ) (place : ℕ) → first_failed (mask_checks m bytes) ≡ 0 → place ≤ m.length
    → first_failed (cursor_checks m.start m.length place (length bytes)) ≡ 0
unfolding mask_checks cursor_checks
over-mask m bytes place e h =
    place-accepted (span_checks m.start m.length (length bytes)) place m.length
    (both_left (span_checks m.start m.length (length bytes)) (check 3 (count_valid m bytes) ∷ []) e) h

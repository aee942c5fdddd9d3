-- Trucks and cursors just above the limit, at 2^32 and at the largest number of 64 bits: 6 if there is a mask that they are checked
-- against, else an answer. And cursors at the length, and windows of other lengths than those of `WrongOffers`.
--
-- A row has the numbers of a call, through the definition that its contract cites, and those of the reference's words there.
-- `proofs/computed/LargeRows.antt` proves that the columns are equal.
use Rattle.std.specs.Prelude.{ℕ, Bool, true, false, List, [], ◌∷◌, replicate, Option, Some, None, Err}
use Rattle.masks.specs.declared.bitmap.Bitmap.{Bitmap}
use Rattle.masks.specs.declared.refusal.Refusal.TheVariants.{OutsideMask}
use Rattle.masks.specs.equations.Answer.{Answer, given, refused}
use Rattle.masks.specs.Mask.{mask_of}
use Rattle.masks.proofs.tables.EdgeRows.{SplitRow}
use Rattle.masks.proofs.tables.LargeRows.{Hold, all_give, eight, ones, largest, wide}
use Rattle.masks.proofs.tables.StartRows.{numbers}
use Rattle.masks.proofs.tables.Witnesses.{number_of}
use Rattle.dispatch.specs.declared.offer.Offering.{Offering}
use Rattle.dispatch.specs.equations.Reassign.{may_reassign}
use Rattle.dispatch.specs.Offer.{most_windows, windows_in}
use Rattle.dispatch.specs.equations.Offer.{offer_of}

-- a refused truck as 6, an accepted one as 0 and the answer
abbrev pub reassigned : Answer (Unit {0}) Bool → List ℕ
reassigned (given true) = 0 ∷ 1 ∷ []
reassigned (given false) = 0 ∷ 0 ∷ []
reassigned (refused k s) = k ∷ []

-- the cursor and the windows, and the truck if one is offered; of a refusal its number and the caller's cursor
abbrev pub offering_numbers : Offering → Option ℕ → List ℕ
offering_numbers o (Some t) = o.cursor ∷ o.windows ∷ t ∷ []
offering_numbers o None = o.cursor ∷ o.windows ∷ []

abbrev pub offered_numbers : Answer ℕ Offering → List ℕ
offered_numbers (given o) = 0 ∷ offering_numbers o o.truck
offered_numbers (refused k cursor) = k ∷ cursor ∷ []

-- the mask of n ones, and of none of n
abbrev pub many : List ℕ
many = replicate 17 0xFF

abbrev pub of_ones : ℕ → Option Bitmap
of_ones n = Some (mask_of 1 n None)

abbrev pub of_zeros : List ℕ
of_zeros = replicate 17 0

unfoldable pub truck_rows : List SplitRow
truck_rows =
    all_give 6 (λ t. number_of (may_reassign (Some eight) ones None [] t))
    ∷ all_give 6 (λ t. number_of (may_reassign None [] (Some eight) ones t))
    ∷ all_give 6 (λ t. number_of (may_reassign (Some eight) ones (Some eight) ones t))
    -- the last truck, and one past it, though its bit is set
    ∷ numbers (reassigned (may_reassign (Some (mask_of 0 7 None)) ones None [] 6)) (0 ∷ 1 ∷ [])
    ∷ numbers (reassigned (may_reassign (Some (mask_of 0 7 None)) ones None [] 7)) (6 ∷ [])
    -- with no mask the answer is no, whatever the truck
    ∷ numbers (reassigned (may_reassign None [] None [] 4194305)) (0 ∷ 0 ∷ [])
    ∷ numbers (reassigned (may_reassign None [] None [] wide)) (0 ∷ 0 ∷ [])
    ∷ numbers (reassigned (may_reassign None [] None [] largest)) (0 ∷ 0 ∷ [])
    -- a truck in the last word of 130, at a start of 1
    ∷ numbers (reassigned (may_reassign (of_ones 130) many (Some (mask_of 1 130 None)) of_zeros 129)) (0 ∷ 1 ∷ [])
    ∷ numbers (reassigned (may_reassign (of_ones 130) many (of_ones 130) many 129)) (0 ∷ 0 ∷ [])
    ∷ []

unfoldable pub cursor_rows : List SplitRow
cursor_rows =
    all_give 6 (λ c. number_of (offer_of (Some eight) ones None [] c))
    ∷ all_give 6 (λ c. number_of (offer_of (Some eight) ones (Some eight) ones c))
    -- a refusal has the caller's cursor
    ∷ numbers (offered_numbers (offer_of (Some eight) ones None [] largest)) (6 ∷ largest ∷ [])
    -- with no permission mask no cursor is checked, and none moved
    ∷ numbers (offered_numbers (offer_of None [] None [] 4194305)) (0 ∷ 4194305 ∷ 0 ∷ [])
    ∷ numbers (offered_numbers (offer_of None [] None [] wide)) (0 ∷ wide ∷ 0 ∷ [])
    ∷ numbers (offered_numbers (offer_of None [] (Some eight) ones largest)) (0 ∷ largest ∷ 0 ∷ [])
    -- a cursor at the length goes round: one window, truck 0
    ∷ numbers (offered_numbers (offer_of (Some eight) ones None [] 8)) (0 ∷ 1 ∷ 1 ∷ 0 ∷ [])
    ∷ numbers (offered_numbers (offer_of (Some eight) ones (Some eight) ones 8)) (0 ∷ 8 ∷ 1 ∷ [])
    -- no trucks at all
    ∷ numbers (offered_numbers (offer_of (Some (mask_of 0 0 None)) ones None [] 0)) (0 ∷ 0 ∷ 0 ∷ [])
    -- 130 trucks: the last one, at the cursor; none, with all five windows, and with six at a cursor that cuts one
    ∷ numbers (offered_numbers (offer_of (of_ones 130) many None [] 129)) (0 ∷ 130 ∷ 1 ∷ 129 ∷ [])
    ∷ numbers (offered_numbers (offer_of (of_ones 130) of_zeros None [] 0)) (0 ∷ 0 ∷ 5 ∷ [])
    ∷ numbers (offered_numbers (offer_of (of_ones 130) of_zeros None [] 70)) (0 ∷ 70 ∷ 5 ∷ [])
    ∷ numbers (offered_numbers (offer_of (of_ones 130) of_zeros None [] 97)) (0 ∷ 97 ∷ 6 ∷ [])
    -- the bound on the windows, of 0, 1, 32, 33, 64 and 130 flags, and at the limit
    ∷ numbers
    (most_windows (of_ones 0) ∷ most_windows (of_ones 1) ∷ most_windows (of_ones 32) ∷ most_windows (of_ones 33)
    ∷ most_windows (of_ones 64) ∷ most_windows (of_ones 130) ∷ most_windows (of_ones 4194304) ∷ [])
    (1 ∷ 2 ∷ 2 ∷ 3 ∷ 3 ∷ 6 ∷ 131073 ∷ [])
    -- a refusal has read no window
    ∷ numbers (windows_in (Err (record { refusal = OutsideMask; cursor = 9 })) ∷ []) (0 ∷ [])
    ∷ []

pub record LargeHolds : Type 0 where
  pub trucks : Hold truck_rows
  pub cursors : Hold cursor_rows

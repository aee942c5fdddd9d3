-- The fault in each mask of `may_reassign` and `offer` in turn, also where the answer would not depend on its flags: rows as in
-- `FaultRows` of masks.
use Rattle.std.specs.Prelude.{List, [], ◌∷◌, Some, None}
use Rattle.masks.proofs.tables.EdgeRows.{SplitRow}
use Rattle.masks.proofs.tables.FaultRows.{faulty, clear, full, zeros, ones, short}
use Rattle.masks.proofs.tables.LargeRows.{Hold}
use Rattle.masks.proofs.tables.StartRows.{numbers}
use Rattle.masks.proofs.tables.Witnesses.{number_of, byte}
use Rattle.dispatch.specs.equations.Reassign.{may_reassign}
use Rattle.dispatch.specs.equations.Offer.{offer_of}

unfoldable pub fault_rows : List SplitRow
fault_rows =
    -- `may_reassign`: the permission mask, alone, with nothing revoked, and with all revoked
    faulty (λ p. number_of (may_reassign (Some p) byte None [] 0))
    ∷ faulty (λ p. number_of (may_reassign (Some p) byte (Some clear) zeros 0))
    ∷ faulty (λ p. number_of (may_reassign (Some p) byte (Some full) ones 0))
    -- the revocation mask, with all permitted, with nothing permitted, and with no permission mask
    ∷ faulty (λ r. number_of (may_reassign (Some full) ones (Some r) byte 0))
    ∷ faulty (λ r. number_of (may_reassign (Some clear) zeros (Some r) byte 0))
    ∷ faulty (λ r. number_of (may_reassign None [] (Some r) byte 0))
    -- `offer`, the same
    ∷ faulty (λ p. number_of (offer_of (Some p) byte None [] 0))
    ∷ faulty (λ p. number_of (offer_of (Some p) byte (Some clear) zeros 0))
    ∷ faulty (λ p. number_of (offer_of (Some p) byte (Some full) ones 0))
    ∷ faulty (λ r. number_of (offer_of (Some full) ones (Some r) byte 0))
    ∷ faulty (λ r. number_of (offer_of (Some clear) zeros (Some r) byte 0))
    ∷ faulty (λ r. number_of (offer_of None [] (Some r) byte 0))
    ∷ faulty (λ r. number_of (offer_of None [] (Some r) byte 9))
    -- unequal lengths: 5, whichever is longer; with no permission mask there is no length to compare
    ∷ numbers
    (number_of (may_reassign (Some clear) zeros (Some short) byte 0) ∷ number_of (may_reassign (Some short) byte (Some full) ones 0)
    ∷ number_of (offer_of (Some clear) zeros (Some short) byte 0) ∷ number_of (offer_of (Some short) byte (Some full) ones 0)
    ∷ number_of (may_reassign None [] (Some short) byte 0) ∷ number_of (offer_of None [] (Some short) byte 0) ∷ [])
    (5 ∷ 5 ∷ 5 ∷ 5 ∷ 0 ∷ 0 ∷ [])
    ∷ []

pub record FaultsHold : Type 0 where
  pub faults : Hold fault_rows

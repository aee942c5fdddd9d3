-- Wrong answers that the contract of `offer` rules out.
--
-- Rows as in `WrongAnswers` of words: the definition at one input, its value there, and two answers of a faulty call.
use Rattle.std.specs.Prelude.{ℕ, [], Some, None, Ok}
use Rattle.masks.specs.equations.Answer.{given, refused}
use Rattle.masks.proofs.tables.WrongMasks.{Tried}
use Rattle.masks.proofs.tables.WrongNext.{some40, some40_bytes, taken40, taken40_bytes}
use Rattle.dispatch.specs.declared.offer.Offering.{Offering}
use Rattle.dispatch.specs.Offer.{most_windows, windows_in}
use Rattle.dispatch.specs.equations.Offer.{offer_of}

abbrev pub truck_at : ℕ → ℕ → ℕ → Offering
truck_at t cursor k = record { truck = Some t; cursor = cursor; windows = k }

abbrev pub none_at : ℕ → ℕ → Offering
none_at cursor k = record { truck = None; cursor = cursor; windows = k }

-- of 40 trucks 3, 35 and 38 are permitted and 3 and 38 revoked
pub record WrongOffers : Type 0 where
  -- `offer` from cursor 36
  pub round : Tried (offer_of (Some some40) some40_bytes (Some taken40) taken40_bytes 36)
      (given (truck_at 35 36 3))
      -- a second round that stops at the cursor's window
      (given (none_at 36 2))
      -- the revocation ignored
      (given (truck_at 38 39 1))
  -- `offer` from cursor 3: truck 35 is the first of the second window
  pub edge : Tried (offer_of (Some some40) some40_bytes (Some taken40) taken40_bytes 3)
      (given (truck_at 35 36 2))
      -- a window of 33 flags
      (given (truck_at 35 36 1))
      -- a revoked truck at the cursor offered
      (given (truck_at 3 4 1))
  -- `offer` from cursor 4 with no revocation mask
  pub unrevoked : Tried (offer_of (Some some40) some40_bytes None [] 4)
      (given (truck_at 35 36 1))
      -- the search begun at truck 0, whatever the cursor
      (given (truck_at 3 4 1))
      -- an absent revocation taken for all ones
      (given (none_at 4 3))
  -- `offer` from cursor 0
  pub ahead : Tried (offer_of (Some some40) some40_bytes (Some taken40) taken40_bytes 0)
      (given (truck_at 35 36 2))
      -- the cursor left at the truck
      (given (truck_at 35 35 2))
      -- the window with only revoked trucks not counted
      (given (truck_at 35 36 1))
  -- `offer` from cursor 32 with every truck revoked
  pub nothing : Tried (offer_of (Some some40) some40_bytes (Some some40) some40_bytes 32)
      (given (none_at 32 2))
      -- one window too many at a cursor divisible by 32
      (given (none_at 32 3))
      -- the cursor moved though no truck is offered
      (given (none_at 0 2))
  -- `offer` from cursor 39 with every truck revoked: as many windows as 40 flags can take
  pub most-read : Tried (offer_of (Some some40) some40_bytes (Some some40) some40_bytes 39)
      (given (none_at 39 3))
      -- no second round
      (given (none_at 39 1))
      -- the window that the cursor cuts not read again
      (given (none_at 39 2))
  -- the bound on the windows, of 40 flags
  pub bound : Tried (most_windows (Some some40))
      3
      -- bounded by the windows of one round
      2
      -- bounded by the windows of two rounds
      4
  -- the bound on the windows, with no permission mask
  pub bound-absent : Tried (most_windows None)
      0
      -- a window allowed with no permission mask
      1
      -- two windows allowed with no permission mask
      2
  -- the number of windows read, of an answer
  pub said : Tried (windows_in (Ok (none_at 39 3)))
      3
      -- no window counted as read
      0
      -- the cursor as the number of windows
      39
  -- `offer` from cursor 41
  pub outside : Tried (offer_of (Some some40) some40_bytes None [] 41)
      (refused 6 41)
      -- the cursor taken for the length
      (given (truck_at 3 4 1))
      -- the cursor not returned
      (refused 6 0)
  -- `offer` from cursor 41 with no permission mask
  pub no-permission : Tried (offer_of None [] (Some taken40) taken40_bytes 41)
      (given (none_at 41 0))
      -- no permission mask taken for all ones
      (given (truck_at 0 1 1))
      -- the cursor checked against the revocation's length
      (refused 6 41)

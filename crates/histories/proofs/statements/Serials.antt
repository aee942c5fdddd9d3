-- Serials and histories: only lists of flags are compared, serials may differ, and the record of `superseding` may begin a history. So may
-- a new builder under any serial (`from_builder`): the theorem on histories is about all of these, and the list of flags has no serial.
use Rattle.std.specs.Prelude.{ℕ, ◌≡◌, cond, List}
use Rattle.masks.specs.equations.Answer.{given}
use Rattle.masks.specs.Builder.{filling, new_builder}
use Rattle.masks.specs.Mask.{mask_flags}
use Rattle.masks.specs.Superseding.{part_bytes}
use Rattle.masks.specs.equations.Superseding.{superseding_of}
use Rattle.masks.proofs.statements.SupersedingPlain.{Accepted, under}
use Rattle.masks.specs.declared.bitmap.Bitmap.{Bitmap}
use Rattle.masks.specs.declared.superseding.Winner.{Winner}
use Rattle.histories.proofs.statements.Agreement.{Alike, ComesTo, imported_history}
use Rattle.histories.proofs.statements.History.{building, from_builder, list_of, start_of}
use Rattle.histories.specs.Rows.{RowCall}

pub record SerialsApart {Code : Type 0} (call_of : Code → RowCall) : Type 0 where
  -- a new builder under serial 0 is the one that `BitmapBuilder::new` returns
  pub new : (buf : List ℕ) → start_of (from_builder 0 buf) ≡ building (filling new_builder buf)
  -- calls answer alike on two masks with equal lists, whatever their serials are
  pub serials : (m : Bitmap) (bytes : List ℕ) (m' : Bitmap) (bytes' : List ℕ) (s s' : ℕ) → Accepted m bytes → Accepted m' bytes'
      → mask_flags m bytes ≡ mask_flags m' bytes' → Alike (under s m) bytes (under s' m') bytes'
  -- the record that `superseding` returns begins a history over the bytes that it returns; the history's list is the winner's flags
  pub superseded : (a : Bitmap) (a_bytes : List ℕ) (b : Bitmap) (b_bytes : List ℕ) (p : Winner)
      → superseding_of a a_bytes b b_bytes ≡ given p
      → let part = part_bytes p a_bytes b_bytes in let h = imported_history p.mask part in
      ComesTo call_of h p.mask part × (list_of call_of h ≡ cond p.second (mask_flags b b_bytes) (mask_flags a a_bytes))

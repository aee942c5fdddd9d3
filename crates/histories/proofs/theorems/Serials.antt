-- Serials and histories: the statement of `proofs/statements/Serials.antt`, which follows from the theorem on any imported mask.
use Prim.Native.Nat.{ℕ}
use mathlib.Core.Path.{refl, sym, ◌∙◌}
use mathlib.Core.List.{List}
use Rattle.masks.specs.Mask.{mask_checks}
use Rattle.masks.proofs.statements.SupersedingPlain.{Accepted, under}
use Rattle.masks.specs.declared.bitmap.Bitmap.{Bitmap}
use Rattle.masks.proofs.theorems.SupersedingPlain.{superseding_plainly}
use Rattle.histories.proofs.statements.Agreement.{imported_history, OneMeaning}
use Rattle.histories.proofs.statements.Library.{library_call}
use Rattle.histories.specs.Rows.{RowCall}
use Rattle.histories.proofs.statements.Serials.{SerialsApart}
use Rattle.histories.proofs.theorems.Histories.{means_the_same}

-- no check reads a serial
any-serial : (s : ℕ) (m : Bitmap) (bytes : List ℕ) → Accepted m bytes → Accepted (under s m) bytes
unfolding mask_checks
any-serial s m bytes e = e

module _ {Code : Type 0} (call_of : Code → RowCall) (means : OneMeaning call_of) where
  pub serials-apart : SerialsApart call_of
  serials-apart =
      record {
        new = λ buf. refl;
        serials = λ m bytes m' bytes' s s' e e' l.
            let own = means.imported (under s m) bytes (any-serial s m bytes e) in
            let other = means.imported (under s' m') bytes' (any-serial s' m' bytes' e') in
            means.alike (imported_history (under s m) bytes) (imported_history (under s' m') bytes') (under s m) (under s' m') bytes bytes'
            own.0 other.0 (own.1 ∙ l ∙ sym other.1);
        superseded = λ a a_bytes b b_bytes p e.
            let won = superseding_plainly.won a a_bytes b b_bytes p e in
            let begun = means.imported p.mask _ won.accepted in (begun.0, begun.1 ∙ won.flags);
      }

-- the statement for the library's table
pub library_serials : SerialsApart library_call
library_serials = serials-apart library_call means_the_same

-- Two histories that come to masks with equal lists: written as run ends, they have the same encoding; as the values of the same run ends,
-- they are read as the same flags. Both are what the plain list gives.
use Rattle.std.specs.Prelude.{ℕ, suc, ◌≡◌, ℤ, pos, Bool, cond, List, [], ◌∷◌, length, map, take}
use Rattle.masks.specs.Mask.{mask_flags}
use Rattle.masks.specs.declared.bitmap.Bitmap.{Bitmap}
use Rattle.masks.specs.equations.Answer.{given}
use Rattle.run_ends.specs.equations.Read.{from_run_ends_bytes, from_run_ends_of}
use Rattle.run_ends.specs.equations.Write.{to_run_ends_bytes, to_run_ends_ends, to_run_ends_of}
use Rattle.histories.proofs.statements.Agreement.{ComesTo}
use Rattle.histories.proofs.statements.GridsAlike.{Both}
use Rattle.histories.proofs.statements.History.{History, list_of}
use Rattle.histories.proofs.statements.Library.{library_call, LibraryCall}
use Rattle.histories.specs.ReferenceList.{pair_flag, read_runs, run_values, xor}

-- what the plain list gives as ends: the place of each flag that differs from the one before it, and at last its length. The list begins at
-- place p; x comes before the first
abbrev pub places_after : Bool → ℕ → List Bool → List ℕ
places_after x p [] = p ∷ []
places_after x p (y ∷ l) = cond (pair_flag xor x y) (p ∷ places_after y (suc p) l) (places_after y (suc p) l)

abbrev pub run_places : List Bool → List ℤ
run_places [] = []
run_places (x ∷ l) = map pos (places_after x 1 l)

-- what two masks, each in its bytes, have in common as runs, and with the list l, if the calls on both are accepted, each with outputs of
-- its own
pub record RunsAlike (m : Bitmap) (bytes : List ℕ) (m' : Bitmap) (bytes' : List ℕ) (l : List Bool) : Type 0 where
  -- as many runs are written; their ends are equal, and the values' masks have equal flags
  pub written : (s s' : Bitmap) (ends ends' : List ℤ) (out out' : List ℕ)
      → given s ≡ to_run_ends_of m bytes (length ends) (length out) → given s' ≡ to_run_ends_of m' bytes' (length ends') (length out')
      → Both (length (run_values l)) s.length s'.length
      × (Both (run_places l) (take s.length (to_run_ends_ends m bytes (length out) ends))
      (take s'.length (to_run_ends_ends m' bytes' (length out') ends'))
      × Both (run_values l) (mask_flags s (to_run_ends_bytes m bytes (length ends) out))
      (mask_flags s' (to_run_ends_bytes m' bytes' (length ends') out')))
  -- n flags of the same ends, the masks being the values of their runs
  pub read : (ends : List ℤ) (n : ℕ) (s s' : Bitmap) (out out' : List ℕ)
      → given s ≡ from_run_ends_of ends m bytes n (length out) → given s' ≡ from_run_ends_of ends m' bytes' n (length out')
      → Both (read_runs ends n l) (mask_flags s (from_run_ends_bytes ends m bytes n out))
      (mask_flags s' (from_run_ends_bytes ends m' bytes' n out'))

-- the statement
pub record RunEndsAlike : Type 0 where
  pub alike : (h h' : History LibraryCall) (m m' : Bitmap) (bytes bytes' : List ℕ)
      → ComesTo library_call h m bytes → ComesTo library_call h' m' bytes' → list_of library_call h ≡ list_of library_call h'
      → RunsAlike m bytes m' bytes' (list_of library_call h)

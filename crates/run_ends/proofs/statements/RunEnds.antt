-- What the two calls on run ends are to one another. A line with `given` is about calls that were accepted. The encoding that a call wrote
-- is the front of `ends`, as many as the values' mask has flags, and that mask over the bytes written.
use Rattle.std.specs.Prelude.{ℕ, suc, ◌≤◌, ◌<◌, ◌≡◌, ℤ, pos, false, not, List, Some, get_or, length, take}
use Rattle.masks.specs.Frozen.{frozen_size}
use Rattle.masks.specs.Mask.{mask_flags, mask_under, written_mask}
use Rattle.masks.specs.declared.bitmap.Bitmap.{Bitmap}
use Rattle.masks.specs.equations.Answer.{given, refused}
use Rattle.run_ends.specs.equations.Read.{from_run_ends_bytes, from_run_ends_of}
use Rattle.run_ends.specs.equations.Write.{to_run_ends_bytes, to_run_ends_ends, to_run_ends_of}

-- what `ends` and `out` hold after a call that writes the runs of a mask
abbrev pub ends_after : Bitmap → List ℕ → List ℤ → List ℕ → List ℤ
ends_after m bytes ends out = to_run_ends_ends m bytes (length out) ends

abbrev pub out_after : Bitmap → List ℕ → List ℤ → List ℕ → List ℕ
out_after m bytes ends out = to_run_ends_bytes m bytes (length ends) out

-- a call that writes the runs of m, given `ends` and `out`, was accepted and returned the values' mask v
abbrev pub Wrote : Bitmap → List ℕ → List ℤ → List ℕ → Bitmap → Type 0
Wrote m bytes ends out v = given v ≡ to_run_ends_of m bytes (length ends) (length out)

pub record RunEnds (m : Bitmap) (bytes : List ℕ) (ends : List ℤ) (out : List ℕ) (v : Bitmap) : Type 0 where
  -- what was written is read, at the mask's length and with room: it is accepted,
  pub read : (size : ℕ) → frozen_size m.length ≤ size
      → given (written_mask v m.length) ≡ from_run_ends_of (take v.length (ends_after m bytes ends out)) v (out_after m bytes ends out)
      m.length size
  -- and its mask has the list and the serial
  pub back : (r : Bitmap) (into : List ℕ)
      → given r ≡ from_run_ends_of (take v.length (ends_after m bytes ends out)) v (out_after m bytes ends out) m.length (length into)
      → (mask_flags r
      (from_run_ends_bytes (take v.length (ends_after m bytes ends out)) v (out_after m bytes ends out) m.length into)
      ≡ mask_flags m bytes) × (r.serial ≡ m.serial)
  -- the last end written is the length
  pub last_end : (k : ℕ) → v.length ≡ suc k → get_or (ends_after m bytes ends out) k (pos 0) ≡ pos m.length
  pub some_end : 0 < m.length → 0 < v.length
  -- each end but the last is a place whose flag differs from the one before it
  pub between : (k : ℕ) → suc k < v.length
      → (p : ℕ) × ((get_or (ends_after m bytes ends out) k (pos 0) ≡ pos (suc p)) × ((suc p < m.length)
      × (get_or (mask_flags m bytes) (suc p) false ≡ not (get_or (mask_flags m bytes) p false))))
  -- of a mask of no flags nothing is written, and the values' mask is empty
  pub nothing : m.length ≡ 0
      → (v ≡ mask_under m.serial 0 0 (Some 0)) × ((ends_after m bytes ends out ≡ ends) × (out_after m bytes ends out ≡ out))
  -- equal lists have equal encodings: as many runs, the same ends, the same bytes
  pub alike : (m' : Bitmap) (bytes' : List ℕ) (ends' : List ℤ) (out' : List ℕ) (v' : Bitmap) → Wrote m' bytes' ends' out' v'
      → mask_flags m bytes ≡ mask_flags m' bytes'
      → (v.length ≡ v'.length) × ((take v.length (ends_after m bytes ends out) ≡ take v'.length (ends_after m' bytes' ends' out'))
      × (take (frozen_size v.length) (out_after m bytes ends out) ≡ take (frozen_size v'.length) (out_after m' bytes' ends' out')))
  -- whatever encoding is read to the mask's list has at least as many runs
  pub fewest : (es : List ℤ) (values : Bitmap) (lent : List ℕ) (n : ℕ) (r : Bitmap) (into : List ℕ)
      → given r ≡ from_run_ends_of es values lent n (length into)
      → mask_flags r (from_run_ends_bytes es values lent n into) ≡ mask_flags m bytes → v.length ≤ length es
  -- places of `ends` past the last end, and bytes past the values' frozen bytes, are as before
  pub later_ends : (k : ℕ) (d : ℤ) → v.length ≤ k → get_or (ends_after m bytes ends out) k d ≡ get_or ends k d
  pub later_bytes : (k : ℕ) → frozen_size v.length ≤ k → get_or (out_after m bytes ends out) k 0 ≡ get_or out k 0

-- however a call ends: there are as many ends and bytes as before; and if it is refused, all are as before
pub record RunEndsKept (m : Bitmap) (bytes : List ℕ) (ends : List ℤ) (out : List ℕ) : Type 0 where
  pub ends_long : length (ends_after m bytes ends out) ≡ length ends
  pub out_long : length (out_after m bytes ends out) ≡ length out
  pub ends_refused : (number : ℕ) → refused number tt ≡ to_run_ends_of m bytes (length ends) (length out)
      → ends_after m bytes ends out ≡ ends
  pub out_refused : (number : ℕ) → refused number tt ≡ to_run_ends_of m bytes (length ends) (length out)
      → out_after m bytes ends out ≡ out

pub record EachRunEnds : Type 0 where
  pub written : (m : Bitmap) (bytes : List ℕ) (ends : List ℤ) (out : List ℕ) (v : Bitmap) → Wrote m bytes ends out v
      → RunEnds m bytes ends out v
  pub kept : (m : Bitmap) (bytes : List ℕ) (ends : List ℤ) (out : List ℕ) → RunEndsKept m bytes ends out

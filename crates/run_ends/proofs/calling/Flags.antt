-- For callers in other crates: why a read or a write was accepted, and the flags of a mask that was read, by their index. The premises are
-- the clauses of the call at an `Ok`, in the order in which a proof cites them: `refused`, `mask`, `bytes`.
use Rattle.std.proofs.Common.{◌≡◌, sym, ap, ap₂, ◌∙◌, ℕ, ◌+◌, ◌*◌, ◌/◌, ◌<◌, ◌≤◌, ℤ, Bool, false, List, ◌∷◌, length, get_or, arith}
use Rattle.words.specs.Flags.{flags_of}
use Rattle.words.proofs.flags.Windows.{length-window}
use Rattle.masks.specs.Checks.{check, first_failed, limit, output_checks, within_limit}
use Rattle.masks.specs.Frozen.{with_frozen}
use Rattle.masks.specs.Mask.{mask_checks, mask_flags, written_mask}
use Rattle.masks.specs.declared.bitmap.Bitmap.{Bitmap}
use Rattle.masks.proofs.bitmap.MaskLaws.{mask-sound}
use Rattle.masks.proofs.checks.CheckLaws.{both_left}
use Rattle.masks.proofs.statements.TrueCounts.{Sound}
use Rattle.masks.proofs.theorems.WrittenLaws.{frozen-window}
use Rattle.run_ends.specs.Read.{flags_read, read_checks}
use Rattle.run_ends.specs.Rules.{ends_hold, runs_hold}
use Rattle.run_ends.specs.Write.{run_count, write_checks}
use Rattle.run_ends.proofs.read.CheckLaws.{read-allowed}
use Rattle.run_ends.proofs.read.FlagLaws.{at-read, length-from}
use Rattle.run_ends.proofs.statements.Reading.{FirstAbove, Reached, Rising}
use Rattle.run_ends.proofs.theorems.Reading.{first-above, found-above, reading}
use Rattle.run_ends.proofs.write.CheckLaws.{write-allowed}

-- ---- why a call was accepted

-- `from_run_ends`: the values' mask is sound, it has a flag for each end, the ends are above 0 and rise, the last one reaches the length,
-- and the output holds the frozen bytes
pub record ReadAccepted (ends : List ℤ) (values : Bitmap) (bytes : List ℕ) (n size : ℕ) : Type 0 where
  pub sound : Sound values bytes
  pub paired : length ends ≡ values.length
  pub rising : Rising ends
  pub reached : Reached n ends
  pub short : n ≤ limit
  pub room : 8 * ((n + 63) / 64) ≤ size

pub read_accepted : (ends : List ℤ) (values : Bitmap) (bytes : List ℕ) (n size : ℕ)
    → 0 ≡ first_failed (read_checks ends values bytes n size) → ReadAccepted ends values bytes n size
unfolding read_checks
read_accepted ends values bytes n size e =
    let ok = read-allowed ends values bytes n size (sym e) in
    let rules = reading.rules.held n ends ok.readable.holds in
    record {
      sound = mask-sound values bytes (both_left (mask_checks values bytes)
          (within_limit n ∷ check 13 (runs_hold n ends values.length) ∷ output_checks n size) (sym e));
      paired = ok.paired;
      rising = rules.0;
      reached = rules.1;
      short = ok.readable.short;
      room = ok.readable.room;
    }

-- `to_run_ends`: the mask is sound, there is a place for the end of each run, and the output holds the frozen bytes of their flags
pub record WriteAccepted (m : Bitmap) (bytes : List ℕ) (places size : ℕ) : Type 0 where
  pub sound : Sound m bytes
  pub fits : run_count m bytes ≤ places
  pub room : 8 * ((run_count m bytes + 63) / 64) ≤ size

pub write_accepted : (m : Bitmap) (bytes : List ℕ) (places size : ℕ)
    → 0 ≡ first_failed (write_checks m bytes places size) → WriteAccepted m bytes places size
write_accepted m bytes places size e =
    let ok = write-allowed m bytes places size (sym e) in
    record { sound = mask-sound m bytes ok.mask; fits = ok.fits; room = ok.room }

-- ---- the flags of a mask that was read

-- the mask has as many flags as were asked for,
pub read_length : (values : Bitmap) (n : ℕ) (m : Bitmap) → m ≡ written_mask values n → m.length ≡ n
read_length values n m made = ap (λ (x : Bitmap). x.length) made

-- each position below the length is in a run,
pub run_of : (ends : List ℤ) (values : Bitmap) (bytes : List ℕ) (n size p : ℕ)
    → 0 ≡ first_failed (read_checks ends values bytes n size) → p < n → (k : ℕ) × FirstAbove ends p k
unfolding ends_hold
run_of ends values bytes n size p e h =
    found-above n 0 p ends (read-allowed ends values bytes n size (sym e)).readable.holds h (omega arith)

-- and its flag is the value of the first run whose end is above it
pub at_read : (ends : List ℤ) (values : Bitmap) (bytes : List ℕ) (n : ℕ) (out : List ℕ) (m : Bitmap) (new : List ℕ) (p k : ℕ)
    → 0 ≡ first_failed (read_checks ends values bytes n (length out)) → m ≡ written_mask values n
    → new ≡ with_frozen out (flags_read ends (mask_flags values bytes) n) → p < n → FirstAbove ends p k
    → get_or (mask_flags m new) p false ≡ get_or (mask_flags values bytes) k false
at_read ends values bytes n out m new p k e made written h f =
    let ok = read-allowed ends values bytes n (length out) (sym e) in
    let v : List Bool = mask_flags values bytes in
    ap₂ (λ (x : Bitmap) (b : List ℕ). get_or (mask_flags x b) p false) made written
    ∙ ap (λ (l : List Bool). get_or l p false)
    (frozen-window out (flags_read ends v n) n (length-from ends v 0 n) ok.readable.room)
    ∙ at-read ends v n p h
    ∙ first-above ends v p k (length-window (flags_of bytes) values.start values.length ∙ sym ok.paired) f

-- What `from_run_ends` returns and writes, in plain words: of ends, a mask of values with its bytes, a length and an output. A line with
-- `given` is about calls that were accepted.
use Rattle.std.specs.Prelude.{ℕ, suc, ◌*◌, ◌+◌, ◌/◌, ◌≤◌, ◌<◌, ◌≡◌, ℤ, pos, true, false, List, [], ◌∷◌, get_or, length}
use Rattle.masks.specs.Checks.{first_failed, limit}
use Rattle.masks.specs.Mask.{mask_checks, mask_flags, written_mask}
use Rattle.masks.specs.declared.bitmap.Bitmap.{Bitmap}
use Rattle.masks.specs.equations.Answer.{given, refused}
use Rattle.run_ends.specs.Rules.{end_of, ends_hold}
use Rattle.run_ends.specs.equations.Read.{from_run_ends_bytes, from_run_ends_of}

-- end k
abbrev pub end_at : List ℤ → ℕ → ℕ
end_at ends k = end_of (get_or ends k (pos 0))

-- run k is the first whose end is above position p
pub record FirstAbove (ends : List ℤ) (p k : ℕ) : Type 0 where
  pub inside : k < length ends
  pub above : p < end_at ends k
  pub before : (j : ℕ) → j < k → end_at ends j ≤ p

-- each end is above 0, and above the one before it
pub record Rising (ends : List ℤ) : Type 0 where
  pub positive : (k : ℕ) → k < length ends → 0 < end_at ends k
  pub rises : (k : ℕ) → suc k < length ends → end_at ends k < end_at ends (suc k)

-- no ends for a length of 0, or a last end that is at least the length
abbrev pub Reached : ℕ → List ℤ → Type 0
Reached n [] = n ≡ 0
Reached n (e ∷ es) = n ≤ end_at (e ∷ es) (length es)

-- the rules on ends, by which number 13 is given
pub record RulesPlain : Type 0 where
  pub hold : (n : ℕ) (ends : List ℤ) → Rising ends → Reached n ends → ends_hold n ends ≡ true
  pub held : (n : ℕ) (ends : List ℤ) → ends_hold n ends ≡ true → Rising ends × Reached n ends

pub record ReadPlain (ends : List ℤ) (m : Bitmap) (bytes : List ℕ) (n : ℕ) : Type 0 where
  -- the mask has n flags; each position below n is in a run, and flag p is the value of the first run whose end is above p
  pub size : (s : Bitmap) (size : ℕ) → given s ≡ from_run_ends_of ends m bytes n size → s.length ≡ n
  pub in-run : (s : Bitmap) (size p : ℕ) → given s ≡ from_run_ends_of ends m bytes n size → p < n → (k : ℕ) × FirstAbove ends p k
  pub flag : (s : Bitmap) (out : List ℕ) (p k : ℕ) → given s ≡ from_run_ends_of ends m bytes n (length out) → p < n → FirstAbove ends p k
      → get_or (mask_flags s (from_run_ends_bytes ends m bytes n out)) p false ≡ get_or (mask_flags m bytes) k false
  -- the mask over the bytes that are written passes its checks
  pub passes : (s : Bitmap) (out : List ℕ) → given s ≡ from_run_ends_of ends m bytes n (length out)
      → 0 ≡ first_failed (mask_checks s (from_run_ends_bytes ends m bytes n out))
  -- bytes past the words of the n flags stay, and all bytes if the call is refused; no byte is added or taken away
  pub later : (out : List ℕ) (k : ℕ) → 8 * ((n + 63) / 64) ≤ k → get_or (from_run_ends_bytes ends m bytes n out) k 0 ≡ get_or out k 0
  pub unwritten : (number : ℕ) (out : List ℕ) → refused number tt ≡ from_run_ends_of ends m bytes n (length out)
      → from_run_ends_bytes ends m bytes n out ≡ out
  pub long : (out : List ℕ) → length (from_run_ends_bytes ends m bytes n out) ≡ length out

pub record Reading : Type 0 where
  pub rules : RulesPlain
  pub calls : (ends : List ℤ) (m : Bitmap) (bytes : List ℕ) (n : ℕ) → ReadPlain ends m bytes n
  -- a length of 0 is read with no runs, and with every list of ends above 0 that rises, into any output
  pub none : (m : Bitmap) (bytes : List ℕ) (size : ℕ) → first_failed (mask_checks m bytes) ≡ 0 → m.length ≡ 0
      → given (written_mask m 0) ≡ from_run_ends_of [] m bytes 0 size
  pub empty : (ends : List ℤ) (m : Bitmap) (bytes : List ℕ) (size : ℕ) → first_failed (mask_checks m bytes) ≡ 0 → Rising ends
      → length ends ≡ m.length → given (written_mask m 0) ≡ from_run_ends_of ends m bytes 0 size
  -- so is every list whose ends keep the rules, with as many values, that has room
  pub all : (ends : List ℤ) (m : Bitmap) (bytes : List ℕ) (n size : ℕ) → first_failed (mask_checks m bytes) ≡ 0 → Rising ends
      → Reached n ends → length ends ≡ m.length → n ≤ limit → 8 * ((n + 63) / 64) ≤ size
      → given (written_mask m n) ≡ from_run_ends_of ends m bytes n size

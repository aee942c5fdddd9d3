-- Lists of flags as run ends: what is written is read back, with the fewest runs, and where each of them ends.
use Rattle.std.specs.Prelude.{◌≡◌, ◌≤◌, ◌<◌, ℕ, suc, pos, Bool, true, false, not, ℤ, List, [], get_or, length}
use Rattle.run_ends.specs.Read.{flags_read}
use Rattle.run_ends.specs.Rules.{ends_hold}
use Rattle.run_ends.specs.Write.{run_flags, written_ends}

pub record RunLists : Type 0 where
  -- what is written keeps the rules,
  pub holds : (l : List Bool) → ends_hold (length l) (written_ends l) ≡ true
  -- has a flag for each end,
  pub paired : (l : List Bool) → length (run_flags l) ≡ length (written_ends l)
  -- and is read as the list.
  pub back : (l : List Bool) → flags_read (written_ends l) (run_flags l) (length l) ≡ l
  -- Whatever keeps the rules has at least as many runs as are written for the flags that it is read as.
  pub fewest : (ends : List ℤ) (values : List Bool) (n : ℕ) → ends_hold n ends ≡ true → length values ≡ length ends
      → length (written_ends (flags_read ends values n)) ≤ length ends
  -- Of a list that is not empty the last end is its length,
  pub last : (l : List Bool) (k : ℕ) → length (written_ends l) ≡ suc k → get_or (written_ends l) k (pos 0) ≡ pos (length l)
  -- and there is one;
  pub some : (l : List Bool) → 0 < length l → 0 < length (written_ends l)
  -- each end but the last is a position whose flag differs from the one before it.
  pub between : (l : List Bool) (k : ℕ) → suc k < length (written_ends l)
      → (p : ℕ) × ((get_or (written_ends l) k (pos 0) ≡ pos (suc p)) × ((suc p < length l)
      × (get_or l (suc p) false ≡ not (get_or l p false))))
  -- Of no flags there is no end and no flag of a run.
  pub no_ends : written_ends [] ≡ []
  pub no_flags : run_flags [] ≡ []

-- Lists of runs that keep all conditions of `RunList` but one: each is the run list of no list of flags, so that each condition is
-- needed. Then run lists with their lists of flags, and the calls that save one.
use Rattle.std.specs.Prelude.{ℕ, ◌≡◌, Bool, true, false, List, [], ◌∷◌, map}
use Rattle.words.specs.Flags.{is_one}
use Rattle.masks.specs.equations.Appends.{extend_constant}
use Rattle.masks.specs.SliceIterator.{run_of}
use Rattle.masks.specs.declared.slice_iterator.Run.{Run}
use Rattle.histories.proofs.statements.History.{append}
use Rattle.histories.proofs.statements.RunLists.{HasRuns, every_run, is_apart, is_inside, is_long, saving_from}

-- no list of n flags has these runs; x, y, z: whether the runs are long enough, apart and inside n flags
pub record NoRunList (n : ℕ) (rs : List Run) (x y z : Bool) : Type 0 where
  pub long : every_run is_long rs ≡ x
  pub apart : is_apart rs ≡ y
  pub inside : every_run (is_inside n) rs ≡ z
  pub none : (l : List Bool) → HasRuns n rs l → ⊥

-- the runs of these n flags (1 for set) are rs
abbrev pub Has : List Run → ℕ → List ℕ → Type 0
Has rs n flags = HasRuns n rs (map is_one flags)

pub record RunListRows : Type 0 where
  -- an empty run: the only one, before another one and after it
  pub empty : NoRunList 4 (run_of 1 0 ∷ []) false true true
  pub empty-first : NoRunList 4 (run_of 0 0 ∷ run_of 1 1 ∷ []) false true true
  pub empty-last : NoRunList 4 (run_of 0 1 ∷ run_of 4 0 ∷ []) false true true
  -- runs that fall, a run twice, runs that overlap, and runs with no flag between them
  pub falling : NoRunList 4 (run_of 2 1 ∷ run_of 0 1 ∷ []) true false true
  pub twice : NoRunList 4 (run_of 1 1 ∷ run_of 1 1 ∷ []) true false true
  pub overlapping : NoRunList 4 (run_of 0 3 ∷ run_of 2 2 ∷ []) true false true
  pub touching : NoRunList 4 (run_of 0 1 ∷ run_of 1 2 ∷ []) true false true
  -- a run that ends one flag past the length, one that begins there, and one in no flags
  pub past : NoRunList 4 (run_of 0 1 ∷ run_of 2 3 ∷ []) true true false
  pub at-end : NoRunList 4 (run_of 4 1 ∷ []) true true false
  pub no-flags : NoRunList 0 (run_of 0 1 ∷ []) true true false
  -- lists that keep all conditions, each close to one above
  pub one : Has (run_of 1 1 ∷ []) 4 (0 ∷ 1 ∷ 0 ∷ 0 ∷ [])
  pub rising : Has (run_of 0 1 ∷ run_of 2 1 ∷ []) 4 (1 ∷ 0 ∷ 1 ∷ 0 ∷ [])
  pub to_the_end : Has (run_of 0 1 ∷ run_of 2 2 ∷ []) 4 (1 ∷ 0 ∷ 1 ∷ 1 ∷ [])
  pub over-all : Has (run_of 0 4 ∷ []) 4 (1 ∷ 1 ∷ 1 ∷ 1 ∷ [])
  pub none : Has [] 4 (0 ∷ 0 ∷ 0 ∷ 0 ∷ [])
  -- 1, 0, 1, 1 saved: with calls for the empty gaps before the first run and after the last, and without
  pub saved : saving_from (λ (k : ℕ). false) 4 0 (run_of 0 1 ∷ run_of 2 2 ∷ []) ≡ map append
      (extend_constant 0 false ∷ extend_constant 1 true ∷ extend_constant 1 false ∷ extend_constant 2 true ∷ extend_constant 0 false ∷ [])
  pub saved-without : saving_from (λ (k : ℕ). true) 4 0 (run_of 0 1 ∷ run_of 2 2 ∷ []) ≡ map append
      (extend_constant 1 true ∷ extend_constant 1 false ∷ extend_constant 2 true ∷ [])

-- The table of lists of runs (`proofs/tables/RunListRows.antt`) by computation. That no list of flags has the runs of a row is shown by
-- going through all lists of its length.
use Rattle.std.proofs.lemmas.Bool.{or_parts, true≢false}
use mathlib.Core.Path.{◌≡◌, refl, ap, ◌∙◌, sym}
use mathlib.Core.Bool.{Bool, true, false, ◌&&◌, ◌||◌}
use mathlib.Core.List.{List, [], ◌∷◌}
use Prim.Native.Nat.{ℕ, zero, suc}
use native.Mathlib.Omega.{arith}
use lib.Dec.{eqb}
use lib.ListN.{length}
use borrow.Author.Tests.{eq-eqb}
use Rattle.masks.specs.SliceIterator.{runs_from, with_one}
use Rattle.masks.specs.declared.slice_iterator.Run.{Run}
use Rattle.histories.proofs.statements.RunLists.{HasRuns, every_run, gap_calls, is_apart, is_inside, is_long, saving_from}
use Rattle.histories.proofs.tables.RunListRows.{NoRunList, RunListRows}

-- ---- all lists of n flags, gone through

-- whether some list of n flags passes the test
unfoldable some_pass : ℕ → (List Bool → Bool) → Bool
some_pass zero test = test []
some_pass (suc n) test = some_pass n (λ (l : List Bool). test (false ∷ l)) || some_pass n (λ (l : List Bool). test (true ∷ l))

none_pass : (n : ℕ) (test : List Bool → Bool) (l : List Bool) → length l ≡ n → some_pass n test ≡ false → test l ≡ false
unfolding some_pass
none_pass zero test [] h e = e
none_pass zero test (x ∷ l) h e = absurd (omega arith)
none_pass (suc n) test [] h e = absurd (omega arith)
none_pass (suc n) test (false ∷ l) h e =
    none_pass n (λ (t : List Bool). test (false ∷ t)) l (omega arith)
    (or_parts _ _ e).0
none_pass (suc n) test (true ∷ l) h e =
    none_pass n (λ (t : List Bool). test (true ∷ t)) l (omega arith)
    (or_parts _ _ e).1

-- ---- lists of runs, compared

unfoldable same_runs : List Run → List Run → Bool
same_runs [] [] = true
same_runs [] (s ∷ ss) = false
same_runs (r ∷ rs) [] = false
same_runs (r ∷ rs) (s ∷ ss) = (eqb r.start s.start && eqb r.length s.length) && same_runs rs ss

same_self : (rs : List Run) → same_runs rs rs ≡ true
unfolding same_runs
same_self [] = refl
same_self (r ∷ rs) = rw (eq-eqb r.start r.start refl, eq-eqb r.length r.length refl) (same_self rs)

no-list : (n : ℕ) (rs : List Run) → some_pass n (λ (l : List Bool). same_runs (runs_from 0 l) rs) ≡ false
    → (l : List Bool) → HasRuns n rs l → ⊥
no-list n rs e l h =
    true≢false (sym (ap (λ (t : List Run). same_runs t rs) h.runs ∙ same_self rs)
    ∙ none_pass n (λ (t : List Bool). same_runs (runs_from 0 t) rs) l h.long e)

broken : {n : ℕ} {rs : List Run} {x y z : Bool} → every_run is_long rs ≡ x → is_apart rs ≡ y → every_run (is_inside n) rs ≡ z
    → some_pass n (λ (l : List Bool). same_runs (runs_from 0 l) rs) ≡ false → NoRunList n rs x y z
broken {n = n} {rs = rs} a b c e = record { long = a; apart = b; inside = c; none = no-list n rs e }

-- ---- the table

pub run-list-rows : RunListRows
unfolding some_pass same_runs runs_from with_one every_run is_apart gap_calls saving_from
run-list-rows =
    record {
      empty = broken refl refl refl refl;
      empty-first = broken refl refl refl refl;
      empty-last = broken refl refl refl refl;
      falling = broken refl refl refl refl;
      twice = broken refl refl refl refl;
      overlapping = broken refl refl refl refl;
      touching = broken refl refl refl refl;
      past = broken refl refl refl refl;
      at-end = broken refl refl refl refl;
      no-flags = broken refl refl refl refl;
      one = record { long = refl; runs = refl };
      rising = record { long = refl; runs = refl };
      to_the_end = record { long = refl; runs = refl };
      over-all = record { long = refl; runs = refl };
      none = record { long = refl; runs = refl };
      saved = refl;
      saved-without = refl;
    }

-- The theorem on run lists: a list of flags and its runs determine each other, and saving the runs, call by call, makes these flags.
use Rattle.std.specs.Prelude.{Some}
use Rattle.std.proofs.lemmas.Bool.{and_parts}
use mathlib.Core.Path.{◌≡◌, refl, sym, ap, ◌∙◌, subst}
use mathlib.Core.Bool.{Bool, true, false, cond, ◌&&◌}
use mathlib.Core.List.{List, [], ◌∷◌, ◌++◌, append_assoc, append-nil, map}
use Prim.Native.Nat.{ℕ, zero, suc, ◌+◌, ◌-◌, ◌≤◌, ◌<◌}
use native.Mathlib.Omega.{arith}
use lib.Dec.{eqb}
use lib.ListN.{length}
use borrow.Author.Tests.{eqb-true}
use Rattle.words.specs.Flags.{copies, flags_of}
use Rattle.words.proofs.flags.Windows.{length-copies, length-window}
use Rattle.masks.specs.equations.Answer.{decided, kept}
use Rattle.masks.specs.Appends.{constant_checks}
use Rattle.masks.specs.Builder.{Filling, appended, builder_under, filling}
use Rattle.masks.specs.Checks.{check, first_failed, limit, span_checks}
use Rattle.masks.specs.Freeze.{freeze_checks, frozen_mask, frozen_over}
use Rattle.masks.specs.Frozen.{frozen_size}
use Rattle.masks.specs.Mask.{count_valid, mask_checks, mask_flags}
use Rattle.masks.proofs.statements.Listing.{runs_left}
use Rattle.masks.specs.SliceIterator.{runs_from, slices_at}
use Rattle.masks.specs.equations.SliceIterator.{new_slices}
use Rattle.masks.specs.Workers.{Room}
use Rattle.masks.specs.declared.bitmap.Bitmap.{Bitmap}
use Rattle.masks.specs.declared.slice_iterator.Run.{Run}
use Rattle.masks.proofs.theorems.Accepted.{builder-accepted}
use Rattle.masks.proofs.builder.InsideLaws.{constant-passed}
use Rattle.masks.proofs.checks.CheckLaws.{both_left, is-given, span-allowed}
use Rattle.masks.proofs.cursor.CursorLaws.{over-mask}
use Rattle.masks.proofs.builder.FreezeLaws.{same-checks}
use Rattle.masks.proofs.bitmap.MaskLaws.{mask-sound}
use Rattle.masks.proofs.builder.RoomLaws.{room_after, room-less}
use Rattle.masks.proofs.theorems.RunsWhole.{lists-runs}
use Rattle.histories.proofs.statements.Agreement.{runs_of, runs_shown}
use Rattle.histories.proofs.statements.History.{Call, Fed, Outcome, building, masked, after_append, after_freeze, outcome, run, step, trace}
use Rattle.histories.proofs.statements.Library.{LibraryCall, library_call}
use Rattle.histories.proofs.statements.Owed.{Stands}
use Rattle.histories.proofs.statements.RunLists.{HasRuns, Rebuilt, RunLists, Saves, constant, gap_calls, saving_from}
use Rattle.histories.proofs.history.AgreementLaws.{agrees}
use Rattle.histories.proofs.theorems.Histories.{both-agree}
use Rattle.histories.proofs.history.HistoryLaws.{Builds, builds-after, frozen-stands}
use Rattle.histories.proofs.theorems.HistoryTheorem.{new-holds}
use Rattle.histories.proofs.run_lists.RunListLaws.{RunsIn, no_more, then-run, run-by-run, in-tests, runs-in}
use Rattle.histories.proofs.run_lists.RunListLaws.{copies-none, laid-has, laid_same, laid_out}

-- ---- one call

appends : (f g : Filling) (k : ℕ) → 0 ≡ k
    → after_append (kept k g.bytes f.bytes) (decided k f.builder g.builder) ≡ outcome (building g) true
unfolding kept decided
appends f g zero e = refl
appends f g (suc k) e = absurd (omega arith)

-- `extend_constant` is accepted by a builder with room for its flags
constant-step : (f : Filling) (j : ℕ) (x : Bool) → Room f.builder j (length f.bytes)
    → step library_call (building f) (constant j x) ≡ outcome (building (appended f (copies j x))) true
constant-step f j x r =
    appends f (appended f (copies j x)) (first_failed (constant_checks f.builder (length f.bytes) j))
    (constant-passed f.builder j (length f.bytes) r)

-- ---- all calls

-- all calls are accepted, starting at builder f, and end in a builder with the flags l and the serial of f
record Ends (f : Filling) (calls : List (Call LibraryCall)) (l : List Bool) : Type 0 where
  pub accepted : map (λ (a : Fed LibraryCall). a.accepted) (trace library_call (building f) calls)
      ≡ map (λ (c : Call LibraryCall). true) calls
  pub builder : Filling
  pub builds : run library_call (building f) calls ≡ building builder
  pub under : builder.builder.serial ≡ f.builder.serial
  pub holds : Builds builder l

nothing-more : (f : Filling) (l : List Bool) → Builds f l → Ends f [] l
nothing-more f l i = record { accepted = refl; builder = f; builds = refl; under = refl; holds = i }

then-ends : (f g : Filling) (c : Call LibraryCall) (cs : List (Call LibraryCall)) (l : List Bool)
    → step library_call (building f) c ≡ outcome (building g) true → g.builder.serial ≡ f.builder.serial → Ends g cs l
    → Ends f (c ∷ cs) l
then-ends f g c cs l e s rest =
    record {
      accepted = ap (λ (o : Outcome). o.accepted ∷ map (λ (a : Fed LibraryCall). a.accepted) (trace library_call o.state cs)) e
          ∙ ap (λ (t : List Bool). true ∷ t) rest.accepted;
      builder = rest.builder;
      builds = ap (λ (o : Outcome). run library_call o.state cs) e ∙ rest.builds;
      under = rest.under ∙ s;
      holds = rest.holds;
    }

-- what later calls need of a builder: its flags are l, and it has room for m more
record Ready (f : Filling) (l : List Bool) (m : ℕ) : Type 0 where
  pub holds : Builds f l
  pub room : Room f.builder m (length f.bytes)

ready-after : (f : Filling) (l : List Bool) (j m : ℕ) (x : Bool) → j ≤ m → Ready f l m
    → Ready (appended f (copies j x)) (l ++ copies j x) (m - j)
ready-after f l j m x h r =
    let size : length (copies j x) ≡ j = length-copies j x in
    record {
      holds = builds-after f l (copies j x) r.holds (subst (λ (k : ℕ). Room f.builder k (length f.bytes)) (sym size)
          (room-less f.builder j m (length f.bytes) h r.room));
      room = room_after f (appended f (copies j x)) (copies j x) m (m - j) refl (omega (arith, size)) r.room;
    }

-- one `extend_constant` and the calls after it
constant-ends : (f : Filling) (l : List Bool) (j m : ℕ) (x : Bool) (cs : List (Call LibraryCall)) (all : List Bool) → j ≤ m → Ready f l m
    → ((g : Filling) → Ready g (l ++ copies j x) (m - j) → Ends g cs all) → Ends f (constant j x ∷ cs) all
unfolding appended
constant-ends f l j m x cs all h r more =
    let g = appended f (copies j x) in
    then-ends f g (constant j x) cs all (constant-step f j x (room-less f.builder j m (length f.bytes) h r.room)) refl
    (more g (ready-after f l j m x h r))

-- the call for a gap, left out or not, and the calls after it
gap_ends : (leaves : ℕ → Bool) (f : Filling) (l : List Bool) (k end m : ℕ) (cs : List (Call LibraryCall)) (all : List Bool)
    → end - k ≤ m → Ready f l m → ((g : Filling) → Ready g (l ++ copies (end - k) false) (m - (end - k)) → Ends g cs all)
    → Ends f (gap_calls leaves k end ++ cs) all
unfolding gap_calls
gap_ends leaves f l k end m cs all h r more = go (eqb k end && leaves end) refl
  where
    left_out : k ≡ end → Ready f (l ++ copies (end - k) false) (m - (end - k))
    left_out e =
        let None : copies (end - k) false ≡ [] = copies-none (end - k) false (omega arith) in
        let same : m ≡ m - (end - k) = omega arith in
        subst (Ready f (l ++ copies (end - k) false)) same
        (subst (λ (t : List Bool). Ready f t m) (sym (ap (λ (t : List Bool). l ++ t) None ∙ append-nil l)) r)

    go : (t : Bool) → (eqb k end && leaves end) ≡ t → Ends f (cond t [] (constant (end - k) false ∷ []) ++ cs) all
    go true e = more f (left_out (eqb-true k end (and_parts _ _ e).0))
    go false e = constant-ends f l (end - k) m false cs all h r more

-- the calls for all gaps, runs and the rest end in a builder with all flags
saves-from : {n p : ℕ} {rs : List Run} → RunsIn n p rs → (leaves : ℕ → Bool) (k : ℕ) → k ≤ p → k ≤ n → (f : Filling) (l all : List Bool)
    → Ready f l (n - k) → l ++ laid_out k n rs ≡ all → Ends f (saving_from leaves n k rs) all
unfolding saving_from laid_out
saves-from {n} no_more leaves k a b f l all r e =
    subst (λ (cs : List (Call LibraryCall)). Ends f cs all) (append-nil (gap_calls leaves k n))
    (gap_ends leaves f l k n (n - k) [] all (omega arith) r (λ (g : Filling) (s : Ready g (l ++ copies (n - k) false) (n - k - (n - k))).
    nothing-more g all (subst (Builds g) e s.holds)))
saves-from {n} (then-run {r = q} {more = more} a b d rest) leaves k h i f l all r e =
    let gap : ℕ = q.start - k in
    let zeros : List Bool = copies gap false in
    let ones : List Bool = copies q.length true in
    let t : List Bool = laid_out (q.start + q.length) n more in
    let end : ℕ = q.start + q.length in
    let left : n - k - gap - q.length ≡ n - end = omega arith in
    let flags : ((l ++ zeros) ++ ones) ++ t ≡ all =
    append_assoc (l ++ zeros) ones t ∙ append_assoc l zeros (ones ++ t) ∙ e in
    gap_ends leaves f l k q.start (n - k) (constant q.length true ∷ saving_from leaves n end more) all (omega arith) r
    (λ (g : Filling) (s : Ready g (l ++ zeros) (n - k - gap)).
    constant-ends g (l ++ zeros) q.length (n - k - gap) true (saving_from leaves n end more) all (omega arith) s
    (λ (g' : Filling) (s' : Ready g' ((l ++ zeros) ++ ones) (n - k - gap - q.length)).
    saves-from rest leaves end (omega arith) d g' ((l ++ zeros) ++ ones) all
    (subst (Ready g' ((l ++ zeros) ++ ones)) left s') flags))

-- ---- `freeze`

freezes : (f : Filling) (k : ℕ) → 0 ≡ k
    → after_freeze (kept k (frozen_over f.builder f.bytes) f.bytes) (decided k f.builder (frozen_mask f.builder))
    ≡ outcome (masked (frozen_mask f.builder) (frozen_over f.builder f.bytes)) true
unfolding kept decided
freezes f zero e = refl
freezes f (suc k) e = absurd (omega arith)

saved : (serial : ℕ) (l : List Bool) (buf : List ℕ) (calls : List (Call LibraryCall))
    → Ends (filling (builder_under serial 0 0 0) buf) calls l → Saves serial l buf calls
saved serial l buf calls e =
    let f = e.builder in
    let mask = frozen_mask f.builder in
    let bytes = frozen_over f.builder f.bytes in
    record {
      accepted = e.accepted;
      builder = f;
      builds = e.builds;
      flags = e.holds.flags;
      mask = mask;
      bytes = bytes;
      freezes = freezes f (first_failed (freeze_checks f.builder (length f.bytes)))
          (same-checks f.builder (length f.bytes) 0 (builder-accepted f.builder 0 (length f.bytes) e.holds.room));
      under = e.under;
      agrees = agrees mask bytes l (frozen-stands f l e.holds);
    }

-- ---- run lists

new-ready : (serial n : ℕ) (buf : List ℕ) → n ≤ limit → frozen_size n ≤ length buf
    → Ready (filling (builder_under serial 0 0 0) buf) [] n
new-ready serial n buf h g =
    record {
      holds = new-holds serial buf;
      room = record { short = omega arith; low = (new-holds serial buf).room.low; few = omega arith; holds = omega arith };
    }

in-runs : (n : ℕ) (rs : List Run) (l : List Bool) → HasRuns n rs l → RunsIn n 0 rs
in-runs n rs l h = subst (RunsIn n 0) h.runs (runs-in 0 n l (omega (arith, h.long)))

saves : (n : ℕ) (rs : List Run) (l : List Bool) → HasRuns n rs l → n ≤ limit → (serial : ℕ) (leaves : ℕ → Bool) (buf : List ℕ)
    → frozen_size n ≤ length buf → Saves serial l buf (saving_from leaves n 0 rs)
saves n rs l h short serial leaves buf large =
    let same : n ≡ n - 0 = omega arith in
    let begun : Filling = filling (builder_under serial 0 0 0) buf in
    saved serial l buf (saving_from leaves n 0 rs)
    (saves-from (in-runs n rs l h) leaves 0 (omega arith) (omega arith) begun [] l
    (subst (Ready begun []) same (new-ready serial n buf short large)) (laid_same n rs l h))

-- ---- masks

module _ (m : Bitmap) (bytes : List ℕ) (ok : first_failed (mask_checks m bytes) ≡ 0) where
  listed : (k : ℕ) → m.length < k → runs_shown k m bytes ≡ Some (runs_from 0 (mask_flags m bytes))
  unfolding new_slices runs_left
  listed k h =
      let c = slices_at m.start m.length 0 in
      ap (runs_of k bytes) (sym (is-given 0 (first_failed (mask_checks m bytes)) tt c (sym ok) refl))
      ∙ ap Some (lists-runs bytes c (over-mask m bytes 0 ok (omega arith)) k (omega arith))

  in_bytes : first_failed (span_checks m.start m.length (length bytes)) ≡ 0
  unfolding mask_checks
  in_bytes = both_left (span_checks m.start m.length (length bytes)) (check 3 (count_valid m bytes) ∷ []) ok

  has : HasRuns m.length (runs_from 0 (mask_flags m bytes)) (mask_flags m bytes)
  has = record { long = length-window (flags_of bytes) m.start m.length; runs = refl }

  rebuilt-saves : (serial : ℕ) (leaves : ℕ → Bool) (buf : List ℕ) → frozen_size m.length ≤ length buf
      → Saves serial (mask_flags m bytes) buf (saving_from leaves m.length 0 (runs_from 0 (mask_flags m bytes)))
  rebuilt-saves serial leaves buf large =
      saves m.length (runs_from 0 (mask_flags m bytes)) (mask_flags m bytes) has
      (span-allowed m.start m.length (length bytes) in_bytes).short serial leaves buf large

  stands : Stands m bytes (mask_flags m bytes)
  stands = record { sound = mask-sound m bytes ok; flags = refl }

  rebuilt : Rebuilt m bytes
  rebuilt =
      record {
        runs = runs_from 0 (mask_flags m bytes);
        listed = listed;
        saved = rebuilt-saves;
        alike = λ serial leaves buf large.
            let s = rebuilt-saves serial leaves buf large in
            both-agree m s.mask bytes s.bytes (mask_flags m bytes) (agrees m bytes (mask_flags m bytes) stands) s.agrees;
      }

-- ---- the theorem

pub run-lists : RunLists
run-lists =
    record {
      such = λ l. in-tests (length l) (runs_from 0 l) (runs-in 0 (length l) l (omega arith));
      one = λ n rs h. (laid_out 0 n rs, laid-has n rs (run-by-run n rs h));
      only = λ n rs l l' h h'. sym (laid_same n rs l h) ∙ laid_same n rs l' h';
      saves = λ n rs l h short serial leaves buf large. saves n rs l h short serial leaves buf (omega arith);
      rebuilt = rebuilt;
    }

-- The flags of whole bytes as a mask, and its runs counted one by one.
use Rattle.std.specs.Prelude.{Option, Some, None, Result, Ok, IfOk, is_some, is_ok}
use mathlib.Core.Path.{◌≡◌, refl, sym, ap, ◌∙◌}
use mathlib.Core.Bool.{Bool, true, false, cond}
use mathlib.Core.List.{List}
use Prim.Native.Nat.{ℕ, ◌+◌, ◌*◌, ◌≤◌, ◌<◌}
use native.Mathlib.Omega.{arith}
use lib.Dec.{ltb}
use lib.ListN.{length}
use borrow.Author.Tests.{ltb-true}
use Rattle.std.proofs.lemmas.Result.{IfOk-at_ok}
use Rattle.words.specs.Flags.{flags_of, window}
use Rattle.words.specs.Loops.{stretch}
use Rattle.words.proofs.flags.Bytes.{length-flags}
use Rattle.words.proofs.flags.Windows.{length-window, window-all}
use Rattle.masks.specs.Checks.{first_failed, limit}
use Rattle.masks.specs.Compare.{edges}
use Rattle.masks.specs.Cursor.{Step, item, ended, step_of}
use Rattle.masks.specs.Iterator.{leading_from}
use Rattle.masks.proofs.statements.Listing.{listed, runs_left}
use Rattle.masks.specs.Mask.{mask_checks, mask_flags, mask_of, zero_count}
use Rattle.masks.specs.Refusal.{failure_back}
use Rattle.masks.specs.SliceIterator.{run_checks, run_of, runs_from, run_start, slices_at, slice_step}
use Rattle.masks.specs.Utils.{zeros}
use Rattle.masks.specs.declared.bitmap.Bitmap.{Bitmap}
use Rattle.masks.specs.declared.cursor.Step.{Step as Stepped}
use Rattle.masks.specs.declared.refusal.Refused.{Refused}
use Rattle.masks.specs.declared.slice_iterator.Run.{Run}
use Rattle.masks.specs.declared.slice_iterator.SlicesIterator.{SlicesIterator}
use Rattle.masks.proofs.theorems.Accepted.{mask-accepted}
use Rattle.masks.proofs.checks.CheckLaws.{when-gt, when-le}
use Rattle.masks.proofs.refusal.ClauseLaws.{accepted_back}
use Rattle.masks.proofs.cursor.CursorLaws.{cursor-allowed, over-mask}
use Rattle.masks.proofs.theorems.RunsPlain.{first_run_lem, next-lists}
use Rattle.report.specs.Numbers.{most, numbers_of, report_of}
use Rattle.report.specs.declared.numbers.Numbers.{Numbers}

-- ---- whole bytes as a mask

pub whole-flags : (bytes : List ℕ) (n : ℕ) → n ≡ 8 * length bytes → window (flags_of bytes) 0 n ≡ flags_of bytes
whole-flags bytes n e = ap (window (flags_of bytes) 0) (e ∙ sym (length-flags bytes)) ∙ window-all (flags_of bytes)

pub whole-accepted : (bytes : List ℕ) (n : ℕ) → length bytes ≤ 65536 → n ≡ 8 * length bytes
    → first_failed (mask_checks (mask_of 0 n None) bytes) ≡ 0
whole-accepted bytes n h e = sym (mask-accepted (mask_of 0 n None) bytes (omega arith) (omega arith) (omega arith) tt)

-- ---- the two answers

pub too_long : (bytes : List ℕ) → most < length bytes → None ≡ report_of bytes
unfolding report_of
too_long bytes h = when-gt (length bytes) most (Some (numbers_of (flags_of bytes))) None h

pub numbers-given : (bytes : List ℕ) (n z e r : ℕ) → length bytes ≤ most → n ≡ 8 * length bytes → z ≡ zero_count (mask_of 0 n None) bytes
    → e ≡ edges (mask_flags (mask_of 0 n None) bytes) → r ≡ length (runs_from 0 (mask_flags (mask_of 0 n None) bytes))
    → Some (record { flags = n; zeros = z; edges = e; runs = r }) ≡ report_of bytes
unfolding report_of zero_count
numbers-given bytes n z e r h size p q s =
    let flags = whole-flags bytes n size in
    let count : n ≡ length (flags_of bytes) = size ∙ sym (length-flags bytes) in
    let zero : z ≡ zeros (flags_of bytes) = p ∙ ap zeros flags in
    let edge : e ≡ edges (flags_of bytes) = q ∙ ap edges flags in
    let run : r ≡ length (runs_from 0 (flags_of bytes)) = s ∙ ap (λ (l : List Bool). length (runs_from 0 l)) flags in
    same_numbers count zero edge run ∙ when-le (length bytes) most (Some (numbers_of (flags_of bytes))) None h
  where
    same_numbers : {n n' z z' e e' r r' : ℕ} → n ≡ n' → z ≡ z' → e ≡ e' → r ≡ r'
        → ◌≡◌ {A = Option Numbers} (Some (record { flags = n; zeros = z; edges = e; runs = r }))
        (Some (record { flags = n'; zeros = z'; edges = e'; runs = r' }))
    same_numbers a b c d = cc

-- ---- a cursor over the flags of a mask, on its way

-- `runs` runs have been passed, and the rest begin at the cursor's place or after it
pub record RunsCounted (m : Bitmap) (bytes : List ℕ) (c : SlicesIterator) (runs : ℕ) : Type 0 where
  pub over : c ≡ slices_at m.start m.length c.place
  pub reached : c.place ≤ m.length
  pub few : runs ≤ c.place
  pub sum : runs + length (runs_left (mask_flags m bytes) c.place) ≡ length (runs_from 0 (mask_flags m bytes))

pub none-counted : (m : Bitmap) (bytes : List ℕ) (c : SlicesIterator) → c ≡ slices_at m.start m.length 0 → RunsCounted m bytes c 0
unfolding runs_left
none-counted m bytes c e =
    let at : c.place ≡ 0 = ap (λ (d : SlicesIterator). d.place) e in
    record {
      over = e ∙ ap (slices_at m.start m.length) (sym at);
      reached = omega (arith, at);
      few = omega arith;
      sum = omega (arith, ap (λ (p : ℕ). length (runs_left (mask_flags m bytes) p)) at);
    }

some-of : (i : Option Run) → is_some i ≡ true → (r : Run) × (i ≡ Some r)
some-of (Some r) h = (r, refl)
some-of None h = absurd (let z : ◌≡◌ {A = ℕ} 0 1 = cc in omega arith)

none-of : (i : Option Run) → is_some i ≡ false → i ≡ None
none-of (Some r) h = absurd (let z : ◌≡◌ {A = ℕ} 0 1 = cc in omega arith)
none-of None h = refl

step-next : (t : Bool) (r s : Run) (c d e : SlicesIterator) → item r c ≡ cond t (item s d) (ended e) → (t ≡ true) × (c ≡ d)
step-next true r s c d e p = (refl, cc)
step-next false r s c d e p = absurd (let z : ◌≡◌ {A = ℕ} 0 1 = cc in omega arith)

module _ (m : Bitmap) (bytes : List ℕ) (c : SlicesIterator) (runs : ℕ)
    (readable : first_failed (mask_checks m bytes) ≡ 0) (a : RunsCounted m bytes c runs) where
  flags-length : length (mask_flags m bytes) ≡ m.length
  flags-length = length-window (flags_of bytes) m.start m.length

  -- the step of the next call
  step : Step SlicesIterator Run
  step = slice_step (slices_at m.start m.length c.place) (mask_flags m bytes)

  next-passes : first_failed (run_checks c bytes) ≡ 0
  next-passes = ap (λ (d : SlicesIterator). first_failed (run_checks d bytes)) a.over ∙ over-mask m bytes c.place readable a.reached

  next-step : slice_step c (stretch bytes c.start c.length) ≡ step
  unfolding step
  next-step = ap (λ (d : SlicesIterator). slice_step d (stretch bytes d.start d.length)) a.over

  -- a run, and the cursor just past it
  moved : (r : Run) (d : SlicesIterator) → item r d ≡ step
      → (d ≡ slices_at m.start m.length d.place) × (c.place < d.place) × (d.place ≤ m.length)
  unfolding slice_step step
  moved r d e =
      let l = mask_flags m bytes in
      let first = run_start l c.place in
      let n = leading_from true l first in
      let seen =
      step-next (ltb first m.length) r (run_of first n) d
      (slices_at m.start m.length (first + n)) (slices_at m.start m.length m.length) e in
      let run = first_run_lem l c.place (omega (arith, ltb-true first m.length seen.0, flags-length)) in
      let at : d.place ≡ first + n = ap (λ (f : SlicesIterator). f.place) seen.1 in
      (seen.1 ∙ ap (slices_at m.start m.length) (sym at), omega (arith, run.after, run.some), omega (arith, run.inside, flags-length))

  -- the runs left at the cursor are those of the step
  left-listed : (s : Step SlicesIterator Run) → s ≡ step
      → length (runs_left (mask_flags m bytes) c.place) ≡ length (listed (mask_flags m bytes) s)
  unfolding step
  left-listed s e =
      ap length (next-lists (slices_at m.start m.length c.place) (mask_flags m bytes) flags-length
      ∙ ap (listed (mask_flags m bytes)) (sym e))

  pub ok-next : (x : Result (Stepped Run SlicesIterator) (Refused SlicesIterator)) → failure_back x ≡ first_failed (run_checks c bytes)
      → is_ok x ≡ true
  ok-next x e = accepted_back x (e ∙ next-passes)

  -- what `next` ensures of its step
  abbrev pub Steps : Stepped Run SlicesIterator → Type 0
  Steps s = step_of s.item s.cursor ≡ slice_step c (stretch bytes c.start c.length)

  given-step : (x : Result (Stepped Run SlicesIterator) (Refused SlicesIterator)) (s : Stepped Run SlicesIterator) (i : Option Run)
      → IfOk x Steps → x ≡ Ok s → s.item ≡ i → step_of i s.cursor ≡ step
  given-step x s i e o h = ap (λ (j : Option Run). step_of j s.cursor) (sym h) ∙ IfOk-at_ok Steps o e ∙ next-step

  -- one more run is passed, and all can still be counted
  pub run-passed : (x : Result (Stepped Run SlicesIterator) (Refused SlicesIterator)) (s : Stepped Run SlicesIterator)
      → IfOk x Steps → x ≡ Ok s → is_some s.item ≡ true
      → RunsCounted m bytes s.cursor (runs + 1) × (c.place < s.cursor.place) × (runs + 1 ≤ limit)
  run-passed x s e o h =
      let there = some-of s.item h in
      let taken = given-step x s (Some there.0) e o there.1 in
      let ahead = moved there.0 s.cursor taken in
      let left = left-listed (item there.0 s.cursor) taken in
      let counted : RunsCounted m bytes s.cursor (runs + 1) =
      record { over = ahead.0; reached = ahead.2; few = omega (arith, a.few, ahead.1); sum = omega (arith, a.sum, left) } in
      let short = (cursor-allowed _ _ _ _ (over-mask m bytes c.place readable a.reached)).short in
      (counted, ahead.1, omega (arith, a.few, ahead.1, ahead.2, short))

  pub no_run : (x : Result (Stepped Run SlicesIterator) (Refused SlicesIterator)) (s : Stepped Run SlicesIterator)
      → IfOk x Steps → x ≡ Ok s → is_some s.item ≡ false → runs ≡ length (runs_from 0 (mask_flags m bytes))
  no_run x s e o h = let left = left-listed (ended s.cursor) (given-step x s None e o (none-of s.item h)) in omega (arith, a.sum, left)

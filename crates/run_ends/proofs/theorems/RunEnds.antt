-- The statements of `proofs/statements/RunEnds.antt`, proved: what an accepted call writes as lists, and the theorem on lists.
use Rattle.std.proofs.Common.{◌≡◌, refl, sym, ap, ap₂, ◌∙◌, ℕ, suc, ◌<◌, ◌≤◌, ℤ, pos, Bool, true, false, not, List, []}
use Rattle.std.proofs.Common.{◌∷◌, length, take, get_or, Some, arith, subst}
use Rattle.std.proofs.lemmas.Bool.{and_parts}
use borrow.Author.Tests.{eq-eqb, eqb-true, le-leb, leb-true}
use Rattle.words.specs.Flags.{flags_of, over}
use Rattle.words.proofs.flags.Windows.{length-window, length_over, over_none}
use Rattle.words.proofs.theorems.Plain.{at-after, at-over}
use Rattle.masks.specs.Checks.{Check, earlier, first_failed, limit, output_checks}
use Rattle.masks.specs.Frozen.{frozen, frozen_size, packed, with_frozen}
use Rattle.masks.specs.Mask.{mask_checks, mask_flags, mask_under, written_mask}
use Rattle.masks.specs.declared.bitmap.Bitmap.{Bitmap}
use Rattle.masks.specs.equations.Answer.{given}
use Rattle.masks.proofs.checks.CheckLaws.{both_right, check-allowed, first-allowed, is-given, passed-before, rest-allowed}
use Rattle.masks.proofs.theorems.Accepted.{mask-accepted}
use Rattle.masks.proofs.theorems.FrozenPlain.{frozen-plain}
use Rattle.masks.proofs.theorems.SliceTruth.{none_true}
use Rattle.masks.proofs.theorems.WrittenLaws.{accepted, as-long, frozen-window, new-if, old-if, take-over}
use Rattle.run_ends.specs.Read.{flags_read, read_checks}
use Rattle.run_ends.specs.Rules.{ends_hold}
use Rattle.run_ends.specs.Write.{run_count, run_flags, write_checks, written_ends}
use Rattle.run_ends.specs.equations.Read.{from_run_ends_bytes, from_run_ends_of}
use Rattle.run_ends.specs.equations.Write.{to_run_ends_bytes, to_run_ends_ends, to_run_ends_of}
use Rattle.run_ends.proofs.read.FlagLaws.{length-from}
use Rattle.run_ends.proofs.statements.RunEnds.{EachRunEnds, RunEnds, RunEndsKept, Wrote, ends_after, out_after}
use Rattle.run_ends.proofs.theorems.RunLists.{run_lists}
use Rattle.run_ends.proofs.write.CheckLaws.{write-allowed}
use Rattle.run_ends.proofs.write.RunFlags.{few-runs}

-- ---- an encoding whose checks pass is read

-- the checks of a list of n flags in an output of `size` bytes, by facts on each
passes : (es : List ℤ) (v : Bitmap) (b : List ℕ) (n size : ℕ) → 0 ≡ first_failed (mask_checks v b) → n ≤ limit → ends_hold n es ≡ true
    → length es ≡ v.length → frozen_size n ≤ size → 0 ≡ first_failed (read_checks es v b n size)
unfolding read_checks output_checks first_failed earlier
passes es v b n size mask short holds paired room =
    passed-before (mask_checks v b) _ 0 0 mask refl
    (rw (le-leb n limit short, holds, eq-eqb (length es) v.length paired, le-leb (frozen_size n) size room) refl)

reads : (es : List ℤ) (v : Bitmap) (b : List ℕ) (n size : ℕ) → 0 ≡ first_failed (mask_checks v b) → n ≤ limit → ends_hold n es ≡ true
    → length es ≡ v.length → frozen_size n ≤ size → given (written_mask v n) ≡ from_run_ends_of es v b n size
unfolding from_run_ends_of
reads es v b n size mask short holds paired room =
    is-given 0 _ tt (written_mask v n) (passes es v b n size mask short holds paired room) refl

-- what follows if they pass
pub record ReadAllowed (es : List ℤ) (v : Bitmap) (b : List ℕ) (n size : ℕ) : Type 0 where
  pub short : n ≤ limit
  pub holds : ends_hold n es ≡ true
  pub paired : length es ≡ v.length
  pub room : frozen_size n ≤ size

read-allowed : (es : List ℤ) (v : Bitmap) (b : List ℕ) (n size : ℕ) → first_failed (read_checks es v b n size) ≡ 0
    → ReadAllowed es v b n size
unfolding read_checks output_checks
read-allowed es v b n size e =
    let rest = both_right (mask_checks v b) _ e in
    let after = rest-allowed _ _ rest in
    let runs = and_parts _ _ (first-allowed 12 _ _ after) in
    record {
      short = leb-true _ _ (first-allowed 0 _ _ rest);
      holds = runs.0;
      paired = eqb-true _ _ runs.1;
      room = leb-true _ _ (check-allowed 8 _ (rest-allowed _ _ after));
    }

-- what an accepted call wrote
read-is : (es : List ℤ) (v : Bitmap) (b : List ℕ) (n : ℕ) (r : Bitmap) (into : List ℕ)
    → given r ≡ from_run_ends_of es v b n (length into)
    → (r ≡ written_mask v n) × (ReadAllowed es v b n (length into)
    × (mask_flags r (from_run_ends_bytes es v b n into) ≡ flags_read es (mask_flags v b) n))
unfolding from_run_ends_of from_run_ends_bytes
read-is es v b n r into e =
    let cs = read_checks es v b n (length into) in
    let a = accepted cs tt (written_mask v n) r e in
    let ok = read-allowed es v b n (length into) a.0 in
    let l = flags_read es (mask_flags v b) n in (
      a.1,
      (
        ok,
        ap₂ (λ (x : Bitmap) (c : List ℕ). mask_flags x c) a.1 (new-if cs tt (written_mask v n) r (with_frozen into l) into e)
            ∙ frozen-window into l n (length-from es (mask_flags v b) 0 n) ok.room,
      ),
    )

frozen-none : frozen [] ≡ []
unfolding frozen packed
frozen-none = refl

-- ---- an accepted call that writes

module _ (m : Bitmap) (bytes : List ℕ) (ends : List ℤ) (out : List ℕ) (v : Bitmap) (e : Wrote m bytes ends out v) where
  abbrev l : List Bool
  l = mask_flags m bytes

  abbrev cs : List Check
  cs = write_checks m bytes (length ends) (length out)

  abbrev es : List ℤ
  es = ends_after m bytes ends out

  abbrev new : List ℕ
  new = out_after m bytes ends out

  both : (first_failed cs ≡ 0) × (v ≡ written_mask m (run_count m bytes))
  unfolding to_run_ends_of
  both = accepted cs tt (written_mask m (run_count m bytes)) v e

  runs : v.length ≡ length (run_flags l)
  runs = ap (λ (x : Bitmap). x.length) both.1

  long : length l ≡ m.length
  long = length-window (flags_of bytes) m.start m.length

  ends-are : es ≡ over ends (written_ends l)
  unfolding to_run_ends_of to_run_ends_ends
  ends-are = new-if cs tt (written_mask m (run_count m bytes)) v (over ends (written_ends l)) ends e

  bytes-are : new ≡ with_frozen out (run_flags l)
  unfolding to_run_ends_of to_run_ends_bytes
  bytes-are = new-if cs tt (written_mask m (run_count m bytes)) v (with_frozen out (run_flags l)) out e

  ends-front : take v.length es ≡ written_ends l
  ends-front =
      let ok = write-allowed m bytes (length ends) (length out) both.0 in
      ap (take v.length) ends-are
      ∙ take-over ends (written_ends l) v.length (sym (run_lists.paired l) ∙ sym runs) (omega (arith, runs, ok.fits))

  values : mask_flags v new ≡ run_flags l
  values =
      let ok = write-allowed m bytes (length ends) (length out) both.0 in
      ap₂ (λ (x : Bitmap) (c : List ℕ). mask_flags x c) both.1 bytes-are
      ∙ frozen-window out (run_flags l) (run_count m bytes) refl ok.room

  values-accepted : 0 ≡ first_failed (mask_checks v new)
  values-accepted =
      let ok = write-allowed m bytes (length ends) (length out) both.0 in
      let w = written_mask m (run_count m bytes) in
      let few = few-runs l in
      subst (λ (x : Bitmap). 0 ≡ first_failed (mask_checks x new)) (sym both.1)
      (mask-accepted w new (omega arith) (omega (arith, few, ok.short, long))
      (omega (arith, ok.room, ap length bytes-are, length_over out (frozen (run_flags l))))
      (none_true (run_count m bytes) (mask_flags w new) (length-window (flags_of new) 0 (run_count m bytes))))

  ends-count : length (written_ends l) ≡ v.length
  ends-count = sym (run_lists.paired l) ∙ sym runs

  values-count : frozen_size v.length ≡ length (frozen (run_flags l))
  values-count = ap frozen_size runs ∙ sym (frozen-plain.size (run_flags l))

  values-front : take (frozen_size v.length) new ≡ frozen (run_flags l)
  values-front =
      let ok = write-allowed m bytes (length ends) (length out) both.0 in
      ap (take (frozen_size v.length)) bytes-are
      ∙ take-over out (frozen (run_flags l)) (frozen_size v.length) (sym values-count) (omega (arith, ap frozen_size runs, ok.room))

  short : m.length ≤ limit
  short = (write-allowed m bytes (length ends) (length out) both.0).short

  -- end k of those written
  end-is : (k : ℕ) → k < v.length → get_or es k (pos 0) ≡ get_or (written_ends l) k (pos 0)
  end-is k h =
      let ok = write-allowed m bytes (length ends) (length out) both.0 in
      ap (λ (t : List ℤ). get_or t k (pos 0)) ends-are
      ∙ at-over ends (written_ends l) k (pos 0) (omega (arith, ends-count)) (omega (arith, runs, ok.fits))

  read-back : (size : ℕ) → frozen_size m.length ≤ size
      → given (written_mask v m.length) ≡ from_run_ends_of (take v.length es) v new m.length size
  read-back size room =
      subst (λ (x : List ℤ). given (written_mask v m.length) ≡ from_run_ends_of x v new m.length size) (sym ends-front)
      (reads (written_ends l) v new m.length size values-accepted short
      (ap (λ (n : ℕ). ends_hold n (written_ends l)) (sym long) ∙ run_lists.holds l) ends-count room)

  back-is : (r : Bitmap) (into : List ℕ) → given r ≡ from_run_ends_of (take v.length es) v new m.length (length into)
      → (mask_flags r (from_run_ends_bytes (take v.length es) v new m.length into) ≡ l) × (r.serial ≡ m.serial)
  back-is r into p =
      let a = read-is (take v.length es) v new m.length r into p in (
        a.1.1 ∙ ap₂ (λ (x : List ℤ) (y : List Bool). flags_read x y m.length) ends-front values
            ∙ ap (flags_read (written_ends l) (run_flags l)) (sym long) ∙ run_lists.back l,
        ap (λ (x : Bitmap). x.serial) a.0 ∙ ap (λ (x : Bitmap). x.serial) both.1,
      )

  last-is : (k : ℕ) → v.length ≡ suc k → get_or es k (pos 0) ≡ pos m.length
  last-is k h = end-is k (omega arith) ∙ run_lists.last l k (ends-count ∙ h) ∙ ap pos long

  some-is : 0 < m.length → 0 < v.length
  some-is h = omega (arith, run_lists.some l (omega (arith, long)), ends-count)

  between-is : (k : ℕ) → suc k < v.length
      → (p : ℕ) × ((get_or es k (pos 0) ≡ pos (suc p)) × ((suc p < m.length) × (get_or l (suc p) false ≡ not (get_or l p false))))
  between-is k h =
      let b = run_lists.between l k (omega (arith, ends-count)) in
      (b.0, (end-is k (omega arith) ∙ b.1.0, (omega (arith, b.1.1.0, long), b.1.1.1)))

  nothing-is : m.length ≡ 0 → (v ≡ mask_under m.serial 0 0 (Some 0)) × ((es ≡ ends) × (new ≡ out))
  nothing-is z =
      let none : l ≡ [] = no-flags l (long ∙ z) in (
        both.1 ∙ ap (λ (t : List Bool). written_mask m (length (run_flags t))) none
            ∙ ap (λ (t : List Bool). written_mask m (length t)) run_lists.no_flags,
        (
          ends-are ∙ ap (λ (t : List Bool). over ends (written_ends t)) none ∙ ap (over ends) run_lists.no_ends ∙ over_none ends,
          bytes-are ∙ ap (λ (t : List Bool). with_frozen out (run_flags t)) none
              ∙ ap (λ (t : List Bool). with_frozen out t) run_lists.no_flags ∙ ap (over out) frozen-none ∙ over_none out,
        ),
      )
    where
      no-flags : (t : List Bool) → length t ≡ 0 → t ≡ []
      no-flags [] q = refl
      no-flags (x ∷ t) q = absurd (omega arith)

  fewest-is : (other : List ℤ) (w : Bitmap) (lent : List ℕ) (n : ℕ) (r : Bitmap) (into : List ℕ)
      → given r ≡ from_run_ends_of other w lent n (length into)
      → mask_flags r (from_run_ends_bytes other w lent n into) ≡ l → v.length ≤ length other
  fewest-is other w lent n r into p q =
      let a = read-is other w lent n r into p in
      let same : flags_read other (mask_flags w lent) n ≡ l = sym a.1.1 ∙ q in
      let least =
      run_lists.fewest other (mask_flags w lent) n a.1.0.holds
      (length-window (flags_of lent) w.start w.length ∙ sym a.1.0.paired) in
      omega (arith, least, ap (λ (t : List Bool). length (written_ends t)) same, ends-count)

  later-ends : (k : ℕ) (d : ℤ) → v.length ≤ k → get_or es k d ≡ get_or ends k d
  later-ends k d h = ap (λ (t : List ℤ). get_or t k d) ends-are ∙ at-after ends (written_ends l) k d (omega (arith, ends-count))

  later-bytes : (k : ℕ) → frozen_size v.length ≤ k → get_or new k 0 ≡ get_or out k 0
  later-bytes k h =
      ap (λ (t : List ℕ). get_or t k 0) bytes-are ∙ at-after out (frozen (run_flags l)) k 0 (omega (arith, values-count))

-- ---- the statements

each-written : (m : Bitmap) (bytes : List ℕ) (ends : List ℤ) (out : List ℕ) (v : Bitmap) → Wrote m bytes ends out v
    → RunEnds m bytes ends out v
each-written m bytes ends out v e =
    record {
      read = read-back m bytes ends out v e;
      back = back-is m bytes ends out v e;
      last_end = last-is m bytes ends out v e;
      some_end = some-is m bytes ends out v e;
      between = between-is m bytes ends out v e;
      nothing = nothing-is m bytes ends out v e;
      alike = λ m' bytes' ends' out' v' e' q. (
        runs m bytes ends out v e ∙ ap (λ (l : List Bool). length (run_flags l)) q ∙ sym (runs m' bytes' ends' out' v' e'),
        (
          ends-front m bytes ends out v e ∙ ap written_ends q ∙ sym (ends-front m' bytes' ends' out' v' e'),
          values-front m bytes ends out v e ∙ ap (λ (l : List Bool). frozen (run_flags l)) q
              ∙ sym (values-front m' bytes' ends' out' v' e'),
        ),
      );
      fewest = fewest-is m bytes ends out v e;
      later_ends = later-ends m bytes ends out v e;
      later_bytes = later-bytes m bytes ends out v e;
    }

each-kept : (m : Bitmap) (bytes : List ℕ) (ends : List ℤ) (out : List ℕ) → RunEndsKept m bytes ends out
unfolding to_run_ends_of to_run_ends_ends to_run_ends_bytes
each-kept m bytes ends out =
    let cs = write_checks m bytes (length ends) (length out) in
    let v = written_mask m (run_count m bytes) in
    let new_ends = over ends (written_ends (mask_flags m bytes)) in
    let new_out = with_frozen out (run_flags (mask_flags m bytes)) in
    record {
      ends_long = as-long (first_failed cs) new_ends ends (length_over ends (written_ends (mask_flags m bytes)));
      out_long = as-long (first_failed cs) new_out out (length_over out (frozen (run_flags (mask_flags m bytes))));
      ends_refused = λ number e. old-if cs tt v number tt new_ends ends e;
      out_refused = λ number e. old-if cs tt v number tt new_out out e;
    }

pub run_ends : EachRunEnds
run_ends = record { written = each-written; kept = each-kept }

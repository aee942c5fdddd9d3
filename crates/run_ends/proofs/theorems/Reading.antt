-- The statements of `proofs/statements/Reading.antt`: the flags that are written are those read, each that of its first run.
use Rattle.std.proofs.Common.{◌≡◌, refl, sym, ap, ap₂, ◌∙◌, ℕ, zero, suc, ◌+◌, ◌*◌, ◌/◌, ◌<◌, ◌≤◌, ℤ, Bool, true, false, ◌⊎◌, inl, inr}
use Rattle.std.proofs.Common.{List, [], ◌∷◌, length, get_or, arith}
use Rattle.std.proofs.lemmas.Bool.{and_parts, cases_lt}
use borrow.Author.Tests.{eq-eqb, le-leb, le-ltb, leb-true, lt-ltb, ltb-true}
use Rattle.words.specs.Flags.{flags_of}
use Rattle.words.proofs.flags.Windows.{length-window, length_over}
use Rattle.words.proofs.theorems.Plain.{at-after}
use Rattle.masks.specs.Checks.{check, earlier, first_failed, limit, output_checks, within_limit}
use Rattle.masks.specs.Frozen.{frozen, frozen_size, with_frozen}
use Rattle.masks.specs.Mask.{mask_checks, mask_flags, written_mask}
use Rattle.masks.specs.declared.bitmap.Bitmap.{Bitmap}
use Rattle.masks.specs.equations.Answer.{given}
use Rattle.masks.proofs.checks.CheckLaws.{is-given, passed-before}
use Rattle.masks.proofs.theorems.Accepted.{mask-accepted}
use Rattle.masks.proofs.theorems.FrozenPlain.{frozen-plain}
use Rattle.masks.proofs.theorems.SliceTruth.{none_true}
use Rattle.masks.proofs.theorems.WrittenLaws.{accepted, as-before, as-long, frozen-window, new-if, old-if}
use Rattle.run_ends.specs.Read.{flag_at, flags_read, read_checks}
use Rattle.run_ends.specs.Rules.{end_of, ends_hold, ends_of, rising_to, runs_hold}
use Rattle.run_ends.specs.equations.Read.{from_run_ends_bytes, from_run_ends_of}
use Rattle.run_ends.proofs.read.CheckLaws.{read-allowed}
use Rattle.run_ends.proofs.read.FlagLaws.{at-read, flag-first, flag-later, length-from}
use Rattle.run_ends.proofs.statements.Reading.{FirstAbove, Reached, ReadPlain, Reading, Rising, end_at}

-- ---- the rules

rising-all : (n last : ℕ) (e : ℤ) (es : List ℤ) → last < end_of e → Rising (e ∷ es) → Reached n (e ∷ es)
    → rising_to n last (ends_of (e ∷ es)) ≡ true
unfolding rising_to
rising-all n last e [] above r far = rw (lt-ltb last (end_of e) above) (le-leb n (end_of e) far)
rising-all n last e (d ∷ es) above r far =
    rw (lt-ltb last (end_of e) above)
    (rising-all n (end_of e) d es (r.rises 0 (omega arith))
    (record { positive = λ k h. r.positive (suc k) (omega arith); rises = λ k h. r.rises (suc k) (omega arith) }) far)

all-rising : (n last : ℕ) (e : ℤ) (es : List ℤ) → rising_to n last (ends_of (e ∷ es)) ≡ true
    → (last < end_of e) × (Rising (e ∷ es) × Reached n (e ∷ es))
unfolding rising_to
all-rising n last e [] h =
    let p = and_parts _ _ h in
    let up = ltb-true last (end_of e) p.0 in (
      up,
      (
        record {
          positive = λ k q. first k q up;
          rises = λ k q. absurd (omega arith);
        },
        leb-true n (end_of e) p.1,
      ),
    )
  where
    first : (k : ℕ) → k < length (e ∷ []) → last < end_of e → 0 < end_at (e ∷ []) k
    first zero q up = omega arith
    first (suc k) q up = absurd (omega arith)
all-rising n last e (d ∷ es) h =
    let p = and_parts _ _ h in
    let up = ltb-true last (end_of e) p.0 in
    let rest = all-rising n (end_of e) d es p.1 in (
      up,
      (
        record {
          positive = λ k q. first k q up (rest.1.0);
          rises = λ k q. next k q rest.0 (rest.1.0);
        },
        rest.1.1,
      ),
    )
  where
    first : (k : ℕ) → k < length (e ∷ d ∷ es) → last < end_of e → Rising (d ∷ es) → 0 < end_at (e ∷ d ∷ es) k
    first zero q up r = omega arith
    first (suc k) q up r = r.positive k (omega arith)

    next : (k : ℕ) → suc k < length (e ∷ d ∷ es) → end_of e < end_of d → Rising (d ∷ es)
        → end_at (e ∷ d ∷ es) k < end_at (e ∷ d ∷ es) (suc k)
    next zero q up r = up
    next (suc k) q up r = r.rises k (omega arith)

rules-hold : (n : ℕ) (ends : List ℤ) → Rising ends → Reached n ends → ends_hold n ends ≡ true
unfolding ends_hold rising_to
rules-hold n [] r far = le-leb n 0 (omega (arith, far))
rules-hold n (e ∷ es) r far = rising-all n 0 e es (r.positive 0 (omega arith)) r far

rules-held : (n : ℕ) (ends : List ℤ) → ends_hold n ends ≡ true → Rising ends × Reached n ends
unfolding ends_hold rising_to
rules-held n [] h =
    (record { positive = λ k q. absurd (omega arith); rises = λ k q. absurd (omega arith) }, omega (arith, leb-true n 0 h))
rules-held n (e ∷ es) h = (all-rising n 0 e es h).1

-- ---- the first run whose end is above a position

pub first-above : (ends : List ℤ) (values : List Bool) (p k : ℕ) → length values ≡ length ends → FirstAbove ends p k
    → flag_at ends values p ≡ get_or values k false
first-above [] values p k h f = let i : k < 0 = f.inside in absurd (omega arith)
first-above (e ∷ es) [] p k h f = absurd (omega arith)
first-above (e ∷ es) (v ∷ vs) p zero h f = flag-first e es v vs p (lt-ltb p (end_of e) f.above)
first-above (e ∷ es) (v ∷ vs) p (suc k) h f =
    let i : suc k < suc (length es) = f.inside in
    flag-later e es v vs p (le-ltb p (end_of e) (f.before 0 (omega arith)))
    ∙ first-above es vs p k (omega arith)
    (record { inside = omega arith; above = f.above; before = λ j q. f.before (suc j) (omega arith) })

pub found-above : (n last p : ℕ) (ends : List ℤ) → rising_to n last (ends_of ends) ≡ true → p < n → last ≤ p
    → (k : ℕ) × FirstAbove ends p k
unfolding rising_to
found-above n last p [] h less low = absurd (omega (arith, leb-true n last h))
found-above n last p (e ∷ es) h less low =
    let q = and_parts _ _ h in
    by (cases_lt p (end_of e)) (λ low. found-above n (end_of e) p es q.1 less low)
  where
    before : (k : ℕ) → FirstAbove es p k → end_of e ≤ p → (j : ℕ) → j < suc k → end_at (e ∷ es) j ≤ p
    before k f low zero r = low
    before k f low (suc j) r = f.before j (omega arith)

    by : (p < end_of e) ⊎ (end_of e ≤ p) → (end_of e ≤ p → (k : ℕ) × FirstAbove es p k) → (k : ℕ) × FirstAbove (e ∷ es) p k
    by (inl above) rest = (0, record { inside = omega arith; above = above; before = λ j r. absurd (omega arith) })
    by (inr low) rest =
        let f = rest low in
        let i = f.1.inside in
        (suc f.0, record { inside = omega arith; above = f.1.above; before = before f.0 f.1 low })

-- ---- a call

module _ (ends : List ℤ) (m : Bitmap) (bytes : List ℕ) (n : ℕ) where
  abbrev l : List Bool
  l = flags_read ends (mask_flags m bytes) n

  is-read : (s : Bitmap) (out : List ℕ) → given s ≡ from_run_ends_of ends m bytes n (length out)
      → mask_flags s (from_run_ends_bytes ends m bytes n out) ≡ l
  unfolding from_run_ends_of from_run_ends_bytes
  is-read s out e =
      let cs = read_checks ends m bytes n (length out) in
      let a = accepted cs tt (written_mask m n) s e in
      let ok = read-allowed ends m bytes n (length out) a.0 in
      ap₂ (λ (x : Bitmap) (b : List ℕ). mask_flags x b) a.1 (new-if cs tt (written_mask m n) s (with_frozen out l) out e)
      ∙ frozen-window out l n (length-from ends (mask_flags m bytes) 0 n) ok.readable.room

  read_plain : ReadPlain ends m bytes n
  unfolding from_run_ends_of from_run_ends_bytes ends_hold
  read_plain =
      record {
        size = λ s size e.
            ap (λ (x : Bitmap). x.length) (accepted (read_checks ends m bytes n size) tt (written_mask m n) s e).1;
        in-run = λ s size p e h.
            let ok = read-allowed ends m bytes n size (accepted (read_checks ends m bytes n size) tt (written_mask m n) s e).0 in
            found-above n 0 p ends ok.readable.holds h (omega arith);
        flag = λ s out p k e h f.
            let cs = read_checks ends m bytes n (length out) in
            let ok = read-allowed ends m bytes n (length out) (accepted cs tt (written_mask m n) s e).0 in
            ap (λ (x : List Bool). get_or x p false) (is-read s out e) ∙ at-read ends (mask_flags m bytes) n p h
            ∙ first-above ends (mask_flags m bytes) p k (length-window (flags_of bytes) m.start m.length ∙ sym ok.paired) f;
        passes = λ s out e.
            let cs = read_checks ends m bytes n (length out) in
            let a = accepted cs tt (written_mask m n) s e in
            let ok = read-allowed ends m bytes n (length out) a.0 in
            let new = with_frozen out l in
            let long = length_over out (frozen l) in
            mask-accepted (written_mask m n) new (omega arith) ok.readable.short (omega (arith, long, ok.readable.room))
            (none_true n (mask_flags (written_mask m n) new) (length-window (flags_of new) 0 n))
            ∙ ap₂ (λ (x : Bitmap) (b : List ℕ). first_failed (mask_checks x b)) (sym a.1)
            (sym (new-if cs tt (written_mask m n) s new out e));
        later = λ out k h.
            as-before (first_failed (read_checks ends m bytes n (length out))) k (with_frozen out l) out 0 (λ z.
            let size = frozen-plain.size l in
            let same : frozen_size (length l) ≡ frozen_size n = ap frozen_size (length-from ends (mask_flags m bytes) 0 n) in
            at-after out (frozen l) k 0 (omega (arith, size, same)));
        unwritten = λ number out e. old-if (read_checks ends m bytes n (length out)) tt (written_mask m n) number tt _ out e;
        long = λ out.
            as-long (first_failed (read_checks ends m bytes n (length out))) (with_frozen out l) out (length_over out (frozen l));
      }

-- ---- calls that are accepted

all-accepted : (ends : List ℤ) (m : Bitmap) (bytes : List ℕ) (n size : ℕ) → first_failed (mask_checks m bytes) ≡ 0
    → ends_hold n ends ≡ true → length ends ≡ m.length → n ≤ limit → 8 * ((n + 63) / 64) ≤ size
    → given (written_mask m n) ≡ from_run_ends_of ends m bytes n size
unfolding from_run_ends_of read_checks output_checks first_failed earlier
all-accepted ends m bytes n size e holds paired short room =
    is-given 0 _ tt (written_mask m n)
    (passed-before (mask_checks m bytes) (within_limit n ∷ check 13 (runs_hold n ends m.length) ∷ output_checks n size) 0 0 (sym e) refl
    (rw (le-leb n limit short, holds, eq-eqb (length ends) m.length paired, le-leb (frozen_size n) size room) refl))
    refl

pub reading : Reading
reading =
    record {
      rules = record { hold = rules-hold; held = rules-held };
      calls = read_plain;
      none = λ m bytes size e z.
          all-accepted [] m bytes 0 size e
          (rules-hold 0 [] (record { positive = λ k q. absurd (omega arith); rises = λ k q. absurd (omega arith) }) refl) (sym z)
          (omega arith) (omega arith);
      empty = λ ends m bytes size e r p.
          all-accepted ends m bytes 0 size e (rules-hold 0 ends r (reached ends)) p (omega arith) (omega arith);
      all = λ ends m bytes n size e r far p short room.
          all-accepted ends m bytes n size e (rules-hold n ends r far) p short room;
    }
  where
    reached : (ends : List ℤ) → Reached 0 ends
    reached [] = refl
    reached (e ∷ es) = omega arith

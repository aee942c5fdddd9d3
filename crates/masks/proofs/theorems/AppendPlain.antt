-- What each append appends, flag by flag: the statements of `proofs/statements/AppendPlain.antt`.
use Rattle.std.proofs.lemmas.Bool.{cases_lt, and_parts}
use mathlib.Core.Path.{◌≡◌, refl, sym, ap, ap₂, ◌∙◌, subst}
use mathlib.Core.Bool.{Bool, true, false, cond, ◌&&◌}
use mathlib.Core.List.{List, [], ◌∷◌, ◌++◌}
use mathlib.Core.Logic.{⊎_elim}
use Prim.Native.Nat.{ℕ, zero, suc, ◌+◌, ◌-◌, ◌*◌, ◌/◌, ◌%◌, ◌≤◌, ◌<◌}
use native.Mathlib.Nat.{zero-mul, mul-zero, suc-mul, one-mul, add-mul-div_right, div-eq_of_lt, div-lt_iff_lt-mul}
use native.Mathlib.Numerals.{add-one}
use native.Mathlib.Omega.{arith}
use lib.Dec.{leb, ltb}
use lib.ListN.{length, get_or, take, get_or-append}
use lib.Seq.{get_or-append-add}
use borrow.Author.Tests.{ltb-true, lt-ltb, le-ltb}
use Rattle.words.specs.Flags.{bit_at, bits, copies, flag_at, flags_of, window}
use Rattle.words.specs.Loops.{stretch}
use Rattle.words.proofs.theorems.Plain.{at_bits, at-flags, at-stretch}
use Rattle.words.proofs.flags.Windows.{length-window, length-copies, at_copies, at_in, at_take, at-window}
use Rattle.masks.specs.equations.Answer.{given}
use Rattle.masks.proofs.statements.AppendPlain.{new_count, new_flag, builder_flag, AppendsPlainly, AppendPlain}
use Rattle.masks.specs.equations.Appends.{Append, push_flag, extend_constant, push_word, extend_slice, extend_repeated, extend_bitmap}
use Rattle.masks.specs.equations.Appends.{extend_gather}
use Rattle.masks.specs.Appends.{grow_checks, word_checks}
use Rattle.masks.specs.equations.Appends.{extend_opt_gather, append_checks, append_flags, append_answer, append_bytes}
use Rattle.masks.specs.Appends.{constant_checks, span_grow_checks, subslice_checks, inner_checks, gather_checks, all_below, gathered}
use Rattle.masks.specs.Appends.{repeated}
use Rattle.masks.specs.Builder.{filling, appended, builder_flags, in_progress, none_from}
use Rattle.masks.specs.Checks.{check, first_failed, within_limit, span_checks}
use Rattle.masks.specs.Mask.{mask_checks, mask_flags}
use Rattle.masks.specs.Workers.{Room}
use Rattle.masks.specs.declared.builder.BitmapBuilder.{BitmapBuilder}
use Rattle.masks.proofs.refusal.AnswerLaws.{given-number, given-value}
use Rattle.masks.proofs.checks.CheckLaws.{both_left, both_right, check-allowed, is-new}
use Rattle.masks.proofs.builder.GatherLaws.{length-gathered}
use Rattle.masks.proofs.utils.PartLaws.{length-low}
use Rattle.masks.proofs.builder.RepeatLaws.{length-repeated}
use Rattle.masks.proofs.builder.RoomLaws.{room_of, word-allowed, flags-after, length-then, inner-allowed, length-flags-of}

-- ---- lists, flag by flag

pub at-gathered : (l : List Bool) (idxs : List ℕ) (j : ℕ) → j < length idxs
    → get_or (gathered l idxs) j false ≡ get_or l (get_or idxs j 0) false
unfolding gathered
at-gathered l [] j h = absurd (omega arith)
at-gathered l (i ∷ idxs) zero h = refl
at-gathered l (i ∷ idxs) (suc j) h = at-gathered l idxs j (omega arith)

positive : (k m i : ℕ) → i < m * k → 0 < k
positive zero m i h = absurd (omega (arith, mul-zero m))
positive (suc k) m i h = omega arith

-- flag j of flags that are each repeated k times is flag j div k
pub at-repeated : (k : ℕ) (l : List Bool) (j : ℕ) → j < length l * k → get_or (repeated k l) j false ≡ get_or l (j / k) false
unfolding repeated
at-repeated k [] j h = absurd (omega (arith, zero-mul k))
at-repeated k (x ∷ l) j h = ⊎_elim
    (λ (q : j < k).
    get_or-append (copies k x) (repeated k l) false j (omega (arith, length-copies k x)) ∙ at_copies k x j q
    ∙ sym (ap (λ (n : ℕ). get_or (x ∷ l) n false) (div-eq_of_lt q)))
    (λ (q : k ≤ j).
    let rest : j - k < length l * k = omega (arith, suc-mul (length l) k) in
    let here : j ≡ length (copies k x) + (j - k) = omega (arith, length-copies k x) in
    let some : 0 < k = positive k (length l) (j - k) rest in
    let turn : j ≡ (j - k) + 1 * k = omega (arith, one-mul k) in
    let next : j / k ≡ suc ((j - k) / k) = ap (λ (n : ℕ). n / k) turn ∙ add-mul-div_right (j - k) 1 some ∙ add-one ((j - k) / k) in
    ap (λ (n : ℕ). get_or (copies k x ++ repeated k l) n false) here
    ∙ get_or-append-add (copies k x) (repeated k l) (j - k) false
    ∙ at-repeated k l (j - k) rest
    ∙ sym (ap (λ (n : ℕ). get_or (x ∷ l) n false) next))
    (cases_lt j k)

turn_inside : (j n k : ℕ) → j < n * k → j / k < n
turn_inside j n k h = (div-lt_iff_lt-mul (positive k n j h)).1 h

below_at : (n : ℕ) (idxs : List ℕ) (j : ℕ) → all_below n idxs ≡ true → j < length idxs → get_or idxs j 0 < n
unfolding all_below
below_at n [] j e h = absurd (omega arith)
below_at n (i ∷ idxs) zero e h = ltb-true i n (and_parts _ _ e).0
below_at n (i ∷ idxs) (suc j) e h = below_at n idxs j (and_parts _ _ e).1 (omega arith)

-- flag i of a span is the flag of the bytes, or 0 at or past the span's length
padded : (bytes : List ℕ) (start n i : ℕ) → get_or (stretch bytes start n) i false ≡ cond (ltb i n) (flag_at bytes (start + i)) false
padded bytes start n i =
    at-window (flags_of bytes) start n i ∙ go (ltb i n) ∙ ap (λ (x : Bool). cond (ltb i n) x false) (at-flags bytes (start + i))
  where
    go : (t : Bool) → (t && get_or (flags_of bytes) (start + i) false) ≡ cond t (get_or (flags_of bytes) (start + i) false) false
    go true = refl
    go false = refl

-- flag j of a builder is `builder_flag`
pub at-builder : (b : BitmapBuilder) (buf : List ℕ) (j : ℕ) → j < b.length
    → get_or (builder_flags (filling b buf)) j false ≡ builder_flag b buf j
unfolding builder_flags in_progress
at-builder b buf j h =
    let done : List Bool = window (flags_of buf) 0 (64 * (b.length / 64)) in
    let long : length done ≡ 64 * (b.length / 64) = length-window (flags_of buf) 0 (64 * (b.length / 64)) in
    ⊎_elim
    (λ (q : j < 64 * (b.length / 64)).
    let z : 0 + j ≡ j = omega arith in
    get_or-append done (in_progress b) false j (omega arith) ∙ at_in (flags_of buf) 0 (64 * (b.length / 64)) j q
    ∙ at-flags buf (0 + j) ∙ ap (flag_at buf) z
    ∙ sym (ap (λ (t : Bool). cond t (flag_at buf j) (bit_at b.word (j % 64))) (lt-ltb j (64 * (b.length / 64)) q)))
    (λ (q : 64 * (b.length / 64) ≤ j).
    let here : j ≡ length done + j % 64 = omega arith in
    let few : j % 64 < b.length % 64 = omega arith in
    ap (λ (n : ℕ). get_or (done ++ in_progress b) n false) here ∙ get_or-append-add done (in_progress b) (j % 64) false
    ∙ at_take (b.length % 64) (bits 64 b.word) (j % 64)
    ∙ ap (λ (t : Bool). t && get_or (bits 64 b.word) (j % 64) false) (lt-ltb (j % 64) (b.length % 64) few)
    ∙ at_bits 64 b.word (j % 64) (omega arith)
    ∙ sym (ap (λ (t : Bool). cond t (flag_at buf j) (bit_at b.word (j % 64))) (le-ltb j (64 * (b.length / 64)) q)))
    (cases_lt j (64 * (b.length / 64)))

-- ---- what an accepted call appends

pub record Plain (a : Append) (b : BitmapBuilder) (size : ℕ) : Type 0 where
  pub room : Room b (new_count a) size
  pub many : length (append_flags a) ≡ new_count a
  pub at : (j : ℕ) → j < new_count a → get_or (append_flags a) j false ≡ new_flag a j

at_one : (x : Bool) (j : ℕ) → j < 1 → get_or (x ∷ []) j false ≡ x
at_one x zero h = refl
at_one x (suc j) h = absurd (omega arith)

at_pushed : (w n j : ℕ) → j < n → n ≤ 64 → get_or (take n (bits 64 w)) j false ≡ bit_at w j
at_pushed w n j h q =
    at_take n (bits 64 w) j ∙ ap (λ (t : Bool). t && get_or (bits 64 w) j false) (lt-ltb j n h) ∙ at_bits 64 w j (omega arith)

grown : (b : BitmapBuilder) (buf bytes : List ℕ) (start n m : ℕ) → first_failed (span_grow_checks b buf bytes start n m) ≡ 0
    → Room b m (length buf)
unfolding span_grow_checks
grown b buf bytes start n m e = room_of b m (length buf) (both_right (span_checks start n (length bytes)) (grow_checks b m (length buf)) e)

plain : (a : Append) (b : BitmapBuilder) (buf : List ℕ) → first_failed (append_checks a b buf) ≡ 0 → Plain a b (length buf)
unfolding word_checks constant_checks subslice_checks gather_checks
plain (push_flag x) b buf e = record { room = room_of b 1 (length buf) e; many = refl; at = at_one x }
plain (extend_constant n x) b buf e =
    record {
      room = room_of b n (length buf) (both_left (grow_checks b n (length buf)) (within_limit n ∷ []) e);
      many = length-copies n x;
      at = at_copies n x;
    }
plain (push_word w n) b buf e =
    let six = within_limit n ∷ check 6 (leb n 64 && none_from w n) ∷ [] in
    let short : n ≤ 64 = word-allowed w n (both_right (grow_checks b n (length buf)) six e) in
    record {
      room = room_of b n (length buf) (both_left (grow_checks b n (length buf)) six e);
      many = length-low n w short;
      at = λ j h. at_pushed w n j h short;
    }
plain (extend_slice bytes start n) b buf e =
    record { room = grown b buf bytes start n n e; many = length-window (flags_of bytes) start n; at = λ j h. at-stretch bytes start n j h }
plain (extend_repeated bytes start n k) b buf e =
    let long : length (stretch bytes start n) ≡ n = length-window (flags_of bytes) start n in
    record {
      room = grown b buf bytes start n (n * k) e;
      many = length-repeated k (stretch bytes start n) ∙ ap (λ (x : ℕ). x * k) long;
      at =
          λ j h. at-repeated k (stretch bytes start n) j (subst (λ (x : ℕ). j < x * k) (sym long) h)
          ∙ at-stretch bytes start n (j / k) (turn_inside j n k h);
    }
plain (extend_bitmap m bytes start n) b buf e =
    let grow = grow_checks b n (length buf) in
    let rest = both_right (mask_checks m bytes) (inner_checks start n m.length ++ grow) e in
    let inner =
    inner-allowed m bytes start n (both_left (mask_checks m bytes) (inner_checks start n m.length ++ grow) e)
    (both_left (inner_checks start n m.length) grow rest) in
    let inside : start + n ≤ m.length = inner.inside in
    record {
      room = room_of b n (length buf) (both_right (inner_checks start n m.length) grow rest);
      many = length-window (mask_flags m bytes) start n;
      at = λ j h. at_in (mask_flags m bytes) start n j h ∙ at-stretch bytes m.start m.length (start + j) (omega arith);
    }
plain (extend_gather bytes start n idxs) b buf e =
    let six = check 6 (all_below n idxs) ∷ [] in
    let span = span_grow_checks b buf bytes start n (length idxs) in
    let below : all_below n idxs ≡ true = check-allowed 5 (all_below n idxs) (both_right span six e) in
    record {
      room = grown b buf bytes start n (length idxs) (both_left span six e);
      many = length-gathered (stretch bytes start n) idxs;
      at = λ j h. at-gathered (stretch bytes start n) idxs j h ∙ at-stretch bytes start n (get_or idxs j 0) (below_at n idxs j below h);
    }
plain (extend_opt_gather bytes start n idxs) b buf e =
    record {
      room = grown b buf bytes start n (length idxs) e;
      many = length-gathered (stretch bytes start n) idxs;
      at = λ j h. at-gathered (stretch bytes start n) idxs j h ∙ padded bytes start n (get_or idxs j 0);
    }

-- ---- the flags of the builder that a call returns

module _ (a : Append) (b : BitmapBuilder) (buf : List ℕ) (new : BitmapBuilder) (e : given new ≡ append_answer a b buf) where
  passed : first_failed (append_checks a b buf) ≡ 0
  passed = sym (given-number (first_failed (append_checks a b buf)) b new (appended (filling b buf) (append_flags a)).builder e)

  is-appended : filling new (append_bytes a b buf) ≡ appended (filling b buf) (append_flags a)
  is-appended =
      ap₂ filling (given-value (first_failed (append_checks a b buf)) b new (appended (filling b buf) (append_flags a)).builder e)
      (sym (is-new 0 (first_failed (append_checks a b buf)) (appended (filling b buf) (append_flags a)).bytes buf (sym passed) refl))

  its : Plain a b (length buf)
  its = plain a b buf passed

  room : Room b (length (append_flags a)) (length buf)
  room = subst (λ (n : ℕ). Room b n (length buf)) (sym its.many) its.room

  flags : builder_flags (filling new (append_bytes a b buf)) ≡ builder_flags (filling b buf) ++ append_flags a
  flags = ap builder_flags is-appended ∙ flags-after (filling b buf) (append_flags a) room

  long : new.length ≡ b.length + new_count a
  long = length-then (filling b buf) (filling new (append_bytes a b buf)) (append_flags a) (new_count a) is-appended its.many

  before : length (builder_flags (filling b buf)) ≡ b.length
  before = length-flags-of (filling b buf)

  pub appends_plainly : AppendsPlainly a b buf new
  appends_plainly = record {
    long = long;
    old = λ j h.
        sym (at-builder new (append_bytes a b buf) j (omega (arith, long)))
        ∙ ap (λ (l : List Bool). get_or l j false) flags
        ∙ get_or-append (builder_flags (filling b buf)) (append_flags a) false j (omega (arith, before))
        ∙ at-builder b buf j h;
    added = λ j h.
        sym (at-builder new (append_bytes a b buf) (b.length + j) (omega (arith, long)))
        ∙ ap (λ (l : List Bool). get_or l (b.length + j) false) flags
        ∙ ap (λ (n : ℕ). get_or (builder_flags (filling b buf) ++ append_flags a) (n + j) false) (sym before)
        ∙ get_or-append-add (builder_flags (filling b buf)) (append_flags a) j false
        ∙ its.at j h;
  }

pub append-plain : AppendPlain
append-plain a b buf new e = appends_plainly a b buf new e

-- The next flag that is set in one mask and not in another: the checks, the words and blocks read, and the ends. For `next_and_not`.
use Rattle.std.specs.Prelude.{Option, Some, None}
use Rattle.std.proofs.Math.Bool.{and_self}
use mathlib.Core.Path.{◌≡◌, refl, sym, ap, ap₂, ◌∙◌, subst}
use mathlib.Core.Bool.{Bool, true, false, ◌&&◌}
use mathlib.Core.List.{List, [], ◌∷◌, ◌++◌, zip_with}
use Prim.Native.Nat.{ℕ, ◌+◌, ◌-◌, ◌/◌, ◌≤◌, ◌<◌, min}
use native.Mathlib.Nat.{add-zero}
use native.Mathlib.Omega.{arith}
use lib.Dec.{eqb, leb}
use lib.ListN.{length, take, drop, get_or, length-drop, length-take, take-append-drop}
use lib.Seq.{take_all, take-take, length-take-le}
use borrow.Author.Tests.{eqb-true, le-leb, leb-true, lt-ltb}
use Rattle.words.specs.Counts.{any_set}
use Rattle.words.specs.Ends.{leading}
use Rattle.words.specs.Flags.{bits, flags_of, window}
use Rattle.words.specs.Loops.{combined}
use Rattle.words.specs.Ops.{and_not, op_of, zip3}
use Rattle.words.proofs.flags.Bits.{length-bits}
use Rattle.words.proofs.ops.Combining.{length-zip, zip-part, zip-self, zip-starts, zip_two}
use Rattle.words.proofs.ends.EndLaws.{leading-all, leading_le, leading-take}
use Rattle.words.proofs.theorems.Plain.{window-part}
use Rattle.words.proofs.flags.Windows.{at_take, in_window, length-window, window-all, window-cut, window-ext}
use Rattle.masks.specs.Checks.{check, first_failed}
use Rattle.masks.specs.Combine.{And, AndNot, pair_flags, shortcut}
use Rattle.masks.specs.Iterator.{leading_from}
use Rattle.masks.specs.Mask.{mask_checks}
use Rattle.masks.specs.NextAndNot.{free_flags, going_round, next_checks, next_set, other_checks, windows_of}
use Rattle.masks.specs.Workers.{Beside, PassedTo, Searchable}
use Rattle.masks.specs.Search.{nth_from}
use Rattle.masks.specs.declared.bitmap.Bitmap.{Bitmap}
use Rattle.masks.specs.declared.next_and_not.NextFlag.{NextFlag}
use Rattle.masks.proofs.checks.CheckLaws.{both_left, both_right, check-allowed, one-check, passed-before}
use Rattle.masks.proofs.iterator.IteratorLaws.{at-end, every-alike, some_alike}
use Rattle.masks.proofs.bitmap.MaskLaws.{mask-allowed}
use Rattle.masks.proofs.theorems.PairPlain.{flags-length}
use Rattle.masks.proofs.true_idx.TrueIdxLaws.{first-from, none_from_lem}

-- ---- the checks

beside-allowed : (n : ℕ) (S : Option Bitmap) (b_bytes : List ℕ) → first_failed (other_checks n S b_bytes) ≡ 0 → Beside n S
unfolding other_checks
beside-allowed n (Some b) b_bytes e = (
  (mask-allowed b b_bytes (both_left (mask_checks b b_bytes) (check 5 (eqb n b.length) ∷ []) e)).starts,
  eqb-true n b.length (check-allowed 4 (eqb n b.length) (both_right (mask_checks b b_bytes) (check 5 (eqb n b.length) ∷ []) e)),
)
beside-allowed n None b_bytes e = tt

-- if the checks pass, the flags can be searched from the place to the length
pub next-allowed : (a : Bitmap) (a_bytes : List ℕ) (S : Option Bitmap) (b_bytes : List ℕ) (from : ℕ)
    → first_failed (next_checks a a_bytes S b_bytes from) ≡ 0
    → Searchable a S from a.length
unfolding next_checks
next-allowed a a_bytes S b_bytes from e =
    let six = check 6 (leb from a.length) ∷ [] in
    let own = mask-allowed a a_bytes (both_left (mask_checks a a_bytes) (other_checks a.length S b_bytes ++ six) e) in
    let rest = both_right (mask_checks a a_bytes) (other_checks a.length S b_bytes ++ six) e in
    record {
      starts = own.starts;
      short = own.short;
      beside = beside-allowed a.length S b_bytes (both_left (other_checks a.length S b_bytes) six rest);
      ordered = leb-true from a.length (check-allowed 5 (leb from a.length) (both_right (other_checks a.length S b_bytes) six rest));
      inside = omega arith;
    }

-- if the checks pass at one place, they pass at each place up to the length
pub elsewhere-accepted : (a : Bitmap) (a_bytes : List ℕ) (S : Option Bitmap) (b_bytes : List ℕ) (from at : ℕ)
    → first_failed (next_checks a a_bytes S b_bytes from) ≡ 0 → at ≤ a.length → first_failed (next_checks a a_bytes S b_bytes at) ≡ 0
unfolding next_checks
elsewhere-accepted a a_bytes S b_bytes from at e h =
    let old = check 6 (leb from a.length) ∷ [] in
    let new = check 6 (leb at a.length) ∷ [] in
    let own = both_left (mask_checks a a_bytes) (other_checks a.length S b_bytes ++ old) e in
    let rest = both_right (mask_checks a a_bytes) (other_checks a.length S b_bytes ++ old) e in
    let beside = both_left (other_checks a.length S b_bytes) old rest in
    sym (passed-before (mask_checks a a_bytes) (other_checks a.length S b_bytes ++ new) 0 0 (sym own) refl
    (passed-before (other_checks a.length S b_bytes) new 0 0 (sym beside) refl
    (one-check 0 6 true (leb at a.length) refl (sym (le-leb at a.length h)))))

-- and the flags before the place can be searched too
pub before-allowed : (a : Bitmap) (S : Option Bitmap) (from : ℕ) → Searchable a S from a.length → Searchable a S 0 from
before-allowed a S from s = record { starts = s.starts; short = s.short; beside = s.beside; ordered = omega arith; inside = s.ordered }

-- ---- the flags

-- what is known of the second mask holds of the one that a match arm binds
beside-here : (n : ℕ) (S : Option Bitmap) (b : Bitmap) → S ≡ Some b → Beside n S → Beside n (Some b)
beside-here n S b e h = subst (λ (o : Option Bitmap). Beside n o) e h

module _ (a : Bitmap) (a_bytes : List ℕ) (b : Bitmap) (b_bytes : List ℕ) (same : a.length ≡ b.length) where
  each : List Bool
  each =
      zip3 (op_of AndNot) (window (flags_of a_bytes) a.start a.length) (window (flags_of b_bytes) b.start a.length)
      (window (flags_of b_bytes) b.start a.length)

  is-each : each ≡ free_flags a a_bytes (Some b) b_bytes
  unfolding each free_flags pair_flags shortcut
  is-each =
      ap (λ (n : ℕ). zip3 (op_of AndNot) (window (flags_of a_bytes) a.start a.length) (window (flags_of b_bytes) b.start n)
      (window (flags_of b_bytes) b.start n)) same

  -- the operation on stretches of the two buffers is a part of its flags on the masks
  each_part : (at k : ℕ) → at + k ≤ a.length
      → zip3 (op_of AndNot) (window (flags_of a_bytes) (a.start + at) k) (window (flags_of b_bytes) (b.start + at) k)
      (window (flags_of b_bytes) (b.start + at) k)
      ≡ window (free_flags a a_bytes (Some b) b_bytes) at k
  unfolding each
  each_part at k h =
      zip-part (op_of AndNot) (flags_of a_bytes) (flags_of b_bytes) (flags_of b_bytes) a.start b.start b.start a.length at k h
      ∙ ap (λ (l : List Bool). window l at k) is-each

  -- and so are the first k flags of a word of both
  each_word : (at k u v w : ℕ) → k ≤ 64 → at + k ≤ a.length → bits 64 u ≡ window (flags_of a_bytes) (a.start + at) 64
      → bits 64 v ≡ window (flags_of b_bytes) (b.start + at) 64 → bits 64 w ≡ zip_with and_not (bits 64 u) (bits 64 v)
      → take k (bits 64 w) ≡ window (free_flags a a_bytes (Some b) b_bytes) at k
  each_word at k u v w few h p q op =
      let A = flags_of a_bytes in
      let B = flags_of b_bytes in
      let x = a.start + at in
      let y = b.start + at in
      let Z = zip3 (op_of AndNot) (window A x 64) (window B y 64) (window B y 64) in
      let lb : length (window A x 64) ≡ length (window B y 64) = length-window A x 64 ∙ sym (length-window B y 64) in
      let whole : bits 64 w ≡ Z =
      op ∙ ap₂ (zip_with and_not) p q ∙ sym (zip_two and_not (window A x 64) (window B y 64) (window B y 64) lb lb) in
      ap (take k) whole
      ∙ sym (window-part Z 0 k (omega (arith, length-zip (op_of AndNot) A B B x y y 64)))
      ∙ sym (zip-part (op_of AndNot) A B B x y y 64 0 k (omega arith))
      ∙ zip-starts (op_of AndNot) A B B x y y (x + 0) (y + 0) (y + 0) k (add-zero x) (add-zero y) (add-zero y)
      ∙ each_part at k h

-- there is a second mask
module _ (a : Bitmap) (a_bytes : List ℕ) (S : Option Bitmap) (b_bytes : List ℕ) (b : Bitmap) (here : S ≡ Some b)
    (beside : Beside a.length S) where
  same_length : a.length ≡ b.length
  same_length = (beside-here a.length S b here beside).1

  to-here : (at k : ℕ) → window (free_flags a a_bytes (Some b) b_bytes) at k ≡ window (free_flags a a_bytes S b_bytes) at k
  to-here at k = ap (λ (o : Option Bitmap). window (free_flags a a_bytes o b_bytes) at k) (sym here)

  pub any-both : (at n : ℕ) (t : Bool) → at + n ≤ a.length
      → t ≡ any_set (combined AndNot a_bytes (a.start + at) b_bytes (b.start + at) b_bytes (b.start + at) n)
      → t ≡ any_set (window (free_flags a a_bytes S b_bytes) at n)
  any-both at n t h e = e ∙ ap any_set (each_part a a_bytes b b_bytes same_length at n h ∙ to-here at n)

  pub word-both : (at k u v w : ℕ) → k ≤ 64 → at + k ≤ a.length → bits 64 u ≡ window (flags_of a_bytes) (a.start + at) 64
      → bits 64 v ≡ window (flags_of b_bytes) (b.start + at) 64 → bits 64 w ≡ zip_with and_not (bits 64 u) (bits 64 v)
      → take k (bits 64 w) ≡ window (free_flags a a_bytes S b_bytes) at k
  word-both at k u v w few h p q op = each_word a a_bytes b b_bytes same_length at k u v w few h p q op ∙ to-here at k

-- there is no second mask
module _ (a : Bitmap) (a_bytes : List ℕ) (S : Option Bitmap) (b_bytes : List ℕ) (gone : S ≡ None) where
  own-part : (at k : ℕ) → at + k ≤ a.length → window (flags_of a_bytes) (a.start + at) k ≡ window (free_flags a a_bytes S b_bytes) at k
  unfolding free_flags
  own-part at k h =
      sym (in_window (flags_of a_bytes) a.start a.length at k h)
      ∙ ap (λ (o : Option Bitmap). window (free_flags a a_bytes o b_bytes) at k) (sym gone)

  pub any-alone : (at n : ℕ) (t : Bool) → at + n ≤ a.length
      → t ≡ any_set (combined And a_bytes (a.start + at) a_bytes (a.start + at) a_bytes (a.start + at) n)
      → t ≡ any_set (window (free_flags a a_bytes S b_bytes) at n)
  any-alone at n t h e =
      e ∙ ap any_set (zip-self (op_of And) and_self (window (flags_of a_bytes) (a.start + at) n) ∙ own-part at n h)

  pub word-alone : (at k u : ℕ) → k ≤ 64 → at + k ≤ a.length → bits 64 u ≡ window (flags_of a_bytes) (a.start + at) 64
      → take k (bits 64 u) ≡ window (free_flags a a_bytes S b_bytes) at k
  word-alone at k u few h p =
      ap (take k) p ∙ window-cut (flags_of a_bytes) (a.start + at) 64 0 k (omega arith)
      ∙ ap (λ (x : ℕ). window (flags_of a_bytes) x k) (add-zero (a.start + at)) ∙ own-part at k h

-- the flags searched are as many as the first mask has
pub free-length : (a : Bitmap) (a_bytes : List ℕ) (S : Option Bitmap) (b_bytes : List ℕ) → Beside a.length S
    → length (free_flags a a_bytes S b_bytes) ≡ a.length
unfolding free_flags
free-length a a_bytes (Some b) b_bytes h = flags-length a a_bytes b b_bytes h.1 AndNot
free-length a a_bytes None b_bytes h = length-window (flags_of a_bytes) a.start a.length

-- ---- flags passed over

none-set : (m : List Bool) → false ≡ any_set m → length m ≤ leading false m
unfolding any_set leading
none-set [] e = omega arith
none-set (true ∷ m) e = absurd (let z : ◌≡◌ {A = ℕ} 0 1 = cc e in omega arith)
none-set (false ∷ m) e = let ih : length m ≤ leading false m = none-set m e in omega arith

-- at most k of the first k flags of a word lead
pub word-most : (k w r : ℕ) → r ≡ leading false (take k (bits 64 w)) → r ≤ k
word-most k w r e = omega (arith, leading_le false (take k (bits 64 w)), length-take k (bits 64 w))

-- the first `end` of n flags, and the k of them that start at `at`
module _ (Z : List Bool) (n end from at k : ℕ) (long : length Z ≡ n) (reach : end ≤ n) (p : PassedTo (take end Z) end from at)
    (fits : at + k ≤ end) where
  in-front : window (take end Z) at k ≡ window Z at k
  in-front = window-ext (take end Z) Z at at k (λ j h.
      at_take end Z (at + j) ∙ ap (λ (t : Bool). t && get_or Z (at + j) false) (lt-ltb (at + j) end (omega arith)))

  in_list : at + k ≤ length (take end Z)
  in_list = omega (arith, length-take-le end Z (omega arith))

  module _ (r : ℕ) (e : r ≡ leading false (window Z at k)) where
    in-part : r ≡ leading false (window (take end Z) at k)
    in-part = e ∙ ap (leading false) (sym in-front)

    no_more : r ≤ k
    no_more = omega (arith, leading_le false (window Z at k), length-window Z at k)

    -- one of these k flags is set: the search ends there
    pub passed-stop : r < k → at + r - from ≡ leading_from false (take end Z) from
    passed-stop h = omega (arith, p.low, p.same, some_alike (take end Z) false at k r in_list in-part h)

    -- none is set: the search goes on after them
    pub passed-more : k ≤ r → PassedTo (take end Z) end from (at + r)
    passed-more h = record {
      low = omega (arith, p.low);
      inside = omega (arith, no_more);
      same = omega (arith, p.same, every-alike (take end Z) false at k r in_list in-part h);
    }

  pub passed-block : (t : Bool) → t ≡ any_set (window Z at k) → t ≡ false → PassedTo (take end Z) end from (at + k)
  passed-block t e f =
      let many : k ≤ leading false (window Z at k) = omega (arith, none-set (window Z at k) (sym f ∙ e), length-window Z at k) in
      let z : leading false (window Z at k) ≡ k = omega (arith, leading_le false (window Z at k), length-window Z at k) in
      passed-more k (sym z) (omega arith)

-- ---- at most 64 flags, in one word

module _ (n from w : ℕ) (few : n ≤ 64) (inside : from ≤ n) where
  pub long-word : length (take n (bits 64 w)) ≡ n
  long-word = length-take-le n (bits 64 w) (omega (arith, length-bits 64 w))

  -- the leading zeros from the place to the end
  pub word-ahead : (v r : ℕ) → bits 64 v ≡ window (bits 64 w) from 64 → r ≡ leading false (take (n - from) (bits 64 v))
      → r ≡ leading_from false (take n (take n (bits 64 w))) from
  unfolding leading_from
  word-ahead v r p e =
      let l = bits 64 w in
      let k = n - from in
      let rest = drop from (take n l) in
      let begun : PassedTo (take n l) n from from = record { low = omega arith; inside = inside; same = refl } in
      let part : take k (bits 64 v) ≡ window l from k =
      ap (take k) p ∙ window-cut l from 64 0 k (omega arith) ∙ ap (λ (x : ℕ). window l x k) (add-zero from) in
      let all : window (take n l) from k ≡ rest =
      window-part (take n l) from k (omega (arith, long-word)) ∙ take_all k rest (omega (arith, length-drop from (take n l), long-word)) in
      e ∙ ap (leading false) (part ∙ sym (in-front l 64 n from from k (length-bits 64 w) few begun (omega arith)) ∙ all)
      ∙ ap (λ (m : List Bool). leading false (drop from m)) (sym (take-take n n l (omega arith)))

  -- the leading zeros before the place
  pub word-before : (r : ℕ) → r ≡ leading false (take from (bits 64 w)) → r ≡ leading_from false (take from (take n (bits 64 w))) 0
  unfolding leading_from
  word-before r e = e ∙ ap (leading false) (sym (take-take from n (bits 64 w) inside))

-- the answer found in a word that holds all the flags is that of the flags
pub found-word : (a : Bitmap) (a_bytes : List ℕ) (S : Option Bitmap) (b_bytes : List ℕ) (n from w : ℕ) (r : NextFlag) → Beside n S
    → n ≡ a.length → take n (bits 64 w) ≡ window (free_flags a a_bytes S b_bytes) 0 n → r ≡ next_set n (take n (bits 64 w)) from
    → r ≡ next_set a.length (free_flags a a_bytes S b_bytes) from
found-word a a_bytes S b_bytes n from w r h z p e =
    let Z = free_flags a a_bytes S b_bytes in
    let long : n ≡ length Z = z ∙ sym (free-length a a_bytes S b_bytes (subst (λ (x : ℕ). Beside x S) z h)) in
    e ∙ ap₂ (λ (x : ℕ) (l : List Bool). next_set x l from) z (p ∙ ap (window Z 0) long ∙ window-all Z)

-- all flags are passed over
pub passed-end : (Z : List Bool) (n end from at : ℕ) → length Z ≡ n → end ≤ n → PassedTo (take end Z) end from at → end ≤ at
    → at - from ≡ leading_from false (take end Z) from
passed-end Z n end from at long reach p h =
    omega (arith, p.low, p.same, at-end (take end Z) false at (omega (arith, length-take-le end Z (omega arith))))

-- ---- going round

module _ (Z : List Bool) (n from ahead : ℕ) (long : length Z ≡ n) (inside : from ≤ n) (e : ahead ≡ leading_from false (take n Z) from) where
  ahead-all : ahead ≡ leading_from false Z from
  ahead-all = e ∙ ap (λ (l : List Bool). leading_from false l from) (take_all n Z (omega arith))

  -- a flag is found at or after the place
  pub found-ahead : (position read : ℕ) → ahead < n - from → position ≡ from + ahead → read ≡ ahead / 32 + 1
      → record { position = Some position; windows = read } ≡ next_set n Z from
  unfolding next_set going_round
  found-ahead position read h p r =
      let there : Some position ≡ nth_from Z 0 from = ap Some p ∙ first-from Z from ahead ahead-all (omega arith) in
      let w : read ≡ (position - from) / 32 + 1 = omega arith in
      ap (λ (x : ℕ). record { position = Some position; windows = x }) w
      ∙ ap (λ (o : Option ℕ). going_round n from o (nth_from Z 0 0)) there

  -- none is found there: it is before the place, or there is none at all
  module _ (passed before : ℕ) (few : n - from ≤ ahead) (w : passed ≡ windows_of (n - from))
      (f : before ≡ leading_from false (take from Z) 0) where
    none_ahead : None ≡ nth_from Z 0 from
    none_ahead = none_from_lem Z from ahead ahead-all (omega arith)

    round-none : (o : Option ℕ) → o ≡ nth_from Z 0 0 → going_round n from None o ≡ next_set n Z from
    unfolding next_set
    round-none o p = ap₂ (going_round n from) none_ahead p

    from_0 : min (leading false Z) from ≡ before
    unfolding leading_from
    from_0 = leading-take false from Z ∙ sym f

    pub found_before : (read : ℕ) → before < from → read ≡ passed + (before / 32 + 1)
        → record { position = Some before; windows = read } ≡ next_set n Z from
    unfolding going_round leading_from
    found_before read h r =
        let all : before ≡ leading false Z = omega (arith, from_0) in
        let z : before ≡ 0 + before = omega arith in
        ap (λ (x : ℕ). record { position = Some before; windows = x }) (r ∙ ap (λ (x : ℕ). x + (before / 32 + 1)) w)
        ∙ round-none (Some before) (ap Some z ∙ first-from Z 0 before all (omega arith))

    pub found_none : (read rest : ℕ) → from ≤ before → rest ≡ windows_of from → read ≡ passed + rest
        → record { position = None; windows = read } ≡ next_set n Z from
    unfolding going_round leading_from
    found_none read rest h v r =
        let front : length (take from Z) ≡ from = length-take-le from Z (omega arith) in
        let whole : leading false Z ≡ length (take from Z) + leading false (drop from Z) =
        ap (leading false) (sym (take-append-drop from Z)) ∙ leading-all false (take from Z) (drop from Z) (omega (arith, f)) in
        ap (λ (x : ℕ). record { position = None; windows = x }) (r ∙ ap₂ (λ (x y : ℕ). x + y) w v)
        ∙ round-none None (none_from_lem Z 0 (leading false Z) refl (omega (arith, ahead-all)))

-- Every combination of sound masks of equal lengths, in an output that is large enough, is accepted and writes the reference list's
-- flags.
use mathlib.Core.Path.{◌≡◌, refl, sym, ap, ◌∙◌}
use mathlib.Core.Bool.{Bool}
use mathlib.Core.List.{List, [], ◌∷◌, ◌++◌}
use Prim.Native.Nat.{ℕ, zero, suc, ◌≤◌}
use native.Mathlib.Omega.{arith}
use lib.Dec.{eqb}
use lib.ListN.{length}
use borrow.Author.Tests.{eq-eqb, le-leb}
use Rattle.words.specs.Flags.{over}
use Rattle.masks.specs.equations.Answer.{given, checked, kept}
use Rattle.masks.specs.Checks.{Check, check, earlier, first_failed, output_checks}
use Rattle.masks.specs.Combine.{not_checks, pair_checks, pair_mask, pair_shortcut}
use Rattle.masks.specs.equations.Combine.{each_bytes, each_of, pair_bytes, pair_of}
use Rattle.masks.specs.Combine.{result_count, result_mask, select_checks}
use Rattle.masks.specs.Frozen.{frozen, frozen_size}
use Rattle.masks.specs.Mask.{mask_checks, uncounted}
use Rattle.masks.proofs.statements.TrueCounts.{Sound}
use Rattle.masks.specs.declared.bitmap.Bitmap.{Bitmap}
use Rattle.masks.proofs.theorems.Accepted.{mask-accepted}
use Rattle.masks.proofs.checks.CheckLaws.{is-given, is-new, passed-before}
use Rattle.masks.proofs.bitmap.MaskLaws.{mask-sound}
use Rattle.histories.proofs.statements.Agreement.{Combines, FitAt, Fits}
use Rattle.histories.proofs.statements.History.{lent_at}
use Rattle.histories.specs.MaskRows.{Combination, pair, invert, select, select_constant, combination_row, pair_op}
use Rattle.histories.proofs.statements.Owed.{Stands, lent_flags}
use Rattle.histories.specs.Rows.{Argument, own, other, Every, Lent, Tuple, Writes, each}
use Rattle.histories.proofs.rows.MaskRowLaws.{combination_lawful, constant_writable, not_writable, pair_writable, select_writable}
use Rattle.histories.proofs.rows.RowLaws.{flags-all}

-- ---- the answer of a call whose checks pass

given-mask : (cs : List Check) (m : Bitmap) → 0 ≡ first_failed cs → checked cs (tt {0}) m ≡ given m
given-mask cs m e = sym (is-given 0 (first_failed cs) tt m e refl)

new-bytes : (cs : List Check) (F G : List Bool) (out : List ℕ) → 0 ≡ first_failed cs → F ≡ G
    → kept (first_failed cs) (over out (frozen F)) out ≡ over out (frozen G)
new-bytes cs F G out e p =
    sym (is-new 0 (first_failed cs) (over out (frozen F)) out e refl) ∙ ap (λ (t : List Bool). over out (frozen t)) p

-- ---- acceptance

room-accepted : (n size : ℕ) → frozen_size n ≤ size → 0 ≡ first_failed (output_checks n size)
unfolding output_checks first_failed earlier
room-accepted n size h = rw (le-leb (frozen_size n) size h)

even-accepted : (a b : ℕ) (cs : List Check) → a ≡ b → 0 ≡ first_failed cs → 0 ≡ first_failed (check 5 (eqb a b) ∷ cs)
unfolding first_failed earlier
even-accepted a b cs e h = rw (eq-eqb a b e) h

-- a sound mask of n flags
record Fit (n : ℕ) (x : Lent) : Type 0 where
  sound : Sound x.mask x.bytes
  long : x.mask.length ≡ n

-- what an accepted call answers and writes
record Accepts (r : Writes) (a : Tuple Lent r.masks) (out : List ℕ) : Type 0 where
  result : Bitmap
  accepted : r.answer a ≡ given result
  written : r.bytes a ≡ over out (frozen (r.flags (each lent_flags r.masks a)))

module _ (n : ℕ) (out : List ℕ) (room : frozen_size n ≤ length out) where
  mask-passes : (x : Lent) → Fit n x → 0 ≡ first_failed (mask_checks x.mask x.bytes)
  mask-passes x f = mask-accepted x.mask x.bytes f.sound.starts f.sound.short f.sound.inside f.sound.counts

  even : (x y : Lent) → Fit n x → Fit n y → x.mask.length ≡ y.mask.length
  even x y f g = f.long ∙ sym g.long

  output-passes : (x : Lent) → Fit n x → 0 ≡ first_failed (output_checks x.mask.length (length out))
  output-passes x f =
      let e : x.mask.length ≡ n = f.long in
      room-accepted x.mask.length (length out) (omega arith)

  not-passes : (x : Lent) → Fit n x → 0 ≡ first_failed (not_checks x.mask x.bytes (length out))
  unfolding not_checks
  not-passes x f =
      passed-before (mask_checks x.mask x.bytes) (output_checks x.mask.length (length out)) 0 0 (mask-passes x f) refl
      (output-passes x f)

  pair-passes : (x y : Lent) → Fit n x → Fit n y → 0 ≡ first_failed (pair_checks x.mask x.bytes y.mask y.bytes (length out))
  unfolding pair_checks
  pair-passes x y f g =
      let last = output_checks x.mask.length (length out) in
      let five : List Check = check 5 (eqb x.mask.length y.mask.length) ∷ last in
      let second = mask_checks y.mask y.bytes in
      passed-before (mask_checks x.mask x.bytes) (second ++ five) 0 0 (mask-passes x f) refl
      (passed-before second five 0 0 (mask-passes y g) refl
      (even-accepted x.mask.length y.mask.length last (even x y f g) (output-passes x f)))

  select-passes : (x y z : Lent) → Fit n x → Fit n y → Fit n z
      → 0 ≡ first_failed (select_checks x.mask x.bytes y.mask y.bytes z.mask z.bytes (length out))
  unfolding select_checks
  select-passes x y z f g h =
      let last = output_checks x.mask.length (length out) in
      let other-five : List Check = check 5 (eqb x.mask.length z.mask.length) ∷ last in
      let five : List Check = check 5 (eqb x.mask.length y.mask.length) ∷ other-five in
      let second = mask_checks y.mask y.bytes in
      let third = mask_checks z.mask z.bytes in
      passed-before (mask_checks x.mask x.bytes) (second ++ (third ++ five)) 0 0 (mask-passes x f) refl
      (passed-before second (third ++ five) 0 0 (mask-passes y g) refl
      (passed-before third five 0 0 (mask-passes z h) refl
      (even-accepted x.mask.length y.mask.length other-five (even x y f g)
      (even-accepted x.mask.length z.mask.length last (even x z f h) (output-passes x f)))))

  -- ---- the four kinds

  accepts : (c : Combination) (a : Tuple Lent (combination_row c out).masks) → Every (Fit n) (combination_row c out).masks a
      → Accepts (combination_row c out) a out
  unfolding pair_of pair_bytes pair_mask each_of each_bytes
  accepts (pair op) a f =
      let x = a.0 in
      let y = a.1.0 in
      let cs = pair_checks x.mask x.bytes y.mask y.bytes (length out) in
      let u = result_count (pair_shortcut (pair_op op) x.mask x.bytes y.mask y.bytes) x.mask.length in
      let m = result_mask (x.mask ∷ y.mask ∷ []) x.mask.length u in
      let ok = pair-passes x y f.0 f.1.0 in
      record {
        result = m;
        accepted = given-mask cs m ok;
        written = new-bytes cs _ _ out ok (pair_writable op x y out (sym ok)).same;
      }
  accepts invert a f =
      let x = a.0 in
      let cs = not_checks x.mask x.bytes (length out) in
      let m = result_mask (x.mask ∷ []) x.mask.length (uncounted x.mask.length) in
      let ok = not-passes x f.0 in
      record { result = m; accepted = given-mask cs m ok; written = new-bytes cs _ _ out ok (not_writable x out (sym ok)).same }
  accepts select a f =
      let x = a.0 in
      let y = a.1.0 in
      let z = a.1.1.0 in
      let cs = select_checks x.mask x.bytes y.mask y.bytes z.mask z.bytes (length out) in
      let m = result_mask (x.mask ∷ y.mask ∷ z.mask ∷ []) x.mask.length (uncounted x.mask.length) in
      let ok = select-passes x y z f.0 f.1.0 f.1.1.0 in
      record { result = m; accepted = given-mask cs m ok; written = new-bytes cs _ _ out ok (select_writable x y z out (sym ok)).same }
  accepts (select_constant c) a f =
      let x = a.0 in
      let y = a.1.0 in
      let cs = pair_checks x.mask x.bytes y.mask y.bytes (length out) in
      let m = result_mask (x.mask ∷ y.mask ∷ []) x.mask.length (uncounted x.mask.length) in
      let ok = pair-passes x y f.0 f.1.0 in
      record { result = m; accepted = given-mask cs m ok; written = new-bytes cs _ _ out ok (constant_writable c x y out (sym ok)).same }

-- ---- with the history's own mask in any places

module _ (m : Bitmap) (bytes : List ℕ) (l : List Bool) (s : Stands m bytes l) where
  fit_at : (p : Argument) → FitAt m.length p → Fit m.length (lent_at m bytes p)
  fit_at own f = record { sound = s.sound; long = refl }
  fit_at (other n its) f = record { sound = mask-sound n its f.0; long = f.1 }

  fit_all : (n : ℕ) (a : Tuple Argument n) → Every (FitAt m.length) n a → Every (Fit m.length) n (each (lent_at m bytes) n a)
  fit_all zero a f = tt
  fit_all (suc n) a f = (fit_at a.0 f.0, fit_all n a.1 f.1)

  pub combines : (c : Combination) (out : List ℕ) (a : Tuple Argument (combination_row c out).masks)
      → Fits m.length (combination_row c out) a
      → frozen_size m.length ≤ length out → Combines m bytes l (combination_row c out) a out
  combines c out a f room =
      let r = combination_row c out in
      let t = each (lent_at m bytes) r.masks a in
      let fit = fit_all r.masks a f in
      let x = accepts m.length out room c t fit in
      let same = flags-all m bytes l s r.masks a in
      record {
        result = x.result;
        accepted = x.accepted;
        written = x.written ∙ ap (λ (k : Tuple (List Bool) r.masks). over out (frozen (r.flags k))) same;
        flags = ((combination_lawful c out).made t x.result x.accepted).flags
            ∙ ap r.flags same;
      }

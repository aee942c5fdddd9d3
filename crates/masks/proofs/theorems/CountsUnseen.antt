-- The theorem on counts, proved by the laws of `CountsUnseenLaws`: of a mask's count a call uses its checks and the number of zeros, and
-- nothing else.
use Rattle.std.specs.Prelude.{Option, Some, None}
use Prim.Native.Nat.{ℕ, ◌+◌}
use mathlib.Core.Path.{◌≡◌, refl, sym, ap, ◌∙◌}
use mathlib.Core.Bool.{Bool, true, false, cond}
use mathlib.Core.List.{List, [], ◌∷◌, ◌++◌}
use lib.Dec.{eqb, leb, ltb}
use lib.ListN.{length}
use Rattle.masks.specs.Appends.{grow_checks, inner_checks, subslice_checks}
use Rattle.masks.specs.AtIndex.{and_not_flag, flag_or}
use Rattle.masks.specs.Checks.{Check, check, first_failed, within_limit}
use Rattle.masks.specs.Combine.{largest_serial, pair_flags, pair_mask}
use Rattle.masks.specs.Compare.{common_checks}
use Rattle.masks.specs.Mask.{mask_checks, piece_checks, slice_checks, zero_count}
use Rattle.masks.specs.NextAndNot.{next_set}
use Rattle.masks.specs.Superseding.{agree, winner_of, superseding_checks}
use Rattle.masks.specs.TrueIdx.{first_true, new_true_checks}
use Rattle.masks.specs.declared.bitmap.Bitmap.{Bitmap}
use Rattle.masks.specs.declared.builder.BitmapBuilder.{BitmapBuilder}
use Rattle.masks.proofs.statements.CountsUnseen.{CountsUnseen, forgot, forgot_part}
use Rattle.masks.proofs.theorems.CountsUnseenLaws.{at-checks-left, at-checks-right, free-left, free-right, next-checks-left}
use Rattle.masks.proofs.theorems.CountsUnseenLaws.{next-checks-right, not_alike, pair_left, pair-right, same-checks}
use Rattle.masks.proofs.theorems.CountsUnseenLaws.{select-left, select-middle, select-right}
use Rattle.masks.proofs.theorems.SliceTruth.{slice-number}

won-left : (m b : Bitmap) (t : Bool) → forgot_part (cond t (winner_of true b) (winner_of false m))
    ≡ forgot_part (cond t (winner_of true b) (winner_of false (forgot m)))
won-left m b true = refl
won-left m b false = refl

won-right : (b m : Bitmap) (t : Bool) → forgot_part (cond t (winner_of true m) (winner_of false b))
    ≡ forgot_part (cond t (winner_of true (forgot m)) (winner_of false b))
won-right b m true = refl
won-right b m false = refl

-- one flag of the second mask, whether there is a first or not
flag-right : (first : Option Bitmap) (a_b : List ℕ) (m : Bitmap) (bytes : List ℕ) (i : ℕ)
    → and_not_flag first a_b (Some m) bytes i ≡ and_not_flag first a_b (Some (forgot m)) bytes i
unfolding and_not_flag flag_or
flag-right (Some a) a_b m bytes i = refl
flag-right None a_b m bytes i = refl

module _ (m : Bitmap) (bytes : List ℕ) (e : first_failed (mask_checks m bytes) ≡ 0) where
  same : mask_checks m bytes ≡ mask_checks (forgot m) bytes
  same = same-checks m bytes e

  -- the checks of a slice but the last are the same, and the last one never fails first
  sliced : (offset n : ℕ) → first_failed (slice_checks m bytes offset n) ≡ first_failed (slice_checks (forgot m) bytes offset n)
  unfolding piece_checks
  sliced offset n =
      let six : List Check = check 6 (leb (offset + n) m.length) ∷ [] in
      let rest : List Check = within_limit offset ∷ within_limit n ∷ within_limit (m.start + offset) ∷ six in
      sym (slice-number m bytes offset n) ∙ ap (λ (cs : List Check). first_failed (cs ++ rest)) same
      ∙ slice-number (forgot m) bytes offset n

  grown : (b : BitmapBuilder) (buf : List ℕ) (start n : ℕ)
      → subslice_checks b buf m bytes start n ≡ subslice_checks b buf (forgot m) bytes start n
  unfolding subslice_checks
  grown b buf start n = ap (λ (cs : List Check). cs ++ (inner_checks start n m.length ++ grow_checks b n (length buf))) same

  ones-new : (n : ℕ) → new_true_checks n (Some m) bytes ≡ new_true_checks n (Some (forgot m)) bytes
  unfolding new_true_checks
  ones-new n = ap (λ (cs : List Check). (within_limit n ∷ []) ++ (cs ++ (check 5 (eqb n m.length) ∷ []))) same

  module _ (b : Bitmap) (b_b : List ℕ) where
    superseding-left : superseding_checks m bytes b b_b ≡ superseding_checks (forgot m) bytes b b_b
    unfolding superseding_checks
    superseding-left = ap (λ (cs : List Check). (cs ++ mask_checks b b_b) ++ (check 14 (agree m bytes b b_b) ∷ [])) same

    superseding-right : superseding_checks b b_b m bytes ≡ superseding_checks b b_b (forgot m) bytes
    unfolding superseding_checks
    superseding-right = ap (λ (cs : List Check). (mask_checks b b_b ++ cs) ++ (check 14 (agree b b_b m bytes) ∷ [])) same

    common-left : common_checks m bytes b b_b ≡ common_checks (forgot m) bytes b b_b
    unfolding common_checks
    common-left = ap (λ (cs : List Check). cs ++ (mask_checks b b_b ++ (check 5 (eqb m.length b.length) ∷ []))) same

    common-right : common_checks b b_b m bytes ≡ common_checks b b_b (forgot m) bytes
    unfolding common_checks
    common-right = ap (λ (cs : List Check). mask_checks b b_b ++ (cs ++ (check 5 (eqb b.length m.length) ∷ []))) same

pub counts_unseen : CountsUnseen
unfolding zero_count pair_mask pair_flags largest_serial and_not_flag flag_or first_true
counts_unseen m bytes e =
    record {
      unset_bits = record { checked = same m bytes e; given = refl };
      recounted = refl;
      slice = sliced m bytes e;
      sliced = λ offset n. refl;
      append = λ b buf start n. record { checked = grown m bytes e b buf start n; given = refl };
      pair-first = λ op b b_b size.
          record { answers = record { checked = pair_left m bytes e b b_b size; given = refl }; writes = refl };
      pair-second = λ op a a_b size.
          record { answers = record { checked = pair-right m bytes e a a_b size; given = refl }; writes = refl };
      invert = λ size. record { answers = record { checked = not_alike m bytes e size; given = refl }; writes = refl };
      select-first = λ b b_b c c_b size.
          record { answers = record { checked = select-left m bytes e b b_b c c_b size; given = refl }; writes = refl };
      select-second = λ a a_b c c_b size.
          record { answers = record { checked = select-middle m bytes e a a_b c c_b size; given = refl }; writes = refl };
      select_third = λ a a_b b b_b size.
          record { answers = record { checked = select-right m bytes e a a_b b b_b size; given = refl }; writes = refl };
      constant-first = λ b b_b flag size.
          record { answers = record { checked = pair_left m bytes e b b_b size; given = refl }; writes = refl };
      constant-second = λ a a_b flag size.
          record { answers = record { checked = pair-right m bytes e a a_b size; given = refl }; writes = refl };
      at_first = λ second b_b i. record { checked = at-checks-left m bytes e second b_b i; given = refl };
      at_second = λ first a_b i. record { checked = at-checks-right m bytes e first a_b i; given = flag-right first a_b m bytes i };
      eq-first = λ b b_b. record { checked = ap (λ (cs : List Check). cs ++ mask_checks b b_b) (same m bytes e); given = refl };
      eq-second = λ a a_b. record { checked = ap (λ (cs : List Check). mask_checks a a_b ++ cs) (same m bytes e); given = refl };
      edges = record { checked = same m bytes e; given = refl };
      common-first = λ b b_b. record { checked = common-left m bytes e b b_b; given = refl };
      common-second = λ a a_b. record { checked = common-right m bytes e a a_b; given = refl };
      superseding-first = λ b b_b.
          record { checked = superseding-left m bytes e b b_b; given = won-left m b (ltb m.serial b.serial) };
      superseding-second = λ a a_b.
          record { checked = superseding-right m bytes e a a_b; given = won-right a m (ltb a.serial m.serial) };
      next-first = λ second b_b from.
          record {
            checked = next-checks-left m bytes e second b_b from;
            given = ap (λ (l : List Bool). next_set m.length l from) (free-left m bytes e second b_b);
          };
      next-second = λ a a_b from.
          record {
            checked = next-checks-right m bytes e a a_b from;
            given = ap (λ (l : List Bool). next_set a.length l from) (free-right m bytes e a a_b);
          };
      slices-new = record { checked = same m bytes e; given = refl };
      true-new = λ n. record { checked = ones-new m bytes e n; given = refl };
    }

-- Laws for the theorem on counts, also of crates above: if the checks of a mask pass, they are those of the same mask with its count
-- unknown; so are the lists of checks of calls that take the mask.
use Rattle.std.specs.Prelude.{Option, Some, None}
use Prim.Native.Nat.{ℕ}
use mathlib.Core.Path.{◌≡◌, refl, ap}
use mathlib.Core.Bool.{Bool}
use mathlib.Core.List.{List, [], ◌∷◌, ◌++◌}
use lib.Dec.{eqb, leb}
use lib.ListN.{length}
use Rattle.masks.specs.AtIndex.{and_not_at_checks, index_checks, index_inside, length_checks}
use Rattle.masks.specs.Checks.{Check, check, first_failed, output_checks, span_checks}
use Rattle.masks.specs.Combine.{not_checks, pair_checks, pair_flags, select_checks, shortcut}
use Rattle.masks.proofs.statements.CountsUnseen.{forgot}
use Rattle.masks.specs.Mask.{mask_checks, mask_flags}
use Rattle.masks.specs.NextAndNot.{free_flags, next_checks, other_checks}
use Rattle.masks.specs.declared.bitmap.Bitmap.{Bitmap}
use Rattle.masks.proofs.bitmap.MaskLaws.{mask-truthful, true-valid}

module _ (m : Bitmap) (bytes : List ℕ) (e : first_failed (mask_checks m bytes) ≡ 0) where
  pub same-checks : mask_checks m bytes ≡ mask_checks (forgot m) bytes
  unfolding mask_checks
  same-checks =
      ap (λ (t : Bool). span_checks m.start m.length (length bytes) ++ (check 3 t ∷ []))
      (true-valid m.unset (mask_flags m bytes) (mask-truthful m bytes e))

  -- ---- the checks of combinations

  module _ (b : Bitmap) (b_b : List ℕ) where
    pub pair_left : (size : ℕ) → pair_checks m bytes b b_b size ≡ pair_checks (forgot m) bytes b b_b size
    unfolding pair_checks
    pair_left size =
        let five : List Check = check 5 (eqb m.length b.length) ∷ output_checks m.length size in
        ap (λ (cs : List Check). cs ++ (mask_checks b b_b ++ five)) same-checks

    pub pair-right : (size : ℕ) → pair_checks b b_b m bytes size ≡ pair_checks b b_b (forgot m) bytes size
    unfolding pair_checks
    pair-right size =
        let five : List Check = check 5 (eqb b.length m.length) ∷ output_checks b.length size in
        ap (λ (cs : List Check). mask_checks b b_b ++ (cs ++ five)) same-checks

  pub not_alike : (size : ℕ) → not_checks m bytes size ≡ not_checks (forgot m) bytes size
  unfolding not_checks
  not_alike size = ap (λ (cs : List Check). cs ++ output_checks m.length size) same-checks

  module _ (b : Bitmap) (b_b : List ℕ) (c : Bitmap) (c_b : List ℕ) (size : ℕ) where
    pub select-left : select_checks m bytes b b_b c c_b size ≡ select_checks (forgot m) bytes b b_b c c_b size
    unfolding select_checks
    select-left =
        let second : List Check = check 5 (eqb m.length c.length) ∷ output_checks m.length size in
        let five : List Check = check 5 (eqb m.length b.length) ∷ second in
        ap (λ (cs : List Check). cs ++ (mask_checks b b_b ++ (mask_checks c c_b ++ five))) same-checks

    pub select-middle : select_checks b b_b m bytes c c_b size ≡ select_checks b b_b (forgot m) bytes c c_b size
    unfolding select_checks
    select-middle =
        let second : List Check = check 5 (eqb b.length c.length) ∷ output_checks b.length size in
        let five : List Check = check 5 (eqb b.length m.length) ∷ second in
        ap (λ (cs : List Check). mask_checks b b_b ++ (cs ++ (mask_checks c c_b ++ five))) same-checks

    pub select-right : select_checks b b_b c c_b m bytes size ≡ select_checks b b_b c c_b (forgot m) bytes size
    unfolding select_checks
    select-right =
        let second : List Check = check 5 (eqb b.length m.length) ∷ output_checks b.length size in
        let five : List Check = check 5 (eqb b.length c.length) ∷ second in
        ap (λ (cs : List Check). mask_checks b b_b ++ (mask_checks c c_b ++ (cs ++ five))) same-checks

  -- ---- the checks at one index

  index-alike : (i : ℕ) → index_checks (Some m) bytes i ≡ index_checks (Some (forgot m)) bytes i
  unfolding index_checks
  index-alike i = ap (λ (cs : List Check). cs ++ (index_inside i m ∷ [])) same-checks

  pub at-checks-left : (second : Option Bitmap) (b_b : List ℕ) (i : ℕ)
      → and_not_at_checks (Some m) bytes second b_b i ≡ and_not_at_checks (Some (forgot m)) bytes second b_b i
  unfolding and_not_at_checks length_checks
  at-checks-left second b_b i =
      ap (λ (cs : List Check). cs ++ (index_checks second b_b i ++ length_checks (Some m) second)) (index-alike i)

  pub at-checks-right : (first : Option Bitmap) (a_b : List ℕ) (i : ℕ)
      → and_not_at_checks first a_b (Some m) bytes i ≡ and_not_at_checks first a_b (Some (forgot m)) bytes i
  unfolding and_not_at_checks length_checks
  at-checks-right (Some a) a_b i =
      ap (λ (cs : List Check). index_checks (Some a) a_b i ++ (cs ++ length_checks (Some a) (Some m))) (index-alike i)
  at-checks-right None a_b i = ap (λ (cs : List Check). index_checks None a_b i ++ (cs ++ length_checks None (Some m))) (index-alike i)

  -- ---- the checks of the search for the next flag, and its flags

  pub next-checks-left : (second : Option Bitmap) (b_b : List ℕ) (from : ℕ)
      → next_checks m bytes second b_b from ≡ next_checks (forgot m) bytes second b_b from
  unfolding next_checks
  next-checks-left second b_b from =
      ap (λ (cs : List Check). cs ++ (other_checks m.length second b_b ++ (check 6 (leb from m.length) ∷ []))) same-checks

  pub next-checks-right : (a : Bitmap) (a_b : List ℕ) (from : ℕ)
      → next_checks a a_b (Some m) bytes from ≡ next_checks a a_b (Some (forgot m)) bytes from
  unfolding next_checks other_checks
  next-checks-right a a_b from =
      ap (λ (cs : List Check). mask_checks a a_b ++ ((cs ++ (check 5 (eqb a.length m.length) ∷ [])) ++ (check 6 (leb from a.length) ∷ [])))
      same-checks

  pub free-left : (second : Option Bitmap) (b_b : List ℕ) → free_flags m bytes second b_b ≡ free_flags (forgot m) bytes second b_b
  unfolding free_flags pair_flags shortcut
  free-left (Some b) b_b = refl
  free-left None b_b = refl

  pub free-right : (a : Bitmap) (a_b : List ℕ) → free_flags a a_b (Some m) bytes ≡ free_flags a a_b (Some (forgot m)) bytes
  unfolding free_flags pair_flags shortcut
  free-right a a_b = refl

-- The wrong answers of `proofs/tables/WrongAnswers.antt` are ruled out, by computation.
--
-- Two answers differ if their codes, lists of numbers, differ: whatever a code is, equal answers have equal codes.
use Rattle.words.specs.Place.{or_at, or_over}
use Rattle.words.specs.Changes.{alternating, changes, without_first}
use Rattle.words.specs.Columns.{column}
use Rattle.std.specs.Prelude.{Result, Ok, Err}
use Rattle.std.proofs.Common.{ℕ, ◌≡◌, refl, sym, ap, ◌∙◌, Bool, true, false, ◌&&◌, List, [], ◌∷◌, map, arith, eqb, eq-eqb}
use Rattle.std.proofs.Math.Bool.{xor}
use Rattle.words.specs.Flags.{bits, count, digit, flags_of, over, window}
use Rattle.words.specs.Loops.{whole_words}
use Rattle.words.specs.Merge.{merged}
use Rattle.words.specs.Nth.{nth_one, nth_place}
use Rattle.words.proofs.tables.WrongAnswers.{Tried, WrongAnswers}

-- ---- codes

unfoldable pub same_code : List ℕ → List ℕ → Bool
same_code [] [] = true
same_code [] (n ∷ ns) = false
same_code (m ∷ ms) [] = false
same_code (m ∷ ms) (n ∷ ns) = eqb m n && same_code ms ns

same-itself : (c : List ℕ) → same_code c c ≡ true
unfolding same_code
same-itself [] = refl
same-itself (n ∷ c) = ap (λ (x : Bool). x && same_code c c) (eq-eqb n n refl) ∙ same-itself c

apart : {A : Type 0} (code : A → List ℕ) (a b : A) → same_code (code a) (code b) ≡ false → a ≡ b → ⊥
apart code a b h e =
    let t : true ≡ false = sym (same-itself (code a)) ∙ (ap (λ x. same_code (code a) (code x)) e ∙ h) in
    let z : ◌≡◌ {A = ℕ} 0 1 = cc t in
    omega arith

pub tried : {A : Type 0} (code : A → List ℕ) {answer right first second : A} → answer ≡ right
    → same_code (code right) (code first) ≡ false → same_code (code right) (code second) ≡ false
    → Tried answer right first second
tried code {right = right} {first = first} {second = second} e f s =
    record {
      is_right = e;
      not_first = λ g. apart code right first f (sym e ∙ g);
      not-second = λ g. apart code right second s (sym e ∙ g);
    }

-- ---- the rows

abbrev flags_code : List Bool → List ℕ
flags_code l = map digit l

abbrev nth_code : Result ℕ ℕ → List ℕ
nth_code (Ok k) = 1 ∷ k ∷ []
nth_code (Err k) = 0 ∷ k ∷ []

pub ruled_out : WrongAnswers
unfolding same_code bits count flags_of window merged nth_one nth_place column or_at or_over alternating changes without_first
    over whole_words xor
ruled_out =
    record {
      load-padded = tried flags_code refl refl refl;
      merge_reversed = tried flags_code refl refl refl;
      merge-reversed-at_0 = tried flags_code refl refl refl;
      nth_set_bit_u32 = tried nth_code refl refl refl;
      nth-set-bit-u32-missing = tried nth_code refl refl refl;
      nth_set_bit_u64 = tried nth_code refl refl refl;
      nth-set-bit-u64-missing = tried nth_code refl refl refl;
      nth-set-bit-u64-few = tried nth_code refl refl refl;
      or_flags = tried flags_code refl refl refl;
      changed_flags = tried flags_code refl refl refl;
      without_first = tried flags_code refl refl refl;
      fill_alternating = tried flags_code refl refl refl;
      transpose_block = tried flags_code refl refl refl;
    }

-- The plain reading of `column_counts` (`ColumnPlain` of proofs/statements/ColumnPlain.antt).
use Rattle.std.proofs.Common.{◌≡◌, refl, ap, ap₂, ◌∙◌, List, [], ◌∷◌, ℕ, ◌+◌, ◌/◌, ◌%◌, ◌^◌, ◌<◌, mod-lt, zero-lt-suc}
use Rattle.words.specs.Columns.{column}
use Rattle.words.specs.Flags.{count, digit}
use Rattle.words.specs.Planes.{digit_of}
use Rattle.words.proofs.columns.ColumnLaws.{length-columns, at-columns}
use Rattle.words.proofs.flags.Bits.{digit-is_one}
use Rattle.words.proofs.statements.ColumnPlain.{set_in, ColumnPlain}
use Rattle.words.proofs.theorems.Plain.{at_bits}

-- flag c of a word, as a number, is bit c of it
pub digit-bit : (w c : ℕ) → c < 64 → digit_of w c ≡ w / 2 ^ c % 2
digit-bit w c h = ap digit (at_bits 64 w c h) ∙ digit-is_one (w / 2 ^ c % 2) (mod-lt (w / 2 ^ c) (zero-lt-suc 1))

-- the set flags of a column are the words with its bit set
pub column-set_in : (words : List ℕ) (c : ℕ) → c < 64 → count (column words c) ≡ set_in c words
unfolding column count set_in
column-set_in [] c h = refl
column-set_in (w ∷ words) c h = ap₂ (λ (x y : ℕ). x + y) (digit-bit w c h) (column-set_in words c h)

pub column-plain : ColumnPlain
column-plain =
    record {
      long = length-columns;
      each = λ words c h. at-columns words c h ∙ column-set_in words c h;
    }

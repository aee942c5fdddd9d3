-- The counts after a run of minutes, by bits (`CountPlain` of proofs/statements/CountPlain.antt): `fresh-counts` of Minutes.antt, and the
-- plain reading of `column_counts` of words.
use Rattle.std.proofs.Common.{◌≡◌, ap, ap₂, ◌∙◌, Bool, true, ◌&&◌, List, ℕ, ◌≤◌, length, get_or, le-leb}
use Rattle.words.specs.Columns.{column_counts}
use Rattle.words.proofs.theorems.ColumnPlain.{column-plain}
use Rattle.activity.specs.Checks.{width_fits}
use Rattle.activity.specs.Window.{Answer, accepted, new_of, counts_of}
use Rattle.activity.proofs.statements.CountPlain.{CountPlain}
use Rattle.activity.proofs.statements.Minutes.{last_of, pushes}
use Rattle.activity.proofs.theorems.Minutes.{statements}

fits : (width : ℕ) → 1 ≤ width → width ≤ 256 → width_fits width ≡ true
unfolding width_fits
fits width p q = ap₂ (λ (x y : Bool). x && y) (le-leb 1 width p) (le-leb width 256 q)

counted : (width : ℕ) (minutes : List ℕ) → 1 ≤ width → width ≤ 256
    → counts_of (pushes (new_of width) minutes).value ≡ accepted (column_counts (last_of width minutes))
counted width minutes p q = statements.fresh-counts width minutes (fits width p q)

pub count-plain : CountPlain
count-plain =
    record {
      accepted = λ width minutes p q. ap (λ (a : Answer (List ℕ)). a.refusal) (counted width minutes p q);
      long = λ width minutes p q.
          ap (λ (a : Answer (List ℕ)). length a.value) (counted width minutes p q) ∙ column-plain.long (last_of width minutes);
      each = λ width minutes p q c h.
          ap (λ (a : Answer (List ℕ)). get_or a.value c 0) (counted width minutes p q) ∙ column-plain.each (last_of width minutes) c h;
    }

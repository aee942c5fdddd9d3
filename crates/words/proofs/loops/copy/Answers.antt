-- A list joined by `or` with itself is that list: `zip-self`.
use Rattle.words.specs.Flags.{flags_of, over}
use Rattle.words.specs.Loops.{stretch, whole_words}
use Rattle.std.proofs.Common.{Bool, true, false, ◌||◌, ◌≡◌, refl, ap, ◌∙◌}
use Rattle.words.proofs.ops.Combining.{zip-self}
use Rattle.words.proofs.loops.copy.Goals as goal

or_self : (x : Bool) → (x || x) ≡ x
or_self true = refl
or_self false = refl

pub returns : goal.returns
returns c =
    c.combine.ensures
    ∙ ap (λ l. over (flags_of c.args.out.now) (whole_words l))
    (zip-self (λ x y z. x || y) or_self (stretch _ _ _))

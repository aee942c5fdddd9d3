-- The operations on flags.
use Rattle.std.specs.Prelude.{Bool, not, cond, ◌&&◌, ◌||◌, List, [], ◌∷◌}
use Rattle.std.specs.Bool.{xor}
use Rattle.words.specs.declared.ops.Op.{Op}
use Rattle.words.specs.declared.ops.Op.TheVariants.{And, AndNot, Or, OrNot, Xor, Not, Select}

-- `and_not` and `or_not` invert the second flag first
abbrev pub and_not : Bool → Bool → Bool
and_not x y = x && not y

abbrev pub or_not : Bool → Bool → Bool
or_not x y = x || not y

-- an operation on the flags of the first, the second and the third mask. `Select` takes the second's where the first's is
-- set, else the third's.
abbrev pub op_of : Op → Bool → Bool → Bool → Bool
op_of And x y z = x && y
op_of AndNot x y z = and_not x y
op_of Or x y z = x || y
op_of OrNot x y z = or_not x y
op_of Xor x y z = xor x y
op_of Not x y z = not x
op_of Select x y z = cond x y z

-- f of the flags of a, b and c, place by place, as many as the shortest list has
unfoldable pub zip3 : (Bool → Bool → Bool → Bool) → List Bool → List Bool → List Bool → List Bool
zip3 f [] b c = []
zip3 f (x ∷ a) [] c = []
zip3 f (x ∷ a) (y ∷ b) [] = []
zip3 f (x ∷ a) (y ∷ b) (z ∷ c) = f x y z ∷ zip3 f a b c

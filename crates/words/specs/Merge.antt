-- Two neighbouring words read as one.
use Rattle.std.specs.Prelude.{ℕ, Bool, cond, List, ◌++◌, length, take, drop, ltb}

-- of a and b in a row, starting at flag `offset`, as many flags as a has; a itself if `offset` is at least the length of a
unfoldable pub merged : List Bool → List Bool → ℕ → List Bool
merged a b offset = cond (ltb offset (length a)) (take (length a) (drop offset (a ++ b))) a

-- What the private functions of `write` promise. No contract of a public function cites it, so it need not be believed.
use Rattle.std.specs.Prelude.{ℕ, ℤ, pos, List, ◌++◌, map, take, drop}
use Rattle.words.specs.Flags.{over, word_flags}
use Rattle.masks.specs.TrueIdx.{ones_from}

-- l with m written over it from element n on
unfoldable pub put_from : List ℤ → ℕ → List ℤ → List ℤ
put_from l n m = take n l ++ over (drop n l) m

-- the positions of the set flags of a word whose first flag is at position k
abbrev pub set_places : ℕ → ℕ → List ℤ
set_places k w = map pos (ones_from k (word_flags w))

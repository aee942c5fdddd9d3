-- Stretches of lent bytes, combined and padded.
use Rattle.std.specs.Prelude.{ℕ, ◌+◌, ◌*◌, ◌/◌, Bool, List, length}
use Rattle.words.specs.Flags.{flags_of, window}
use Rattle.words.specs.Ops.{op_of, zip3}
use Rattle.words.specs.declared.ops.Op.{Op}

-- of `bytes`, starting at flag `start`, n flags; zeros past the end
abbrev pub stretch : List ℕ → ℕ → ℕ → List Bool
stretch bytes start n = window (flags_of bytes) start n

-- `op` on three stretches, flag by flag: of a starting at flag sa, of b at flag sb, and of c at flag sc, n flags of each
abbrev pub combined : Op → List ℕ → ℕ → List ℕ → ℕ → List ℕ → ℕ → ℕ → List Bool
combined op a sa b sb c sc n = zip3 (op_of op) (stretch a sa n) (stretch b sb n) (stretch c sc n)

-- the list with zeros after it that make it a whole number of words
unfoldable pub whole_words : List Bool → List Bool
whole_words l = window l 0 (64 * ((length l + 63) / 64))

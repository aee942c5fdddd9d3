-- Lists of flags as bytes, and bytes written over an output.
use Rattle.std.specs.Prelude.{ℕ, zero, suc, ◌+◌, ◌*◌, ◌/◌, Bool, List, [], ◌∷◌, ◌++◌, length, take, drop}
use Rattle.words.specs.Flags.{window, word_of, over}

-- n bytes of a list of flags, eight flags a byte, zeros past its end
unfoldable pub packed : ℕ → List Bool → List ℕ
packed zero l = []
packed (suc n) l = word_of (window l 0 8) ∷ packed n (drop 8 l)

-- how many bytes the frozen bytes of n flags are
abbrev pub frozen_size : ℕ → ℕ
frozen_size n = 8 * ((n + 63) / 64)

-- the frozen bytes of the reference (docs/REFERENCE.md): whole words, with zero bits after the last flag
unfoldable pub frozen : List Bool → List ℕ
frozen l = packed (frozen_size (length l)) l

-- m written over the bytes starting at byte `at`: what does not fit is left out, and other bytes are unchanged
unfoldable pub over_from : List ℕ → ℕ → List ℕ → List ℕ
over_from bytes at m = take at bytes ++ over (drop at bytes) m

-- an output with the frozen bytes of some flags written from its first byte on
abbrev pub with_frozen : List ℕ → List Bool → List ℕ
with_frozen out flags = over out (frozen flags)

-- What the private functions of run_ends require and promise. No contract of a public function cites it, so it need not be believed.
use Rattle.std.specs.Prelude.{◌≡◌, ℕ, ◌+◌, ◌*◌, ◌/◌, ◌%◌, ◌≤◌, ◌<◌, ℤ, Bool, true, false, List, get_or, length}
use Rattle.words.specs.Flags.{over, window, word_flags}
use Rattle.masks.specs.Checks.{limit}
use Rattle.masks.specs.Frozen.{frozen_size}
use Rattle.run_ends.specs.Rules.{ends_hold}

-- what is known of run ends whose checks have passed: of n flags, with values that start at `start`, and an output of `size` bytes
pub record Readable (ends : List ℤ) (start n size : ℕ) : Type 0 where
  pub holds : ends_hold n ends ≡ true
  pub starts : start ≤ limit
  pub few : length ends ≤ limit
  pub short : n ≤ limit
  pub room : frozen_size n ≤ size

-- `now` is `old` with those words of the list `all` written to its start that end at position `at` or before; the word in progress has the
-- flags after them, up to before `at`
pub record WordsWritten (old now all : List Bool) (word at : ℕ) : Type 0 where
  pub whole : now ≡ over old (window all 0 (64 * (at / 64)))
  pub begun : (j : ℕ) → j < at % 64 → get_or (word_flags word) j false ≡ get_or all (64 * (at / 64) + j) false

-- The conditions and statements of the contracts inside the crate.
use Rattle.std.specs.Prelude.{ℕ, ◌+◌, ◌≤◌, ◌<◌, ◌≡◌, true, List, take, drop, get_or}
use Rattle.words.specs.Columns.{column_counts}
use Rattle.words.specs.Planes.{digit_of}
use Rattle.activity.specs.Checks.{all_zero}
use Rattle.activity.specs.declared.window.ActivityWindow.{ActivityWindow}

-- a record that passes the check, fact by fact
pub record Good (a : ActivityWindow) : Type 0 where
  pub some : 1 ≤ a.width
  pub most : a.width ≤ 256
  pub inside : a.place < a.width
  pub within : a.fill ≤ a.width
  pub after : a.fill < a.width → a.place ≡ a.fill
  pub unused : all_zero (drop a.fill a.words) ≡ true
  pub counted : a.counts ≡ column_counts (take a.fill a.words)

-- in `counts`, the first of which is that of flag s, the first n are at most 256, and the flags of w are counted in them
unfoldable pub Holds : List ℕ → ℕ → ℕ → ℕ → Type 0
Holds counts s n w = (c : ℕ) → c < n → (digit_of w (s + c) ≤ get_or counts c 0) × (get_or counts c 0 ≤ 256)

-- `counts`, the first of which is that of flag s, with the flags of `old` taken off and those of `new` added are `out`, for the first k
unfoldable pub Exchanged : List ℕ → ℕ → ℕ → ℕ → List ℕ → ℕ → Type 0
Exchanged counts s old new out k = (c : ℕ) → c < k
    → get_or out c 0 + digit_of old (s + c) ≡ get_or counts c 0 + digit_of new (s + c)

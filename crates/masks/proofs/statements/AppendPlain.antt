-- What each call appends, in plain words: how many flags, and which is flag j of them.
--
-- The tables below read only the arguments: bits of words and bytes by their numbers, and none of the lists that `Appends` makes.
-- `AppendsPlainly` is proved of every call that appends, on every input that it accepts.
use Rattle.std.specs.Prelude.{ℕ, ◌+◌, ◌*◌, ◌/◌, ◌%◌, ◌<◌, ◌≡◌, Bool, false, cond, List, ltb, length, get_or}
use Rattle.words.specs.Flags.{bit_at, flag_at}
use Rattle.masks.specs.equations.Answer.{given}
use Rattle.masks.specs.equations.Appends.{Append, push_flag, extend_constant, push_word, extend_slice, extend_repeated}
use Rattle.masks.specs.equations.Appends.{extend_bitmap, extend_gather, extend_opt_gather, append_answer, append_bytes}
use Rattle.masks.specs.declared.builder.BitmapBuilder.{BitmapBuilder}

-- how many flags a call appends
abbrev pub new_count : Append → ℕ
new_count (push_flag x) = 1
new_count (extend_constant n x) = n
new_count (push_word w n) = n
new_count (extend_slice bytes start n) = n
new_count (extend_repeated bytes start n k) = n * k
new_count (extend_bitmap m bytes start n) = n
new_count (extend_gather bytes start n idxs) = length idxs
new_count (extend_opt_gather bytes start n idxs) = length idxs

-- flag j of the flags that a call appends
abbrev pub new_flag : Append → ℕ → Bool
new_flag (push_flag x) j = x
new_flag (extend_constant n x) j = x
new_flag (push_word w n) j = bit_at w j
new_flag (extend_slice bytes start n) j = flag_at bytes (start + j)
new_flag (extend_repeated bytes start n k) j = flag_at bytes (start + j / k)
new_flag (extend_bitmap m bytes start n) j = flag_at bytes (m.start + (start + j))
new_flag (extend_gather bytes start n idxs) j = flag_at bytes (start + get_or idxs j 0)
-- an index at or past the span's length appends 0
new_flag (extend_opt_gather bytes start n idxs) j = cond (ltb (get_or idxs j 0) n) (flag_at bytes (start + get_or idxs j 0)) false

-- flag j of a builder: of its buffer if its word is finished, else of the word in progress
abbrev pub builder_flag : BitmapBuilder → List ℕ → ℕ → Bool
builder_flag b buf j = cond (ltb j (64 * (b.length / 64))) (flag_at buf j) (bit_at b.word (j % 64))

-- an accepted call returned the builder `new`: its flags are those before the call, then the new ones
pub record AppendsPlainly (a : Append) (b : BitmapBuilder) (buf : List ℕ) (new : BitmapBuilder) : Type 0 where
  pub long : new.length ≡ b.length + new_count a
  pub old : (j : ℕ) → j < b.length → builder_flag new (append_bytes a b buf) j ≡ builder_flag b buf j
  pub added : (j : ℕ) → j < new_count a → builder_flag new (append_bytes a b buf) (b.length + j) ≡ new_flag a j

abbrev pub AppendPlain : Type 0
AppendPlain =
    (a : Append) (b : BitmapBuilder) (buf : List ℕ) (new : BitmapBuilder) → given new ≡ append_answer a b buf → AppendsPlainly a b buf new

-- What the last call left.
use Rattle.std.specs.Prelude.{ℕ, ℤ, List}
use Rattle.notation.specs.declared.names.Output.{Output}
use Rattle.notation.specs.declared.names.Output.TheVariants.{Nothing, Bytes, Numbers, EndsAndBytes}

-- with a call's output, the bytes before the call: `had`, as they were, or `lent`, those of the line of o, if the call writes bytes
abbrev pub bytes_before : Output → List ℕ → List ℕ → List ℕ
bytes_before Bytes had lent = lent
bytes_before Numbers had lent = had
bytes_before EndsAndBytes had lent = lent
bytes_before Nothing had lent = had

-- with a call's output, the numbers before the call: `had`, as they were, or `lent`, those of the line of i, if the call writes numbers
abbrev pub numbers_before : Output → List ℕ → List ℕ → List ℕ
numbers_before Bytes had lent = had
numbers_before Numbers had lent = lent
numbers_before EndsAndBytes had lent = had
numbers_before Nothing had lent = had

-- with a call's output, the ends before the call: `had`, as they were, or `lent`, those of the line of e, if the call writes ends
abbrev pub ends_before : Output → List ℤ → List ℤ → List ℤ
ends_before Bytes had lent = had
ends_before Numbers had lent = had
ends_before EndsAndBytes had lent = lent
ends_before Nothing had lent = had

-- The calls made for a request.
use Rattle.std.specs.Prelude.{ℕ, ◌+◌, ◌-◌, ◌^◌, min}
use Rattle.notation.specs.Answer.{tokens_of}
use Rattle.notation.specs.Sums.{first_sum, answer_mixed, bytes_mixed, numbers_mixed, ends_mixed}
use Rattle.notation.specs.declared.last.Last.{Last}
use Rattle.notation.specs.declared.names.Output.{Output}
use Rattle.notation.specs.declared.names.Output.TheVariants.{Nothing, Bytes, Numbers, EndsAndBytes}
use Rattle.notation.specs.declared.outcome.Ran.{Ran}
use Rattle.notation.specs.declared.sums.Checksum.{Checksum}

-- one more than n, at most the largest number of 64 bits
abbrev pub one_more : ℕ → ℕ
one_more n = min (n + 1) (2 ^ 64 - 1)

-- no call yet
abbrev pub none_made : Ran
none_made = record { calls = 0; sum = first_sum }

-- the checksum with all of an output taken in, of two outputs the ends first
abbrev pub output_mixed : Output → Checksum → Last → Checksum
output_mixed Bytes h last = bytes_mixed h last.bytes.items
output_mixed Numbers h last = numbers_mixed h last.numbers.items
output_mixed EndsAndBytes h last = bytes_mixed (ends_mixed h last.ends.items) last.bytes.items
output_mixed Nothing h last = h

-- with one more call taken in: its answer and its output
abbrev pub taken : Output → Last → Ran → Ran
taken output last r = record { calls = one_more r.calls; sum = output_mixed output (answer_mixed r.sum (tokens_of last.answer)) last }

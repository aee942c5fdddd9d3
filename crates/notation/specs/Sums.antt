-- The checksum of docs/REQUESTS.md.
use Rattle.std.specs.Prelude.{ℕ, zero, suc, ℤ, ◌+◌, ◌*◌, ◌/◌, ◌%◌, ◌^◌, bit_or, bit_xor, List, fold, length, reverse, take, drop}
use Rattle.std.specs.Int.{w32, cast_unsigned}
use Rattle.notation.specs.declared.answer.Token.{Token}
use Rattle.notation.specs.declared.answer.Token.TheVariants.{Number, Unknown, Missing}
use Rattle.notation.specs.declared.sums.Checksum.{Checksum}

-- h xor (h << k) and h xor (h >> k), of 64 bits
abbrev pub xor_left : ℕ → ℕ → ℕ
xor_left k h = bit_xor h ((h * 2 ^ k) % 2 ^ 64)

abbrev pub xor_right : ℕ → ℕ → ℕ
xor_right k h = bit_xor h (h / 2 ^ k)

-- the checksum with a number taken in, by the four steps
unfoldable pub mixed : Checksum → ℕ → Checksum
mixed h v = record { 0 = xor_left 17 (xor_right 7 (xor_left 13 ((h.0 + v) % 2 ^ 64))) }

-- the sum of nothing
abbrev pub first_sum : Checksum
first_sum = record { 0 = 0xcbf29ce484222325 }

-- with a token taken in: its kind and its value
abbrev pub token_mixed : Checksum → Token → Checksum
token_mixed h (Number n) = mixed (mixed h 0) n
token_mixed h Unknown = mixed (mixed h 1) 0
token_mixed h Missing = mixed (mixed h 2) 0

-- with an answer taken in: how many tokens it has, and each of them
abbrev pub answer_mixed : Checksum → List Token → Checksum
answer_mixed h tokens = fold token_mixed (mixed h (length tokens)) tokens

-- bytes as a number, the last byte the highest
abbrev pub word_of : List ℕ → ℕ
word_of bytes = fold (λ w b. bit_or ((w * 2 ^ 8) % 2 ^ 64) b) 0 (reverse bytes)

-- with a number of parts taken in, each the first eight bytes that are left, or all if there are fewer
abbrev pub parts_mixed : ℕ → Checksum → List ℕ → Checksum
parts_mixed zero h bytes = h
parts_mixed (suc k) h bytes = parts_mixed k (mixed h (word_of (take 8 bytes))) (drop 8 bytes)

-- with bytes taken in, eight at a time
abbrev pub bytes_mixed : Checksum → List ℕ → Checksum
bytes_mixed h bytes = parts_mixed ((length bytes + 7) / 8) h bytes

-- with each number taken in
abbrev pub numbers_mixed : Checksum → List ℕ → Checksum
numbers_mixed h numbers = fold mixed h numbers

-- with an end taken in: the number that its 32 bits have without a sign
abbrev pub end_mixed : Checksum → ℤ → Checksum
end_mixed h end = mixed h (cast_unsigned w32 end)

-- with each end taken in
abbrev pub ends_mixed : Checksum → List ℤ → Checksum
ends_mixed h ends = fold end_mixed h ends

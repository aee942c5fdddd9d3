-- The arguments of one call as its code reads them: argument i as a count, a number, a flag, and the serials.
use Rattle.std.specs.Prelude.{ℕ, Bool, false, ◌%◌, ◌^◌, ◌==◌, not, Option, None, unwrap_or, slice_get, if◌then◌else◌}
use Rattle.std.specs.Option.{option_flatten}
use Rattle.notation.specs.declared.arguments.Arguments.{Arguments}
use Rattle.notation.specs.declared.arguments.Serial.{Serial}
use Rattle.notation.specs.declared.arguments.Serial.TheVariants.{First, Second, Third}

-- argument i as a zero count: none for `?`, and none if there is no argument i
abbrev pub count_at : Arguments → ℕ → Option ℕ
count_at a i = option_flatten (slice_get a.numbers i)

-- argument i as the zero count of a mask: none also where a later token of its place is `?`
abbrev pub unset_at : Arguments → ℕ → Option ℕ
unset_at a i = if unwrap_or (slice_get a.unknown i) false then None else count_at a i

-- argument i as a number, 0 if it is not known or absent
abbrev pub number_at : Arguments → ℕ → ℕ
number_at a i = unwrap_or (count_at a i) 0

-- the low 32 bits of argument i
abbrev pub low_at : Arguments → ℕ → ℕ
low_at a i = number_at a i % 2 ^ 32

-- whether argument i is set, as a flag
abbrev pub flag_at : Arguments → ℕ → Bool
flag_at a i = not (number_at a i == 0)

-- the serial of a record, 0 if the line has none for it
abbrev pub serial_at : Arguments → Serial → ℕ
serial_at a First = a.serials.first
serial_at a Second = a.serials.second
serial_at a Third = a.serials.third

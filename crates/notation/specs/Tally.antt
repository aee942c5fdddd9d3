-- How requests are counted.
use Rattle.std.specs.Prelude.{ℕ, Bool, false, ◌+◌, ◌-◌, ◌^◌, min, nat_lt, List, Option, Some, None, slice_get, slice_set}
use Rattle.std.specs.Prelude.{◌++◌, codes, decimal}
use Rattle.notation.specs.Outcome.{one_more}
use Rattle.notation.specs.declared.outcome.Outcome.{Outcome}
use Rattle.notation.specs.declared.outcome.Verdict.{Verdict}
use Rattle.notation.specs.declared.outcome.Verdict.TheVariants.{Same, Differs, Made}
use Rattle.notation.specs.declared.tally.Count.{Count}
use Rattle.notation.specs.declared.tally.Row.{Row}
use Rattle.notation.specs.declared.tally.Tally.{Tally}

-- no request yet
abbrev pub no_count : Count
no_count = record { requests = 0; calls = 0; differing = 0 }

-- these rows, and nothing counted
abbrev pub begun : Tally → Tally
begun t = record t { total = no_count; made = 0; lines = 0; malformed = 0; wrong = 0 }

-- one more line
abbrev pub line_counted : Tally → Tally
line_counted t = record t { lines = one_more t.lines }

-- whether a wrong line is among the first twenty, which are printed
abbrev pub shows : Tally → Bool
shows t = nat_lt t.wrong 20

-- one more wrong line
abbrev pub wrong_counted : Tally → Tally
wrong_counted t = record t { wrong = one_more t.wrong }

-- one more malformed line
abbrev pub malformed_counted : Tally → Tally
malformed_counted t = wrong_counted (record t { malformed = one_more t.malformed })

-- one more request, with its calls
abbrev pub added : Count → ℕ → Verdict → Count
added c n Differs = record { requests = one_more c.requests; calls = min (c.calls + n) (2 ^ 64 - 1); differing = one_more c.differing }
added c n Same = record { requests = one_more c.requests; calls = min (c.calls + n) (2 ^ 64 - 1); differing = c.differing }
added c n Made = record { requests = one_more c.requests; calls = min (c.calls + n) (2 ^ 64 - 1); differing = c.differing }

-- the rows with one more request in that of its call
abbrev pub row_added : List Row → Option Row → Outcome → List Row
row_added rows None o = rows
row_added rows (Some row) o = slice_set rows o.place (record row { count = added row.count o.calls o.verdict })

-- a request in the rows and in the total
abbrev pub request_added : Tally → Outcome → Tally
request_added t o = record t { rows = row_added t.rows (slice_get t.rows o.place) o; total = added t.total o.calls o.verdict }

-- a request counted by its verdict
abbrev pub by_verdict : Verdict → Tally → Tally
by_verdict Same t = t
by_verdict Differs t = wrong_counted t
by_verdict Made t = record t { made = one_more t.made }

abbrev pub counted : Tally → Outcome → Tally
counted t o = by_verdict o.verdict (request_added t o)

-- whether a request is printed: it differs, and is among the first lines that are wrong
abbrev pub is_printed : Tally → Verdict → Bool
is_printed t Same = false
is_printed t Differs = shows t
is_printed t Made = false

-- what is printed of a count
abbrev pub count_text : Count → List ℕ
count_text c =
    decimal c.requests ++ (codes " requests, " ++ (decimal c.calls ++ (codes " calls, " ++ (decimal c.differing ++ codes " differ"))))

-- Both sides of each limit of the calls on run ends, and what a refused call leaves. Rows as in `LargeRows`.
use Rattle.std.specs.Prelude.{ℕ, ℤ, pos, negsuc, List, [], ◌∷◌, ◌++◌, replicate, None}
use Rattle.masks.specs.Mask.{mask_of}
use Rattle.masks.proofs.tables.EdgeRows.{SplitRow}
use Rattle.masks.proofs.tables.LargeRows.{Hold}
use Rattle.masks.proofs.tables.StartRows.{numbers}
use Rattle.masks.proofs.tables.Witnesses.{byte, number_of, whole}
use Rattle.run_ends.specs.Rules.{ends_of}
use Rattle.run_ends.specs.equations.Read.{from_run_ends_bytes}
use Rattle.run_ends.specs.equations.Write.{to_run_ends_bytes, to_run_ends_ends, to_run_ends_of}
use Rattle.run_ends.proofs.tables.Witnesses.{read_number, write_number}

-- the number of a list of eight flags in two runs
abbrev pub two_runs : ℤ → ℤ → ℕ
two_runs first last = read_number (first ∷ last ∷ []) (mask_of 0 2 None) 8 8

-- the number of a list of n flags in one run, and of one in none
abbrev pub one_run : ℤ → ℕ → ℕ → ℕ
one_run last n size = read_number (last ∷ []) (mask_of 0 1 None) n size

abbrev pub no_runs : ℕ → ℕ
no_runs n = read_number [] (mask_of 0 0 None) n 8

-- the number if there are n values for two ends
abbrev pub with_values : ℕ → ℕ
with_values n = read_number (pos 3 ∷ pos 8 ∷ []) (mask_of 0 n None) 8 8

-- what `from_run_ends` leaves in nine bytes, of values that start at flag 0 of the byte, which has the flags 1,0,1,1,0,1,0,0
abbrev pub read_bytes : List ℤ → ℕ → ℕ → List ℕ
read_bytes ends values n = from_run_ends_bytes ends (mask_of 0 values None) byte n (replicate 9 0xAA)

-- the number of a list of n flags that alternate, and of n ones
abbrev pub alternate : ℕ → ℕ → ℕ → ℕ
alternate n places size = number_of (to_run_ends_of (mask_of 0 n None) (replicate 9 0x55) places size)

abbrev pub all_ones : ℕ → ℕ → ℕ → ℕ
all_ones n places size = number_of (to_run_ends_of (mask_of 0 n None) (replicate 9 0xFF) places size)

-- the positions that `to_run_ends` leaves in places that held 7, of n flags of the byte that start at `start`, and what it leaves in nine
-- bytes; with so many places, or bytes, in the other output
abbrev pub written_places : ℕ → ℕ → ℕ → ℕ → List ℕ
written_places start n places size = ends_of (to_run_ends_ends (mask_of start n None) byte size (replicate places (pos 7)))

abbrev pub written_bytes : ℕ → ℕ → ℕ → List ℕ
written_bytes start n places = to_run_ends_bytes (mask_of start n None) byte places (replicate 9 0xAA)

unfoldable pub edge_rows : List SplitRow
edge_rows =
    -- 13: the last end is at or above the length, which holds too of the largest end that there is.
    numbers (two_runs (pos 1) (pos 8) ∷ two_runs (pos 1) (pos 9) ∷ two_runs (pos 1) (pos 2147483647) ∷ two_runs (pos 1) (pos 7) ∷ [])
    (0 ∷ 0 ∷ 0 ∷ 13 ∷ [])
    -- Each end is above 0 and above the one before it.
    ∷ numbers
    (two_runs (pos 0) (pos 8)
    ∷ two_runs (negsuc 0) (pos 8)
    ∷ two_runs (negsuc 2) (pos 8)
    ∷ two_runs (negsuc 2147483647) (pos 8)
    ∷ two_runs (pos 1) (negsuc 0)
    ∷ [])
    (13 ∷ 13 ∷ 13 ∷ 13 ∷ 13 ∷ [])
    ∷ numbers (two_runs (pos 7) (pos 8) ∷ two_runs (pos 8) (pos 8) ∷ two_runs (pos 9) (pos 8) ∷ []) (0 ∷ 13 ∷ 13 ∷ [])
    -- Ends past the length rise too.
    ∷ numbers (two_runs (pos 8) (pos 9) ∷ two_runs (pos 9) (pos 10) ∷ two_runs (pos 10) (pos 9) ∷ []) (0 ∷ 0 ∷ 13 ∷ [])
    -- A length of 0 is read with no runs and with any; each other length with some.
    ∷ numbers (no_runs 0 ∷ no_runs 1 ∷ []) (0 ∷ 13 ∷ [])
    ∷ numbers (one_run (pos 1) 0 0 ∷ one_run (pos 7) 0 0 ∷ one_run (pos 0) 0 0 ∷ []) (0 ∷ 0 ∷ 13 ∷ [])
    -- There are as many values as ends.
    ∷ numbers (with_values 2 ∷ with_values 1 ∷ with_values 3 ∷ with_values 0 ∷ []) (0 ∷ 13 ∷ 13 ∷ 13 ∷ [])
    -- 1: the length stated, up to the limit; no end is held to it.
    ∷ numbers
    (one_run (pos 4194304) 4194304 524288
    ∷ one_run (pos 4194305) 4194304 524288
    ∷ one_run (pos 4194305) 4194305 524296
    ∷ one_run (pos 1) 4294967296 8
    ∷ one_run (pos 1) 18446744073709551615 8
    ∷ [])
    (0 ∷ 0 ∷ 1 ∷ 1 ∷ 1 ∷ [])
    -- 9: eight bytes for up to 64 flags, whatever the last end is.
    ∷ numbers
    (one_run (pos 64) 64 8 ∷ one_run (pos 64) 64 7 ∷ one_run (pos 200) 64 8 ∷ one_run (pos 65) 65 16 ∷ one_run (pos 65) 65 15 ∷ [])
    (0 ∷ 9 ∷ 0 ∷ 0 ∷ 9 ∷ [])
    -- What is written, and what is left past it: 1,0,0,1,1 and 1,1,0; a run up to the end of the word; nothing; nothing, since refused.
    ∷ numbers (read_bytes (pos 1 ∷ pos 3 ∷ pos 5 ∷ []) 3 5) (0x19 ∷ (replicate 7 0 ++ (0xAA ∷ [])))
    ∷ numbers (read_bytes (pos 2 ∷ pos 9 ∷ []) 2 3) (0x03 ∷ (replicate 7 0 ++ (0xAA ∷ [])))
    ∷ numbers (read_bytes (pos 60 ∷ pos 61 ∷ pos 64 ∷ []) 3 64) (replicate 7 0xFF ++ (0xEF ∷ 0xAA ∷ []))
    ∷ numbers (read_bytes [] 0 0) (replicate 9 0xAA)
    ∷ numbers (read_bytes (pos 3 ∷ pos 2 ∷ []) 2 2) (replicate 9 0xAA)
    -- Runs over the ends of words: 62 flags, then 3 and 65.
    ∷ numbers
    (from_run_ends_bytes (pos 62 ∷ pos 65 ∷ pos 130 ∷ []) (mask_of 0 3 None) byte 130 (replicate 24 0xAA))
    (replicate 7 0xFF ++ (0x3F ∷ 0xFE ∷ (replicate 7 0xFF ++ (0x03 ∷ replicate 7 0))))
    -- 9 of the writer: a place for each of the byte's six runs, and eight bytes for up to 64.
    ∷ numbers (write_number whole 6 8 ∷ write_number whole 5 8 ∷ write_number whole 6 7 ∷ write_number whole 5 7 ∷ []) (0 ∷ 9 ∷ 9 ∷ 9 ∷ [])
    ∷ numbers (alternate 64 64 8 ∷ alternate 65 65 16 ∷ alternate 65 65 15 ∷ alternate 65 64 16 ∷ []) (0 ∷ 0 ∷ 9 ∷ 9 ∷ [])
    -- It is the runs that need room, not the flags; no flags need none.
    ∷ numbers (all_ones 72 1 8 ∷ all_ones 72 0 8 ∷ all_ones 72 1 7 ∷ all_ones 0 0 0 ∷ all_ones 1 0 0 ∷ []) (0 ∷ 9 ∷ 9 ∷ 0 ∷ 9 ∷ [])
    -- 1: the start, up to the limit.
    ∷ numbers
    (number_of (to_run_ends_of (mask_of 4194304 0 None) [] 0 0) ∷ number_of (to_run_ends_of (mask_of 4194305 0 None) [] 0 0) ∷ [])
    (2 ∷ 1 ∷ [])
    -- What is written, and what is left past it: 1,0,1,1,0,1,0,0; from flag 2 on 1,1,0; one flag; no flag; nothing, since refused.
    ∷ numbers (written_places 0 8 8 8) (1 ∷ 2 ∷ 4 ∷ 5 ∷ 6 ∷ 8 ∷ 7 ∷ 7 ∷ [])
    ∷ numbers (written_bytes 0 8 8) (0x15 ∷ (replicate 7 0 ++ (0xAA ∷ [])))
    ∷ numbers (written_places 2 3 3 8) (2 ∷ 3 ∷ 7 ∷ [])
    ∷ numbers (written_bytes 2 3 3) (0x01 ∷ (replicate 7 0 ++ (0xAA ∷ [])))
    ∷ numbers (written_places 1 1 2 8) (1 ∷ 7 ∷ [])
    ∷ numbers (written_bytes 1 1 2) (0x00 ∷ (replicate 7 0 ++ (0xAA ∷ [])))
    ∷ numbers (written_places 4 0 2 8 ++ written_bytes 4 0 2) (7 ∷ 7 ∷ replicate 9 0xAA)
    ∷ numbers (written_places 0 8 5 8 ++ written_bytes 0 8 5) (replicate 5 7 ++ replicate 9 0xAA)
    ∷ numbers (written_places 0 8 6 7) (replicate 6 7)
    -- Runs over the end of a word: 66 ones and six zeros.
    ∷ numbers
    (ends_of (to_run_ends_ends (mask_of 0 72 None) (replicate 8 0xFF ++ (0x03 ∷ [])) 8 (replicate 3 (pos 7))))
    (66 ∷ 72 ∷ 7 ∷ [])
    ∷ []

pub record EdgesHold : Type 0 where
  pub edges : Hold edge_rows

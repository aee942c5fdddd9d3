use Rattle.std.proofs.Common.{◌≡◌, ◌+◌, ◌-◌}
use Rattle.words.specs.Flags.{flags_of, window, word_flags}
use Rattle.grids.specs.Workers.{every}
use Rattle.grids.proofs.columns.gather_every.Given as goal

abbrev pub invariant-loop-j : goal.invariant-loop-j
invariant-loop-j l = word_flags l.w ≡ window (every (flags_of l.bytes) l.first l.step (l.from + (l.n - l.j)) l.j) 0 64

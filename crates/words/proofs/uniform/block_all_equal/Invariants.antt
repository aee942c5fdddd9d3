-- The invariant: `others` has a set flag if and only if one of the first i words has a flag other than `flag`. One more is `any_step`.
use Rattle.std.proofs.Common.{◌*◌, ◌≡◌, map}
use Rattle.std.proofs.Math.Bool.{xor}
use Rattle.words.specs.Flags.{flags_of, window, bits}
use Rattle.words.specs.Counts.{any_set}
use Rattle.words.proofs.uniform.block_all_equal.Given as goal

abbrev pub invariant-loop-i : goal.invariant-loop-i
invariant-loop-i l =
    any_set (bits 64 l.others)
    ≡ any_set (window (map (xor l.flag) (window (flags_of l.words.bytes.now) (8 * l.words.at) (64 * l.words.n))) 0 (64 * l.i))

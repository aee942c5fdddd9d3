-- The invariant: the sum of i digits is below 2 ^ i, and with what the planes above the first i make it is the number that all make.
use Rattle.std.proofs.Common.{ℕ, ◌+◌, ◌*◌, ◌^◌, ◌<◌, ◌≡◌, drop}
use Rattle.words.specs.Planes.{planes_at}
use Rattle.words.proofs.planes.column_by.Given as goal

abbrev pub invariant-loop-i : goal.invariant-loop-i
invariant-loop-i g l =
    (l.sum < 2 ^ l.i) × ((c : ℕ) → c < 32 → l.mask ≡ 2 ^ c
    → l.sum + 2 ^ l.i * planes_at (drop l.i l.planes) (l.s + c) ≡ planes_at l.planes (l.s + c))

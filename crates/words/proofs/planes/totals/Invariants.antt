-- The invariants: the planes have the sums of all words but those left, of which `rest` is the end.
use Rattle.std.proofs.Common.{◌≡◌, drop}
use Rattle.std.specs.Slice.Iter.{chunks_exact_rest, chunks_exact_size}
use Rattle.words.specs.Planes.{Totals}
use Rattle.words.proofs.planes.PlaneLaws.{EndOf}
use Rattle.words.proofs.planes.totals.Given as goal

abbrev pub invariant-loop-eight : goal.invariant-loop-eight
invariant-loop-eight l = record {
  eights : chunks_exact_size l.eight-iterator ≡ 8;
  end : EndOf l.words (chunks_exact_rest l.eight-iterator);
  totals : Totals l.words l.planes (chunks_exact_rest l.eight-iterator);
}

abbrev pub invariant-loop-w : goal.invariant-loop-w
invariant-loop-w l = Totals l.words l.planes (drop l.w-index l.rest)

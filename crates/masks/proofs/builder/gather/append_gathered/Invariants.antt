-- The invariant: appending the flags at the indices that are left results in the builder that appending all of them results in.
-- There is room for them, and appending none changes nothing.
use Rattle.std.proofs.Common.{◌≡◌, [], length}
use Rattle.std.specs.Slice.Iter.{chunks_rest, chunks_size}
use Rattle.words.specs.Loops.{stretch}
use Rattle.masks.specs.Appends.{gathered}
use Rattle.masks.specs.Builder.{filling, appended}
use Rattle.masks.specs.Workers.{Room}
use Rattle.masks.proofs.builder.gather.append_gathered.Given as goal

abbrev pub invariant-loop-part : goal.invariant-loop-part
invariant-loop-part l = record {
  parts : chunks_size l.part-iterator ≡ 64;
  left : appended (filling l.grown l.buf) (gathered (stretch l.span.bytes.now l.span.start l.span.length) (chunks_rest l.part-iterator))
      ≡ appended (filling l.initial.grown l.initial.buf) (gathered (stretch l.span.bytes.now l.span.start l.span.length) l.idxs);
  none : appended (filling l.grown l.buf) [] ≡ filling l.grown l.buf;
  room : Room l.grown (length (chunks_rest l.part-iterator)) (length l.buf);
}

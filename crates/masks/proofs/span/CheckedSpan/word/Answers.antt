-- A start at a byte is one load; inside a byte two neighbouring words are merged (`inside-byte`).
use Rattle.masks.proofs.chunks.ChunkLaws.{inside-byte}
use Rattle.masks.proofs.span.CheckedSpan.word.Goals as goal

pub returns : goal.returns
returns c =
    inside-byte _ _ c.args.k _ _ _
    c.byte_word-2.ensures c.byte_word-3.ensures c.merge_reversed.ensures

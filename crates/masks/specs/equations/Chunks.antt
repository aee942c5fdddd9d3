-- The calls of `Chunks` as one equation each: their answers by their checks.
use Rattle.std.specs.Prelude.{ℕ, ◌%◌, List, length}
use Rattle.masks.specs.equations.Answer.{Answer, checked}
use Rattle.masks.specs.Checks.{span_checks}
use Rattle.masks.specs.Cursor.{Step}
use Rattle.masks.specs.declared.chunks.BitChunks.{BitChunks}
use Rattle.masks.specs.Chunks.{chunks_at, chunk_step, chunk_checks, remainder_word}

-- the answer of `BitChunks::new`: checks 1 and 2, and a cursor at place 0
unfoldable pub new_chunks : List ℕ → ℕ → ℕ → Answer (Unit {0}) BitChunks
new_chunks bytes start n = checked (span_checks start n (length bytes)) tt (chunks_at start n 0)

unfoldable pub next_chunk : BitChunks → List ℕ → Answer BitChunks (Step BitChunks ℕ)
next_chunk c bytes = checked (chunk_checks c bytes) c (chunk_step bytes c)

unfoldable pub chunks_remainder : BitChunks → List ℕ → Answer BitChunks (ℕ × ℕ)
chunks_remainder c bytes = checked (chunk_checks c bytes) c (remainder_word bytes c.start c.length, c.length % 64)

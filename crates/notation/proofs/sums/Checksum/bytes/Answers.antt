-- The fold runs over the parts of the bytes, each of which is taken in.
use Rattle.std.proofs.Common.{rules, ◌≡◌, ◌∙◌, ap, sym, length, fold, ◌/◌, ◌+◌, ◌<◌, arith}
use Rattle.std.specs.Iterator.Runs.{YieldsRun, Trigger}
use Rattle.std.specs.Slice.Iter.{chunks_rest, chunks_size, chunk_count}
use Rattle.notation.specs.Sums.{parts_mixed}
use Rattle.notation.proofs.sums.SumLaws.{with_part, parts-taken, part-count}
use Rattle.notation.proofs.sums.Checksum.bytes.Goals as goal

pub returns : goal.returns
unfolding YieldsRun Trigger
returns c =
    let w = c.fold.ensures.runs in
    let folded : c.fold.result ≡ fold with_part c.args.self w.0.items = w.3 with_part (search rules) in
    let taken : fold with_part c.args.self w.0.items ≡ parts_mixed (length w.0.items) c.args.self (chunks_rest w.0.from) =
    parts-taken w.0.items w.0.from w.0.gave.0.0 c.args.self (ap chunks_size w.1 ∙ c.chunks.ensures.size) w.0.gave.0.1 in
    let size : chunks_size w.0.from ≡ 8 = ap chunks_size w.1 ∙ c.chunks.ensures.size in
    let rest : chunks_rest w.0.from ≡ c.args.bytes.now = ap chunks_rest w.1 ∙ c.chunks.ensures.rest in
    let some : 0 < chunks_size w.0.from = omega arith in
    let counted = (c.chunks.ensures.runs w.0 w.0.seen some).1 w.2 in
    let many : length w.0.items ≡ (length c.args.bytes.now + 7) / 8 =
    sym w.0.long ∙ counted ∙ ap (λ k. chunk_count (length (chunks_rest w.0.from)) k) size ∙ ap (λ l. chunk_count (length l) 8) rest
    ∙ part-count (length c.args.bytes.now) in
    folded ∙ taken ∙ ap (λ n. parts_mixed n c.args.self (chunks_rest w.0.from)) many
    ∙ ap (λ l. parts_mixed ((length c.args.bytes.now + 7) / 8) c.args.self l) rest

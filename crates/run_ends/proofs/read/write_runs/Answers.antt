-- One more run in each iteration (`one-run`); after the last one the last word is written, if it has flags (`last-word`).
use Rattle.std.proofs.Common.{◌≡◌, rules, sym, ap, ◌∙◌, ℕ, ◌+◌, ◌*◌, ◌/◌, ◌≤◌, pos, false, length, get_or, min, arith}
use Rattle.words.specs.Flags.{flags_of}
use Rattle.words.specs.Loops.{stretch}
use Rattle.words.proofs.flags.Bytes.{length-flags}
use Rattle.words.proofs.flags.Windows.{at_in, length-window}
use Rattle.words.proofs.loops.Writing.{write-end, write_step}
use Rattle.run_ends.specs.Read.{flags_read}
use Rattle.run_ends.specs.Rules.{end_of}
use Rattle.run_ends.proofs.read.FlagLaws.{length-from}
use Rattle.run_ends.proofs.read.ReadLaws.{all-read, none-read, of-run, one-run, rising}
use Rattle.run_ends.proofs.read.WordLaws.{last-word, same-size}
use Rattle.run_ends.proofs.read.write_runs.Goals as goal

pub loop-k-init : goal.loop-k-init
loop-k-init c = none-read _ _ _ _ c.requires.holds

pub push_run-word-requires : goal.push_run-word-requires
push_run-word-requires c =
    let position : c.end_of-position.result ≡ end_of (get_or c.args.ends.now c.loop-k.k (pos 0)) = search rules in
    let next : c.least-next.result ≡ min (end_of (get_or c.args.ends.now c.loop-k.k (pos 0))) c.args.n =
    c.least-next.ensures ∙ ap (λ (x : ℕ). min x c.args.n) position in
    let long = length-window (flags_of c.args.bytes.now) c.args.start (length c.args.ends.now) in
    let up = rising _ _ _ _ _ _ _ _ c.loop-k.invariant c.loop-k-test.true long in
    let size = same-size _ _ _ c.loop-k.invariant.written.whole in
    let room : 8 * ((c.args.n + 63) / 64) ≤ length c.args.out.now = c.requires.room in
    (omega (arith, next, up.0), omega (arith, next, up.1, size, room))

pub loop-k-preserved : goal.loop-k-preserved
loop-k-preserved c =
    let position : c.end_of-position.result ≡ end_of (get_or c.args.ends.now c.loop-k.k (pos 0)) = search rules in
    let next : c.least-next.result ≡ min (end_of (get_or c.args.ends.now c.loop-k.k (pos 0))) c.args.n =
    c.least-next.ensures ∙ ap (λ (x : ℕ). min x c.args.n) position in
    let values = stretch c.args.bytes.now c.args.start (length c.args.ends.now) in
    let long = length-window (flags_of c.args.bytes.now) c.args.start (length c.args.ends.now) in
    let inv = c.loop-k.invariant in
    let flag : get_or values c.loop-k.k false ≡ c.flag_at-flag.result =
    at_in (flags_of c.args.bytes.now) c.args.start (length c.args.ends.now) c.loop-k.k c.loop-k-test.true ∙ sym c.flag_at-flag.ensures in
    let written = c.push_run-word.ensures _ (flags_read c.args.ends.now values c.args.n) inv.written
    (λ p a b. of-run _ _ _ _ _ _ _ _ inv c.loop-k-test.true long p a (omega (arith, b, next)) ∙ flag) in
    one-run _ _ _ _ _ _ _ _ inv c.loop-k-test.true long _ _ _ next written

pub returns-then-rest-eq0 : goal.returns-then-rest-eq0
returns-then-rest-eq0 c =
    let values = stretch c.args.bytes.now c.args.start (length c.args.ends.now) in
    let all = all-read _ _ _ _ _ _ _ _ c.loop-k.invariant c.loop-k-test.false in
    write-end _ _ _ _ (c.args.n / 64) _ all.whole (length-flags _) (length-from c.args.ends.now values 0 c.args.n)
    (λ l. absurd (omega arith)) (omega arith)

pub returns : goal.returns
returns c =
    let values = stretch c.args.bytes.now c.args.start (length c.args.ends.now) in
    let long = length-from c.args.ends.now values 0 c.args.n in
    let all = all-read _ _ _ _ _ _ _ _ c.loop-k.invariant c.loop-k-test.false in
    write-end _ _ _ _ (c.args.n / 64 + 1) _
    (write_step _ _ _ _ _ _ all.whole (last-word _ _ _ _ _ _ all long c.low_flags.ensures) c.store_at.ensures)
    (length-flags _) long (λ l. absurd (omega arith)) (omega arith)

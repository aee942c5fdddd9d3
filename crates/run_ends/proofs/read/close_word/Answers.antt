-- One more word, then more whole words (`write-more`).
use Rattle.std.proofs.Common.{◌≡◌, ap, ◌∙◌, ℕ, ◌+◌, ◌-◌, ◌*◌, arith}
use Rattle.words.specs.Flags.{flags_of, over, over_at, window}
use Rattle.run_ends.proofs.read.WordLaws.{filled-from, stored, write-more}
use Rattle.run_ends.proofs.read.close_word.Goals as goal

pub returns-then-next-end : goal.returns-then-next-end
returns-then-next-end c old all before full between =
    let one : 64 ≡ 64 * 1 = omega arith in
    let last : c.args.first + 1 ≡ c.args.end = c.if-next-end.true in
    write-more old all _ _ c.args.first 1 before
    (stored _ _ _ _ _ (omega (arith, c.requires.1)) c.store_whole.ensures
    ∙ ap (over_at (flags_of c.args.out.now) (8 * (8 * c.args.first))) (full ∙ ap (window all (64 * c.args.first)) one))
    ∙ ap (λ (i : ℕ). over old (window all 0 (64 * i))) last

pub returns : goal.returns
returns c old all before full between =
    let one : 64 ≡ 64 * 1 = omega arith in
    let last : c.args.first + 1 + (c.args.end - (c.args.first + 1)) ≡ c.args.end = omega (arith, c.requires.0) in
    let closed =
    write-more old all _ _ c.args.first 1 before
    (stored _ _ _ _ _ (omega (arith, c.requires.1)) c.store_whole.ensures
    ∙ ap (over_at (flags_of c.args.out.now) (8 * (8 * c.args.first))) (full ∙ ap (window all (64 * c.args.first)) one)) in
    write-more old all _ _ (c.args.first + 1) (c.args.end - (c.args.first + 1)) closed
    (filled-from _ _ _ _ _ _ (omega (arith, c.requires.1)) c.fill_whole.ensures ∙ ap (over_at _ (8 * (8 * (c.args.first + 1)))) between)
    ∙ ap (λ (i : ℕ). over old (window all 0 (64 * i))) last

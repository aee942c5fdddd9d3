-- The invariant: the words at i and after it consist of equal flags.
use mathlib.Core.Path.{◌≡◌, refl, ap, ◌∙◌}
use Prim.Native.Nat.{ℕ, ◌+◌, ◌-◌, ◌*◌}
use native.Mathlib.Omega.{arith}
use Rattle.masks.proofs.utils.PartLaws.{end-exit, end_step, end-all}
use Rattle.masks.proofs.span_ends.BackEnd.in_bulk.Goals as goal

pub returns-then-alike-lt64 : goal.returns-then-alike-lt64
returns-then-alike-lt64 c =
    let e : c.args.split.now.parts.bulk_len - 1 - (c.loop-i.i - 1) ≡ c.args.split.now.parts.bulk_len - c.loop-i.i = omega arith in
    ap (λ (k : ℕ). 64 * k + c.trailing_in_word-alike.result) e
    ∙ end-exit _ _ _ _ _ _ c.loop-i.i _ _ _ (omega arith) (omega arith)
    c.loop-i.invariant c.word_from.ensures refl c.trailing_in_word-alike.ensures c.if-alike-lt64.true

pub loop-i-preserved : goal.loop-i-preserved
loop-i-preserved c =
    end_step _ _ _ _ (c.args.split.now.parts.bulk_len - c.loop-i.i) _ c.loop-i.i _ _ _ (omega arith) (omega arith)
    c.loop-i.invariant c.word_from.ensures refl c.trailing_in_word-alike.ensures c.if-alike-lt64.false

pub returns : goal.returns
returns c = let all : c.loop-i.i ≡ 0 = omega arith in end-all _ _ _ _ (rw all at c.loop-i.invariant)

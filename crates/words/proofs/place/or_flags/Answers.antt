use Rattle.std.proofs.Common.{refl}
use Rattle.words.specs.Flags.{flags_of}
use Rattle.words.proofs.place.PlaceLaws.{both}
use Rattle.words.proofs.place.or_flags.Goals as goal

pub returns-then-at-out : goal.returns-then-at-out
returns-then-at-out c =
    both (flags_of c.args.out.now) (flags_of c.join_whole.new.out) _ c.args.bit c.args.w _ _ _ refl c.shl_or_zero-low.ensures
    c.shr_or_zero-high.ensures c.join_whole.ensures c.join_whole-then-at-out.ensures

pub returns-else-out-ge16 : goal.returns-else-out-ge16
returns-else-out-ge16 c =
    both (flags_of c.args.out.now) _ _ c.args.bit c.args.w _ _ _ refl c.shl_or_zero-low.ensures c.shr_or_zero-high.ensures refl
    c.join_both.ensures

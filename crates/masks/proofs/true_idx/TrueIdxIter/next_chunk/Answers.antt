-- As many positions are written as there are left and fit, and the place is the one after them (`told`).
use mathlib.Core.Path.{sym, ap, ◌∙◌}
use Rattle.masks.specs.TrueIdx.{true_moved}
use Rattle.masks.proofs.true_idx.PositionLaws.{told, within-out}
use Rattle.masks.proofs.refusal.RefusalLaws.{passed-back}
use Rattle.masks.proofs.true_idx.TrueIdxIter.next_chunk.Goals as goal

pub write_positions-count-requires : goal.write_positions-count-requires
write_positions-count-requires c = sym c.check_next.ensures ∙ passed-back _ _ _ c.map_err.ensures.variant c.in_ok-map_err.was

pub place_after-place-requires : goal.place_after-place-requires
place_after-place-requires c =
    let wrote = c.write_positions-count.ensures in
    within-out _ _ _ _ wrote.count wrote.positions

pub returns-clause-number : goal.returns-clause-number
returns-clause-number c = told _ _ _ _ c.write_positions-count.ensures.count

pub returns-clause-cursor : goal.returns-clause-cursor
returns-clause-cursor c =
    let wrote = c.write_positions-count.ensures in
    c.moved.ensures ∙ ap (true_moved c.args.self) (c.place_after-place.ensures _ _ wrote.positions wrote.count)

-- The winner's part lies in its slice (`won-inside`).
use Rattle.masks.proofs.superseding.SupersedingLaws.{first-inside, second-inside, won-inside}
use Rattle.masks.proofs.superseding.superseding_bytes.Goals as goal

pub slice_bounds-result-start : goal.slice_bounds-result-start
slice_bounds-result-start c = (won-inside _ _ _ _ _ c.in-Ok.ensures.refused c.in-Ok.ensures.part).rising

pub slice_bounds-result-start-in-Ok : goal.slice_bounds-result-start-in-Ok
slice_bounds-result-start-in-Ok c = (won-inside _ _ _ _ _ c.in-Ok.ensures.refused c.in-Ok.ensures.part).rising

pub slice_bounds-result-end : goal.slice_bounds-result-end
slice_bounds-result-end c = second-inside _ _ _ _ _ c.in-Ok.ensures.refused c.in-Ok.ensures.part c.if-part.true

pub slice_bounds-result-end-in-Ok : goal.slice_bounds-result-end-in-Ok
slice_bounds-result-end-in-Ok c = first-inside _ _ _ _ _ c.in-Ok.ensures.refused c.in-Ok.ensures.part c.if-part.false

pub slice_bounds-result-count : goal.slice_bounds-result-count
slice_bounds-result-count c = (won-inside _ _ _ _ _ c.in-Ok.ensures.refused c.in-Ok.ensures.part).rising

pub slice_bounds-result-count-in-Ok : goal.slice_bounds-result-count-in-Ok
slice_bounds-result-count-in-Ok c = (won-inside _ _ _ _ _ c.in-Ok.ensures.refused c.in-Ok.ensures.part).rising

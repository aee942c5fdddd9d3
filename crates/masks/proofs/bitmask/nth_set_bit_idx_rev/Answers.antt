-- A search from an end past the span's length is one from its length (`span-most`).
use mathlib.Core.Path.{◌∙◌}
use Rattle.masks.proofs.bitmask.SearchLaws.{span-most}
use Rattle.masks.proofs.bitmask.nth_set_bit_idx_rev.Goals as goal

pub returns-clause-position : goal.returns-clause-position
returns-clause-position c =
    let s = c.in_ok-span.ensures.span in
    rw (s.0, s.1.0, s.1.1) at (c.nth_back.ensures ∙ span-most _ _ _ _ _ _ c.min.ensures)

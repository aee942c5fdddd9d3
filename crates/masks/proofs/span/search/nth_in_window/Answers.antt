-- No window has more than 32 set flags, so the search is for the lesser of n and 32: `ask_least`.
use Rattle.std.proofs.Common.{◌≡◌, ◌∙◌, rules}
use Rattle.masks.proofs.bitmask.SearchLaws.{ask_least}
use Rattle.masks.proofs.span.search.nth_in_window.Goals as goal

pub returns : goal.returns
returns c =
    let e : c.map_err.result ≡ c.nth_set_bit_u32.result = search rules in
    e ∙ c.nth_set_bit_u32.ensures ∙ ask_least 32 _ _ _ c.min-number.ensures

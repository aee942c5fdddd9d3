-- The word in progress has room for all flags (`push-within`).
use Rattle.masks.proofs.builder.PushLaws.{rebuilt-way, push-within}
use borrow.Author.Rules.{rules}
use Rattle.masks.proofs.builder.push_inside.Goals as goal

pub returns : goal.returns
returns c =
    λ bytes. rebuilt-way _ _ bytes _ c.rebuilt.ensures
    (push-within _ bytes _ _ _ _ c.requires c.shl_or_zero.ensures c.or_word-low.ensures (search rules))

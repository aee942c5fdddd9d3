-- `exact-product`: a product that does not fit fails check 1, which comes first, as the largest number does.
use Rattle.masks.proofs.builder.RepeatLaws.{exact-product}
use Rattle.masks.proofs.builder.repeat.check_product.Goals as goal

pub returns : goal.returns
returns c = exact-product _ _ _ _ _ c.saturating_mul.ensures c.check_builder.ensures

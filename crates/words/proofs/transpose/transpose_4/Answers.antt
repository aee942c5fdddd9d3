use Rattle.std.proofs.Common.{arith}
use Rattle.words.proofs.transpose.TransposeLaws.{mask_2, transposed_halves}
use Rattle.words.proofs.transpose.transpose_4.Goals as goal

pub exchange_halves-requires : goal.exchange_halves-requires
exchange_halves-requires c = (omega arith, omega arith, mask_2, c.requires)

pub returns : goal.returns
returns c =
    transposed_halves 2 _ c.exchange_halves.new.rows _ _ c.exchange_halves.ensures c.requires
    (rw c.split_at_mut-upper.ensures.front at c.transpose_2.ensures) (rw c.split_at_mut-upper.ensures.back at c.transpose_2-2.ensures)

use Rattle.std.proofs.Common.{arith}
use Rattle.words.proofs.transpose.TransposeLaws.{mask_16, transposed_halves}
use Rattle.words.proofs.transpose.transpose_32.Goals as goal

pub exchange_halves-requires : goal.exchange_halves-requires
exchange_halves-requires c = (omega arith, omega arith, mask_16, c.requires)

pub returns : goal.returns
returns c =
    transposed_halves 16 _ c.exchange_halves.new.rows _ _ c.exchange_halves.ensures c.requires
    (rw c.split_at_mut-upper.ensures.front at c.transpose_16.ensures) (rw c.split_at_mut-upper.ensures.back at c.transpose_16-2.ensures)

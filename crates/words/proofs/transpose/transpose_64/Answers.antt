use Rattle.std.proofs.Common.{arith}
use Rattle.words.proofs.transpose.TransposeLaws.{mask_32, transposed_halves}
use Rattle.words.proofs.transpose.transpose_64.Goals as goal

pub exchange_halves-requires : goal.exchange_halves-requires
exchange_halves-requires c = (omega arith, omega arith, mask_32, c.requires)

pub returns : goal.returns
returns c =
    transposed_halves 32 _ c.exchange_halves.new.rows _ _ c.exchange_halves.ensures c.requires
    (rw c.split_at_mut-upper.ensures.front at c.transpose_32.ensures) (rw c.split_at_mut-upper.ensures.back at c.transpose_32-2.ensures)

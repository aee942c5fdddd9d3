use Rattle.std.proofs.Common.{arith}
use Rattle.words.proofs.transpose.TransposeLaws.{mask_1, transposed_two}
use Rattle.words.proofs.transpose.transpose_2.Goals as goal

pub exchange_halves-requires : goal.exchange_halves-requires
exchange_halves-requires c = (omega arith, omega arith, mask_1, c.requires)

pub returns : goal.returns
returns c = transposed_two _ _ c.exchange_halves.ensures c.requires

use Rattle.words.proofs.transpose.TransposeLaws.{transposed_columns}
use Rattle.words.proofs.transpose.transpose_block.Goals as goal

pub returns : goal.returns
returns c = transposed_columns _ _ c.transpose_64.ensures c.told-rows

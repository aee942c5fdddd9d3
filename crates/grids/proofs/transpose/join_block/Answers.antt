use Rattle.std.proofs.Common.{refl}
use Rattle.words.specs.Flags.{flags_of}
use Rattle.grids.proofs.transpose.BlockLaws.{block_joined}
use Rattle.grids.proofs.transpose.join_block.Goals as goal

pub returns : goal.returns
returns c =
    block_joined (flags_of c.args.bytes.now) c.args.start c.args.rows c.args.columns c.args.row c.args.column _ _ _
    c.load_rows.new.words c.transpose_block.new.rows _ _ refl c.min-height.ensures c.min-width.ensures c.load_rows.ensures
    c.transpose_block.ensures
    c.put_rows.ensures

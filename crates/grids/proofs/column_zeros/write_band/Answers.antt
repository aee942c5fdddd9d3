use Rattle.std.proofs.Common.{arith}
use Rattle.words.specs.Flags.{flags_of}
use Rattle.grids.proofs.columns.ColumnLaws.{few-columns, few-rows}
use Rattle.grids.proofs.column_zeros.ZeroLaws.{band-written, no_ones, ones-few}
use Rattle.grids.proofs.column_zeros.write_band.Goals as goal

pub count_band-requires : goal.count_band-requires
count_band-requires c = (
  λ some. let few = few-columns _ _ c.requires.1.0 some in omega (arith, few),
  (c.requires.1.0, (few-rows _ _ _ _ c.requires.1.1.0 c.requires.1.0 (omega arith), no_ones _ _ _)),
)

pub write_zeros-requires : goal.write_zeros-requires
write_zeros-requires c =
    (ones-few _ _ _ _ _ c.count_band.ensures, (few-rows _ _ _ _ c.requires.1.1.0 c.requires.1.0 (omega arith), c.requires.1.1))

pub returns : goal.returns
returns c = band-written (flags_of c.args.bytes.now) c.args.start c.args.rows c.args.columns c.args.column _ c.count_band.ensures _ _
    c.write_zeros.ensures

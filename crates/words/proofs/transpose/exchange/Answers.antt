use Rattle.words.proofs.transpose.TransposeLaws.{exchanged}
use Rattle.words.proofs.transpose.exchange.Goals as goal

pub returns : goal.returns
returns c = exchanged c.args.h c.args.m c.args.x c.args.y c.requires.2 c.requires.0

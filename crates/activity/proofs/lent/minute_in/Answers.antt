-- `holds_oldest`: the flags of the word at the place are counted; `minute-made`: the record's parts.
use Rattle.std.proofs.Common.{refl, rules}
use Rattle.activity.specs.Lent.{window_at}
use Rattle.activity.proofs.window.WindowLaws.{holds_oldest, minute-made}
use Rattle.activity.proofs.lent.minute_in.Goals as goal

pub exchange-requires : goal.exchange-requires
exchange-requires c = holds_oldest (window_at c.args.words.now c.args.counts.now c.args.at) c.requires c.told-words

pub returns : goal.returns
returns c =
    minute-made (window_at c.args.words.now c.args.counts.now c.args.at) c.requires c.told-words c.args.word _ _ _ c.exchange.ensures refl
    (search rules)

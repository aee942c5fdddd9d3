-- The line goes on with the bytes before the line feed.
use Rattle.std.proofs.Common.{rules, arith}
use Rattle.notation.proofs.lines.LineLaws.{line-taken, left-taken, taken-more}
use Rattle.notation.proofs.lines.Lines.take.Goals as goal

pub returns-in-None-clause-line : goal.returns-in-None-clause-line
returns-in-None-clause-line g c = search (rules, line-taken)

pub returns-in-None-clause-left : goal.returns-in-None-clause-left
returns-in-None-clause-left g c =
    left-taken _ _ _ c.feed_in-feed.ensures (search rules) _ _ _
    (taken-more c.args.self.now.window.items c.args.self.now.taken c.saturating_add.result c.min-self.result
    (omega (arith, c.saturating_add-taken.ensures, c.min-self.ensures, c.len-all.ensures))
    (omega (arith, c.len-all.ensures, c.len-all.type_inv)))
    c.buffer-read.ensures c.saturating_add.ensures (omega (arith, c.len.ensures, c.len.type_inv))

pub returns-in-Some-clause-line : goal.returns-in-Some-clause-line
returns-in-Some-clause-line g c = search (rules, line-taken)

pub returns-in-Some-clause-left : goal.returns-in-Some-clause-left
returns-in-Some-clause-left g c =
    left-taken _ _ _ c.feed_in-feed.ensures (search rules) _ _ _
    (taken-more c.args.self.now.window.items c.args.self.now.taken c.saturating_add.result c.min-self.result
    (omega (arith, c.saturating_add-taken.ensures, c.min-self.ensures, c.len-all.ensures))
    (omega (arith, c.len-all.ensures, c.len-all.type_inv)))
    c.buffer-read.ensures c.saturating_add.ensures (omega (arith, c.len.ensures, c.len.type_inv))

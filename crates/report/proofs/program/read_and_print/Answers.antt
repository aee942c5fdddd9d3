-- `printed`: what was read is all of the input, or more than a report takes.
use Rattle.std.proofs.Common.{rules, sym, ◌∙◌, ◌≡◌, Ok}
use Rattle.report.proofs.program.ProgramLaws.{printed}
use Rattle.report.proofs.program.read_and_print.Goals as goal

pub returns : goal.returns
returns g c =
    let ok : c.or.result ≡ Ok c.in_ok-size.size = search rules in
    printed _ _ _ _ c.read_to_end.new.buf (search rules) _ _ _ _ _ (sym c.or.ensures ∙ ok) c.read_to_end.ensures.bound
    c.read_to_end.ensures.bytes c.read_to_end.ensures.end c.report.ensures c.print.ensures c.or-2.ensures

-- By cases on the count: a known one is compared; for an unknown one the flags give the answer that their zeros would.
use Rattle.masks.proofs.shortcuts.is_all.Goals as goal

pub returns-in-Some : goal.returns-in-Some
returns-in-Some c = rw (c.in-Some.is, c.zeros_of_all.ensures)

pub returns-in-None : goal.returns-in-None
returns-in-None c = rw c.in-None.is c.all_flags.ensures

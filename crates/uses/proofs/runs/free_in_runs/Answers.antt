-- The truck lies in the mask (`index_in_first`), which has as many flags as were read (`read_length`), and the answer is its flag there
-- (`unrevoked`): the value of its run (`at_read`). There are as many values as ends (`read_accepted`).
use Rattle.std.proofs.Common.{◌∙◌, arith}
use Rattle.masks.proofs.calling.Accepted.{index_in_first}
use Rattle.dispatch.proofs.calling.Answers.{unrevoked}
use Rattle.run_ends.proofs.calling.Flags.{at_read, read_accepted, read_length}
use Rattle.uses.proofs.runs.free_in_runs.Goals as goal

pub returns-clause-inside : goal.returns-clause-inside
returns-clause-inside c =
    omega (
      arith,
      index_in_first _ _ _ _ _ c.in_ok-free.ensures.refused,
      read_length c.args.values _ _ c.in_ok-mask.ensures.mask,
    )

pub returns-clause-paired : goal.returns-clause-paired
returns-clause-paired c = (read_accepted _ _ _ _ _ c.in_ok-mask.ensures.refused).paired

pub returns-clause-flag : goal.returns-clause-flag
returns-clause-flag c k inside above before =
    let read = c.in_ok-mask.ensures in
    let there = index_in_first _ _ _ _ _ c.in_ok-free.ensures.refused in
    let long = read_length c.args.values _ _ read.mask in
    c.in_ok-free.ensures.flag ∙ unrevoked _ _ _ _
    ∙ at_read _ _ _ _ _ _ _ _ k read.refused read.mask read.bytes (omega (arith, there, long))
    (record { inside = inside; above = above; before = before })

-- The clauses of the call make its bytes (`written_append`).
use Rattle.masks.proofs.refusal.ClauseLaws.{written_append}
use Rattle.capi.proofs.builder.pw_gather_extend_from_slice.Goals as goal

pub returns-clause-bytes : goal.returns-clause-bytes
returns-clause-bytes c =
    let e = c.gather_extend_from_slice.ensures in
    rw c.builder_in.ensures at (written_append _ _ _ _ e.refused e.appended _ e.unchanged)

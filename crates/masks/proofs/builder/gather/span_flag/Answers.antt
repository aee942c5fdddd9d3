-- Inside the span the flag is one of the bytes (`flag-inside`); past it the flag is 0 (`flag-past`).
use Rattle.std.proofs.Common.{◌∙◌, le-ltb}
use Rattle.masks.proofs.builder.GatherLaws.{flag-inside, flag-past}
use Rattle.masks.proofs.builder.gather.span_flag.Goals as goal

pub returns-then-at-span : goal.returns-then-at-span
returns-then-at-span c = flag-inside _ _ _ _ _ c.if-at-span.true c.flag_at.ensures

pub returns-else-at-span : goal.returns-else-at-span
returns-else-at-span c = le-ltb _ _ c.if-at-span.false ∙ flag-past _ _ _ _ c.if-at-span.false

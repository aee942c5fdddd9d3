-- The earlier of the numbers of the span and of the builder (`two_pieces`).
use Rattle.masks.proofs.checks.CheckLaws.{two_pieces}
use Rattle.masks.proofs.checks.check_span_grow.Goals as goal

pub returns : goal.returns
returns c = two_pieces _ _ _ _ _ c.earlier.ensures.refused c.check_span.ensures.refused c.check_builder.ensures

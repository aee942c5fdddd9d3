-- The builder that `push` returns is stored field by field, and the serial stays (`stored`).
use Rattle.masks.proofs.builder.AppendLaws.{stored}
use Rattle.masks.proofs.builder.BitmapBuilder.push_mut.Goals as goal

pub returns-in-Ok-clause-appended : goal.returns-in-Ok-clause-appended
returns-in-Ok-clause-appended c = stored _ _ _ _ _ _ c.builder_under-own.ensures c.in-Ok.ensures.appended

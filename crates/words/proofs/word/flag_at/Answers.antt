-- `read-flag`: the flag is a bit of its byte; past the last byte it is false (`no_flag`).
use Rattle.std.proofs.Common.{◌∙◌, le-ltb}
use Rattle.words.proofs.theorems.Plain.{read-flag, no_flag}
use Rattle.words.proofs.word.flag_at.Goals as goal

pub returns-then-at-bytes : goal.returns-then-at-bytes
returns-then-at-bytes c = read-flag _ _ _ c.from.ensures

pub returns-else-at-bytes : goal.returns-else-at-bytes
returns-else-at-bytes c = le-ltb _ _ c.if-at-bytes.false ∙ no_flag _ _ c.if-at-bytes.false

-- If nothing is left the window is past the end; near the end it is that of `last_word`, starting at the byte's first flag.
use Rattle.std.proofs.Common.{◌≡◌, ap, ◌∙◌, ◌+◌, ◌*◌, ℕ, arith}
use Rattle.words.specs.Flags.{flags_of, window}
use Rattle.words.proofs.word.Loads.{byte_past}
use Rattle.words.proofs.word.byte_word.Goals as goal

pub returns-then-n-at : goal.returns-then-n-at
returns-then-n-at c = byte_past _ _ c.if-n-at.true

pub returns : goal.returns
returns c =
    let z : 8 * c.args.at + 0 ≡ 8 * c.args.at = omega arith in
    c.last_word.ensures ∙ ap (λ (k : ℕ). window (flags_of c.args.bytes.now) k 64) z

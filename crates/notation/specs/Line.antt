-- What a line is: nothing, what it lends, or a request.
use Rattle.std.specs.Prelude.{ℕ, ◌==◌, if◌then◌else◌, List, [], ◌∷◌, Option, Some, None, Result, Ok, Err}
use Rattle.notation.specs.declared.fault.Fault.{Fault}
use Rattle.notation.specs.declared.lent.Letter.{Letter}
use Rattle.notation.specs.declared.lent.Letter.TheVariants.{X, Y, Z, O, I, E}
use Rattle.notation.specs.declared.line.Line.{Line}
use Rattle.notation.specs.declared.line.Line.TheVariants.{Nothing, Lends, Request, GoesOn}

-- the meaning of a line, with its text as bytes
pub data Meaning : Type 0 where
  nothing : Meaning
  lends : Letter → List ℕ → Meaning
  request : List ℕ → Meaning
  goes_on : List ℕ → Meaning

-- the letters x, y, z, o, i and e
abbrev pub letter_of : ℕ → Option Letter
letter_of b =
    if b == 120 then Some X else
    (if b == 121 then Some Y else
    (if b == 122 then Some Z else
    (if b == 111 then Some O else
    (if b == 105 then Some I else
    (if b == 101 then Some E else None)))))

-- the pieces after a letter
abbrev pub pieces_lent : Option Letter → List ℕ → Option Meaning
pieces_lent (Some letter) pieces = Some (lends letter pieces)
pieces_lent None pieces = None

-- a line whose first token is one byte: `+`, or a letter
abbrev pub lettered : ℕ → List ℕ → Option Meaning
lettered b rest = if b == 43 then Some (goes_on rest) else pieces_lent (letter_of b) rest

-- a line that is not empty and no comment: what follows its first byte shows whether that is a token
abbrev pub after_first : ℕ → List ℕ → Option Meaning
after_first b [] = lettered b []
after_first b (c ∷ rest) = if c == 32 then lettered b rest else Some (request (b ∷ c ∷ rest))

-- the meaning of a line, none if it is malformed; an empty line and `#` with a comment mean nothing
abbrev pub meaning_of : List ℕ → Option Meaning
meaning_of [] = Some nothing
meaning_of (b ∷ rest) = if b == 35 then Some nothing else after_first b rest

-- a result of `read` as the meaning of the line
abbrev pub meaning : Result Line Fault → Option Meaning
meaning (Ok Nothing) = Some nothing
meaning (Ok (Lends letter pieces)) = Some (lends letter pieces.now)
meaning (Ok (Request text)) = Some (request text.now)
meaning (Ok (GoesOn text)) = Some (goes_on text.now)
meaning (Err e) = None

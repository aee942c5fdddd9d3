-- The tokens of an answer.
use Rattle.std.specs.Prelude.{ℕ, List, [], ◌∷◌, ◌++◌, flat_map, codes, decimal}
use Rattle.notation.specs.declared.answer.Token.{Token}
use Rattle.notation.specs.declared.answer.Token.TheVariants.{Number, Unknown, Missing}
use Rattle.notation.specs.declared.answer.Answer.{Answer}

-- the tokens of an answer, in their order
abbrev pub tokens_of : Answer → List Token
tokens_of a = a.tokens.items

-- 0 or the refusing number, and nothing after it
abbrev pub number_alone : ℕ → List Token
number_alone n = Number n ∷ []

-- the tokens with one more after them
abbrev pub with_token : List Token → Token → List Token
with_token tokens t = tokens ++ t ∷ []

-- what is printed of a token
abbrev pub token_text : Token → List ℕ
token_text (Number n) = decimal n
token_text Unknown = codes "?"
token_text Missing = codes "-"

-- what is printed of an answer: each token after a space
abbrev pub answer_text : List Token → List ℕ
answer_text tokens = flat_map (λ t. codes " " ++ token_text t) tokens

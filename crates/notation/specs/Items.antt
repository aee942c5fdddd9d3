-- The tokens of a line that are arguments.
use Rattle.std.specs.Prelude.{ℕ, Bool, true, false, ◌-◌, Option, Some, None, List, length, take, drop, slice_get, count_by}
use Rattle.notation.specs.declared.answer.Token.{Token}
use Rattle.notation.specs.declared.answer.Token.TheVariants.{Number as NumberToken, Unknown as UnknownToken, Missing as MissingToken}
use Rattle.notation.specs.declared.item.Item.{Item}
use Rattle.notation.specs.declared.item.Item.TheVariants.{Numbers, Times, Calls, Unknown, Missing, Any}
use Rattle.notation.specs.declared.item.Role.{Role}
use Rattle.notation.specs.declared.item.Role.TheVariants.{Argument, Size, Serial}
use Rattle.notation.specs.declared.items.Choice.{Choice}
use Rattle.notation.specs.declared.items.Items.{Items}

-- whether a number is an argument: no letter is before it
abbrev pub is_role_plain : Role → Bool
is_role_plain Argument = true
is_role_plain (Size letter) = false
is_role_plain (Serial s) = false

-- whether an item is no size and no serial
abbrev pub is_plain : Item → Bool
is_plain (Numbers role first count step) = is_role_plain role
is_plain (Times number times) = true
is_plain (Calls n) = true
is_plain Unknown = true
is_plain Missing = true
is_plain Any = true

-- a token as an item
abbrev pub item_of : Token → Item
item_of (NumberToken n) = Numbers Argument n 1 1
item_of UnknownToken = Unknown
item_of MissingToken = Missing

abbrev pub plain_if : Option Item → Bool
plain_if (Some item) = is_plain item
plain_if None = true

-- the items of a token
abbrev pub items_of : Items → Choice → List Item
items_of items c = drop c.from (take c.to items.all)

-- whether the last item of a token is an argument
abbrev pub is_argument : Items → Choice → Bool
is_argument items c = plain_if (slice_get (items_of items c) (length (items_of items c) - 1))

-- how many tokens are arguments, sizes and serials left out
abbrev pub plain_of : Items → ℕ
plain_of items = count_by (is_argument items) (take items.many items.tokens)

-- What the words of the definition language say.
use Rattle.std.specs.Prelude.{ℕ, Option, None, Some, List, codes, if◌then◌else◌}
use Rattle.std.specs.Option.{option_map}
use Rattle.std.specs.Str.{bytes_eq}
use Rattle.bag_model.specs.Words.{Reserved, Taint, Counter, Float, Double, ScalarWord as ReservedScalar, reserved_of, is_name}
use Rattle.bdl_parser.specs.declared.trees.Holding.{Holding}
use Rattle.bdl_parser.specs.declared.trees.Holding.TheVariants.{AsSet, AsGreatest}
use Rattle.bdl_parser.specs.Trees.{Leaf, scalar, float, double, taint, counter, name}

-- The name that a word is, if it isn't reserved.
abbrev pub name_of_word : List ℕ → Option (List ℕ)
name_of_word text = if is_name text then Some text else None

-- The type that a reserved word is by itself, if it is one.
abbrev pub reserved_leaf : Reserved → Option Leaf
reserved_leaf (ReservedScalar word) = Some (scalar word)
reserved_leaf Float = Some float
reserved_leaf Double = Some double
reserved_leaf Taint = Some taint
reserved_leaf Counter = Some counter
reserved_leaf _ = None

-- The type that such a reserved word is, or else the name that the text is.
abbrev pub leaf_by : List ℕ → Option Reserved → Option Leaf
leaf_by text (Some word) = reserved_leaf word
leaf_by text None = option_map name (name_of_word text)

-- What a type of one word is.
abbrev pub leaf_of : List ℕ → Option Leaf
leaf_of text = leaf_by text (reserved_of text)

-- How a type that begins with this text holds its elements, if it has any.
abbrev pub holding_of : List ℕ → Option Holding
holding_of text =
    if bytes_eq text (codes "set") then Some AsSet else
    (if bytes_eq text (codes "greatest") then Some AsGreatest else None)

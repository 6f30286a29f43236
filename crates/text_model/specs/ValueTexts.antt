-- The texts of values.
use Rattle.std.specs.Prelude.{ℕ, Bool, true, false, List, [], ◌∷◌, ◌++◌, map, sum_by, codes, Option, Some, None}
use Rattle.std.specs.Fmt.{decimal}
use Rattle.bag_model.specs.Scalars.{ScalarValue}
use Rattle.bag_model.specs.Shapes.{Shape, Nodes, node}
use Rattle.bag_model.specs.Values.{Value, Entries, Values, Taint, Scalar, Set, Counter, Map, Bag, no_entry, entry, value}
use Rattle.text_model.specs.Commas.{in_braces, in_brackets}
use Rattle.text_model.specs.ScalarTexts.{bytes_text, scalar_text}

-- A taint is on or off.
abbrev pub taint_text : Bool → List ℕ
taint_text true = codes "on"
taint_text false = codes "off"

-- A scalar, or a dash where there is none.
abbrev pub scalar_or_dash : Option ScalarValue → List ℕ
scalar_or_dash None = codes "-"
scalar_or_dash (Some v) = scalar_text v

-- The elements of a set in order, between braces.
abbrev pub set_text : List ScalarValue → List ℕ
set_text vs = in_braces (map scalar_text vs)

-- A writer with its count.
abbrev pub count_text : List ℕ × ℕ → List ℕ
count_text (writer, count) = bytes_text writer ++ codes ":" ++ decimal count

-- The total of the counts, and each writer with its count between braces.
abbrev pub counts_text : List (List ℕ × ℕ) → List ℕ
counts_text counts = decimal (sum_by (λ entry. entry.1) counts) ++ in_braces (map count_text counts)

abbrev mutual
  -- A value by what it is; of the shape only the names of a bag's fields are shown. A map or a bag
  -- under a shape that is none has no text.
  pub value_text : Shape → Value → List ℕ
  value_text shape (Taint on) = taint_text on
  value_text shape (Scalar pick v) = scalar_or_dash v
  value_text shape (Set kind vs) = set_text vs
  value_text shape (Counter counts) = counts_text counts
  value_text (Shape.Map kind shape) (Map es) = in_braces (entry_texts shape es)
  value_text (Shape.Bag nodes) (Bag vs) = in_brackets (field_texts nodes vs)
  value_text _ _ = []

  -- Each key of a map with its value.
  pub entry_texts : Shape → Entries → List (List ℕ)
  entry_texts shape no_entry = []
  entry_texts shape (entry key v es) =
      (scalar_text key ++ codes ":" ++ value_text shape v) ∷ entry_texts shape es

  -- Each field of a bag by its name, with its value.
  pub field_texts : Nodes → Values → List (List ℕ)
  field_texts (node name number shape nodes) (value v vs) =
      (name ++ codes "=" ++ value_text shape v) ∷ field_texts nodes vs
  field_texts _ _ = []

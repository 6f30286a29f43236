-- The text of a table.
use Rattle.std.specs.Prelude.{ℕ, ◌+◌, List, [], ◌∷◌, ◌++◌, map, codes}
use Rattle.std.specs.Fmt.{decimal}
use Rattle.std.specs.List.{join_with_byte}
use Rattle.bag_model.specs.declared.Pick.{Pick}
use Rattle.bag_model.specs.declared.Pick.TheVariants.{Least, Greatest}
use Rattle.bag_model.specs.Scalars as scalars
use Rattle.bag_model.specs.Shapes.{Shape, Nodes, Taint, Scalar, Set, Counter, Map, Bag, no_node, node}
use Rattle.bag_model.specs.Words.{word_text}

-- A scalar word, or the words of a struct between parentheses with a comma between two of them.
abbrev pub kind_text : scalars.ScalarKind → List ℕ
kind_text (scalars.ScalarKind.One word) = word_text word
kind_text (scalars.ScalarKind.Packed words) =
    codes "(" ++ join_with_byte 44 (map word_text words) ++ codes ")"

-- The word of a scalar of which this value stays.
abbrev pub pick_word : Pick → List ℕ
pick_word Least = codes "scalar"
pick_word Greatest = codes "greatest"

-- The words of a shape; of a bag they say no more than that it is one.
abbrev pub shape_text : Shape → List ℕ
shape_text Taint = codes "taint"
shape_text (Scalar pick kind) = pick_word pick ++ 32 ∷ kind_text kind
shape_text (Set kind) = codes "set " ++ kind_text kind
shape_text Counter = codes "counter"
shape_text (Map key value) = codes "map " ++ kind_text key ++ codes " " ++ shape_text value
shape_text (Bag nodes) = codes "bag"

-- The line of a field: the digits of its depth, its number, its name and the words of its shape,
-- with a space between two of them and a line feed at the end.
abbrev pub field_line : List ℕ → List ℕ → ℕ → Shape → List ℕ
field_line depth name number shape =
    join_with_byte 32 (depth ∷ decimal number ∷ name ∷ shape_text shape ∷ []) ++ codes "\n"

abbrev mutual
  -- The lines of a bag's fields at a depth, each with those of the bag that its shape ends in after
  -- it.
  pub fields_text : ℕ → Nodes → List ℕ
  fields_text depth no_node = []
  fields_text depth (node name number shape nodes) =
      field_line (decimal depth) name number shape ++ bag_text (depth + 1) shape
      ++ fields_text depth nodes

  -- The lines of the fields of the bag that a shape ends in, if it ends in one.
  pub bag_text : ℕ → Shape → List ℕ
  bag_text depth Taint = []
  bag_text depth (Scalar pick kind) = []
  bag_text depth (Set kind) = []
  bag_text depth Counter = []
  bag_text depth (Map key value) = bag_text depth value
  bag_text depth (Bag nodes) = fields_text depth nodes

-- The first line, and those of the outermost bag's fields.
abbrev pub table_text : Nodes → List ℕ
table_text nodes = codes "baggage table 1\n" ++ fields_text 0 nodes

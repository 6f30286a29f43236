-- Texts of shapes by their first words.
use Rattle.std.specs.Prelude.{◌≡◌, ℕ, ◌≤◌, List, ◌++◌, codes}
use Rattle.bag_model.specs.Shapes.{Shape, Scalar, Set, Map}
use Rattle.table_text.specs.Rows.{IsToldShape, map_count}
use Rattle.table_text.specs.TableTexts.{kind_text, shape_text}

-- The shape has one word, which is the text.
abbrev pub IsBareText : List ℕ → Shape → Type 0
IsBareText text (Scalar pick kind) = ⊥
IsBareText text (Set kind) = ⊥
IsBareText text (Map key value) = ⊥
IsBareText text shape = IsToldShape shape × (text ≡ shape_text shape)

-- The shape is a map, and the text is what follows its first word.
abbrev pub IsMapBehind : ℕ → List ℕ → Shape → Type 0
IsMapBehind maps text (Map key value) =
    IsToldShape (Map key value) × (map_count (Map key value) ≤ maps)
    × (text ≡ kind_text key ++ codes " " ++ shape_text value)
IsMapBehind maps text other = ⊥

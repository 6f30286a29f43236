-- What the words of a line are read as.
use Rattle.std.specs.Prelude.{◌≡◌, ◌≢◌, ℕ, ◌^◌, ◌≤◌, List, [], ◌∷◌, ◌++◌, map, codes}
use Rattle.std.specs.List.{join_with_byte}
use Rattle.bag_model.specs.Scalars as scalars
use Rattle.bag_model.specs.Scalars.{Word}
use Rattle.bag_model.specs.Shapes.{Shape}
use Rattle.bag_model.specs.Tables.{IsScalarKind}
use Rattle.bag_model.specs.Words.{word_text}
use Rattle.table_text.specs.declared.faults.TableCode.{TableCode}
use Rattle.table_text.specs.declared.faults.TableCode.TheVariants.{Form, Depth}
use Rattle.table_text.specs.Rows.{IsToldShape, map_count, IsDepth}
use Rattle.table_text.specs.TableTexts.{kind_text, shape_text}
use Rattle.text_lines.specs.Words.{HasNoSpace, IsNumberBelow}

-- The words of the definition language that are reserved and no scalar words.
abbrev pub keywords : List (List ℕ)
keywords =
    codes "import" ∷ codes "bag" ∷ codes "struct" ∷ codes "set" ∷ codes "greatest" ∷ codes "map"
    ∷ codes "counter" ∷ codes "taint" ∷ codes "float"
    ∷ codes "double" ∷ []

-- The text is that of this number, which has 16 bits.
abbrev pub IsFieldNumberText : List ℕ → ℕ → Type 0
IsFieldNumberText text number = IsNumberBelow (2 ^ 16) text number

-- The text is no depth, or that of one of more than 64 bits.
abbrev pub IsNoDepth : List ℕ → TableCode → Type 0
IsNoDepth text Form = (depth : ℕ) → IsDepth text depth → ⊥
IsNoDepth text Depth = (depth : ℕ) × IsDepth text depth × (2 ^ 64 ≤ depth)
IsNoDepth text other = ⊥

-- The text is scalar words with commas, at least one.
abbrev pub AreScalarWords : List ℕ → List Word → Type 0
AreScalarWords text words = (words ≢ []) × (text ≡ join_with_byte 44 (map word_text words))

-- The text is that of this kind.
abbrev pub IsKindText : List ℕ → scalars.ScalarKind → Type 0
IsKindText text kind = IsScalarKind kind × (text ≡ kind_text kind)

-- The text is that of this shape, which has at most `maps` maps in one another.
abbrev pub IsShapeText : ℕ → List ℕ → Shape → Type 0
IsShapeText maps text shape =
    IsToldShape shape × (map_count shape ≤ maps) × (text ≡ shape_text shape)

-- Four parts with a space between two of them, and a line feed at the end.
abbrev pub parts_line : List ℕ → List ℕ → List ℕ → List ℕ → List ℕ
parts_line depth number name shape =
    join_with_byte 32 (depth ∷ number ∷ name ∷ shape ∷ []) ++ 10 ∷ []

-- The line isn't made of four parts so, the first three of them without a space.
abbrev pub HasNoParts : List ℕ → Type 0
HasNoParts line =
    (depth number name shape : List ℕ) → HasNoSpace depth → HasNoSpace number → HasNoSpace name
    → line ≢ parts_line depth number name shape

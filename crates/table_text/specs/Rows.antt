-- What a line says of a field.
use Rattle.std.specs.Prelude.{◌≡◌, ℕ, ◌+◌, ◌^◌, ◌<◌, ◌≤◌, true, List, length, slice_index}
use Rattle.std.specs.Str.Parse.{IsNumeral, digits_value}
use Rattle.bag_model.specs.Shapes.{Shape, Taint, Scalar, Set, Counter, Map, Bag, no_node}
use Rattle.bag_model.specs.Tables.{IsScalarKind, IsKeyKind, is_name}
use Rattle.table_text.specs.declared.TheConstants.{MAPS_MAX}
use Rattle.table_text.specs.TableTexts.{field_line}

-- A field at a depth. A bag that its shape ends in is without its fields: the lines after it say
-- them.
pub record Row : Type 0 where
  pub depth : ℕ
  pub name : List ℕ
  pub number : ℕ
  pub shape : Shape

-- The shape is one that a line can say.
abbrev pub IsToldShape : Shape → Type 0
IsToldShape Taint = Unit {0}
IsToldShape (Scalar pick kind) = IsScalarKind kind
IsToldShape (Set kind) = IsScalarKind kind
IsToldShape Counter = Unit {0}
IsToldShape (Map key value) = IsKeyKind key × IsToldShape value
IsToldShape (Bag nodes) = nodes ≡ no_node

-- How many maps are in one another.
abbrev pub map_count : Shape → ℕ
map_count (Map key value) = 1 + map_count value
map_count _ = 0

-- Digits without a leading zero, unless there is one digit, that say this number, however great.
pub record IsDepth (digits : List ℕ) (depth : ℕ) : Type 0 where
  pub digits_are : IsNumeral 10 digits
  pub no_zero : slice_index digits 0 ≡ 48 → length digits ≡ 1
  pub value : digits_value 10 digits ≡ depth

-- The line has the form of a field's, and says this: the name is one of the definition language,
-- the number has 16 bits, and there aren't too many maps in one another.
pub record SaysRow (text : List ℕ) (row : Row) : Type 0 where
  pub named : is_name row.name ≡ true
  pub numbered : row.number < 2 ^ 16
  pub told : IsToldShape row.shape
  pub flat : map_count row.shape ≤ MAPS_MAX
  pub digits : List ℕ
  pub deep : IsDepth digits row.depth
  pub is : text ≡ field_line digits row.name row.number row.shape

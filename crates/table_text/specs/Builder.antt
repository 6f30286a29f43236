-- The bags whose fields are being read, with what was read of them.
use Rattle.std.specs.Prelude.{◌≡◌, ◌≢◌, ℕ, ◌+◌, ◌^◌, ◌<◌, ◌≤◌, true, List, [], ◌∷◌, ◌++◌, map, length, reverse}
use Rattle.std.specs.List.{AllByRecursion}
use Rattle.context_model.specs.declared.TheConstants.{LEVELS_MAX}
use Rattle.bag_model.specs.declared.TheConstants.{FIELDS_MAX}
use Rattle.bag_model.specs.Shapes.{Field, fields}
use Rattle.bag_model.specs.Tables.{AreFields, is_name, levels, levels_under}
use Rattle.field_table.specs.Plain.{shape_of, nodes_of, IsIndexed, IsIndexedShape}
use Rattle.table_text.specs.declared.builder.OpenBag.{OpenBag}
use Rattle.table_text.specs.declared.builder.OpenField.{OpenField}
use Rattle.table_text.specs.declared.builder.Builder.{Builder}
use Rattle.table_text.specs.declared.rows.Row.{Row as CodeRow}
use Rattle.table_text.specs.Names.{HaveNames}
use Rattle.table_text.specs.Rows.{Row, IsToldShape, map_count}
use Rattle.table_text.specs.Rules.{deepest, ends_in_bag}
use Rattle.table_text.specs.TableRows.{rows_of}
use Rattle.table_text.specs.declared.TheConstants.{MAPS_MAX}

-- What a line says is as a line's must be.
pub record IsSoundRow (row : CodeRow) : Type 0 where
  pub named : is_name row.name.now ≡ true
  pub numbered : row.number < 2 ^ 16
  pub told : IsToldShape (shape_of row.shape)
  pub flat : map_count (shape_of row.shape) ≤ MAPS_MAX
  pub indexed : IsIndexedShape row.shape

-- The name of a field.
abbrev pub head_name : Field → List ℕ
head_name field = field.name

-- The least number that a field after these may have.
abbrev pub least_behind : List Field → ℕ
least_behind [] = 0
least_behind (field ∷ []) = field.number + 1
least_behind (field ∷ next ∷ more) = least_behind (next ∷ more)

-- A field comes after another of the same bag.
abbrev pub IsFieldBehind : List ℕ → ℕ → Field → Type 0
IsFieldBehind name number other = (other.number < number) × (other.name ≢ name)

-- A bag at this level with the fields whose lines were read, of which the last may not be whole.
pub record IsBag (bag : OpenBag) (level : ℕ) (heads : List Field) : Type 0 where
  pub at_level : bag.level ≡ level
  pub indexed : IsIndexed bag.fields
  pub sound : AreFields (nodes_of bag.fields)
  pub shallow : level + levels (nodes_of bag.fields) ≤ LEVELS_MAX
  pub names : HaveNames bag.names (map head_name heads)
  pub least : bag.least ≡ least_behind heads

-- The field of a line, of which its bag is yet to be read.
abbrev pub head_of : CodeRow → Field
head_of row = record { name = row.name.now; number = row.number; shape = shape_of row.shape }

-- A field that is open in a bag at this level.
pub record IsOpenField (level : ℕ) (field : OpenField) : Type 0 where
  pub bag : IsBag field.bag level (fields (nodes_of field.bag.fields) ++ head_of field.row ∷ [])
  pub row : IsSoundRow field.row
  pub ends : ends_in_bag (shape_of field.row.shape) ≡ true
  pub behind : AllByRecursion (IsFieldBehind field.row.name.now field.row.number)
      (fields (nodes_of field.bag.fields))
  pub deep : level + levels_under (shape_of field.row.shape) < LEVELS_MAX

-- The level of the bag in a field that is open in a bag at this level.
abbrev pub level_inside : ℕ → OpenField → ℕ
level_inside level field = level + (1 + levels_under (shape_of field.row.shape))

-- Fields that are open in one another, the outermost first, from this level on; the bag in the last
-- has that level.
abbrev pub AreOpen : ℕ → List OpenField → ℕ → Type 0
AreOpen level [] last = last ≡ level
AreOpen level (field ∷ more) last =
    IsOpenField level field × AreOpen (level_inside level field) more last

-- What the line of an open field said, at this depth.
abbrev pub open_row : ℕ → OpenField → Row
open_row depth field =
    record { depth = depth; name = field.row.name.now; number = field.row.number; shape = shape_of field.row.shape }

-- What the lines said of the bags around, from this depth on.
abbrev pub rows_around : ℕ → List OpenField → List Row
rows_around depth [] = []
rows_around depth (field ∷ more) =
    rows_of depth (nodes_of field.bag.fields) ++ open_row depth field ∷ rows_around (depth + 1) more

-- The depth of the fields of the innermost bag.
abbrev pub depth_of : Builder → ℕ
depth_of builder = length builder.outer.items

-- What all lines so far said.
abbrev pub rows_so_far : Builder → List Row
rows_so_far builder =
    rows_around 0 builder.outer.items ++ rows_of (depth_of builder) (nodes_of builder.bag.fields)

-- The lines so far broke no rule.
pub record IsSoundBuilder (builder : Builder) : Type 0 where
  pub outer : AreOpen 0 builder.outer.items builder.bag.level
  pub bag : IsBag builder.bag builder.bag.level (fields (nodes_of builder.bag.fields))
  pub count : builder.rows ≡ length (rows_so_far builder)
  pub few : builder.rows ≤ FIELDS_MAX

-- The innermost bag is the one that the next line may go to at the deepest.
abbrev pub IsFresh : Builder → Type 0
IsFresh builder = deepest (reverse (rows_so_far builder)) ≡ depth_of builder

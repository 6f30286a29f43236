-- Fields by their names.
use Rattle.std.specs.Prelude.{◌≡◌, ℕ, List, None}
use Rattle.bag_model.specs.Shapes.{Nodes}
use Rattle.bag_model.specs.Slots.{SlotAt, FindsSlot, name_path}
use Rattle.bag_model.specs.SlotValues.{HasSlot}
use Rattle.bag_model.specs.Tables.{IsTable}
use Rattle.table_text.specs.TableTexts.{table_text}
use Rattle.field_calls.specs.declared.refusals.FieldRefusal.{FieldRefusal}
use Rattle.field_calls.specs.declared.refusals.FieldRefusal.TheVariants.{NoField, Memory}

-- The text is that of the table.
abbrev pub IsPrintedTable : Nodes → List ℕ → Type 0
IsPrintedTable nodes text = IsTable nodes × (text ≡ table_text nodes)

-- The slot with this place looks so and has this name path.
pub record IsField (nodes : Nodes) (name : List ℕ) (slot : ℕ) (at : SlotAt) : Type 0 where
  pub there : HasSlot nodes slot at
  pub named : name_path at ≡ name

-- Some slot of the table has this name path.
abbrev pub NamesField : Nodes → List ℕ → Type 0
NamesField nodes name = (slot : ℕ) × (at : SlotAt) × IsField nodes name slot at

-- No slot of the table has it.
abbrev pub NamesNoField : Nodes → List ℕ → Type 0
NamesNoField nodes name = FindsSlot nodes name None

-- The refusal says that no slot has the name, and it is so. Where memory ran out, nothing is
-- claimed.
abbrev pub IsUnnamed : Nodes → List ℕ → FieldRefusal → Type 0
IsUnnamed nodes name NoField = NamesNoField nodes name
IsUnnamed nodes name Memory = Unit {0}
IsUnnamed nodes name other = ⊥

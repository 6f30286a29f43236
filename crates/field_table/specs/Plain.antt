-- The fields and shapes of the code as plain ones, and what is said of their indexes.
use Rattle.std.specs.Prelude.{ℕ, List}
use Rattle.bag_model.specs.declared.Pick.TheVariants.{Least, Greatest}
use Rattle.bag_model.specs.Shapes as model
use Rattle.scalar_types.specs.KindViews.{kind_of}
use Rattle.field_table.specs.declared.shapes.Shape.{Shape}
use Rattle.field_table.specs.declared.shapes.Slot.{Slot}
use Rattle.field_table.specs.declared.shapes.Slots.{Slots}
use Rattle.field_table.specs.declared.shapes.Shape.TheFolds.{fold-Shape, fold-Slot, fold-Slots}
use Rattle.field_table.specs.declared.shapes.Shape.TheOpen.{Shape-F, Slot-F, Slots-F}
use Rattle.field_table.specs.Tables.{Kept, KeptField, KeptBag, kept, kept_nodes, plain_shape, plain_bag, IsKeptBag, IsInOrder, IsLoose, Taint, Scalar, Set, Counter, Map, Bag}

-- A shape as it is kept, where the shapes inside it are kept already.
abbrev pub shape_step : Shape-F Kept KeptField KeptBag → Kept
shape_step Shape-F.Taint = Taint
shape_step (Shape-F.Scalar kind) = Scalar Least (kind_of kind)
shape_step (Shape-F.Greatest kind) = Scalar Greatest (kind_of kind)
shape_step (Shape-F.Set kind) = Set (kind_of kind)
shape_step Shape-F.Counter = Counter
shape_step (Shape-F.Map key value) = Map (kind_of key) value.value
shape_step (Shape-F.Bag bag) = Bag bag

-- A field as it is kept, where its shape is kept already.
abbrev pub slot_step : Slot-F Kept KeptField KeptBag → KeptField
slot_step slot = record { name = slot.name; number = slot.number; shape = slot.shape }

-- The fields of a bag as they are kept, where each is kept already.
abbrev pub slots_step : Slots-F Kept KeptField KeptBag → KeptBag
slots_step slots = kept (kept_nodes slots.items.items) slots.ends.items slots.by_name.items

-- A shape as it is kept.
abbrev pub kept_shape : Shape → Kept
kept_shape = fold-Shape Kept KeptField KeptBag shape_step slot_step slots_step

-- A field as it is kept.
abbrev pub kept_field : Slot → KeptField
kept_field = fold-Slot Kept KeptField KeptBag shape_step slot_step slots_step

-- The fields of a bag as they are kept.
abbrev pub kept_bag : Slots → KeptBag
kept_bag = fold-Slots Kept KeptField KeptBag shape_step slot_step slots_step

-- The plain shape.
abbrev pub shape_of : Shape → model.Shape
shape_of shape = plain_shape (kept_shape shape)

-- The plain field.
abbrev pub field_of : Slot → model.Field
field_of slot =
    record {
      name = (kept_field slot).name;
      number = (kept_field slot).number;
      shape = plain_shape
          (kept_field slot).shape;
    }

-- The plain fields.
abbrev pub nodes_of : Slots → model.Nodes
nodes_of slots = plain_bag (kept_bag slots)

-- The indexes of the fields are right, and those of bags inside are in the order of names too.
abbrev pub IsIndexed : Slots → Type 0
IsIndexed slots = IsKeptBag (kept_bag slots)

-- The index by name is in order.
abbrev pub IsOrdered : Slots → Type 0
IsOrdered slots = IsInOrder (kept_bag slots)

-- The indexes in a shape that no field has yet are right.
abbrev pub IsIndexedShape : Shape → Type 0
IsIndexedShape shape = IsLoose (kept_shape shape)

-- The indexes in the shape of a field that no bag has yet are right.
abbrev pub IsIndexedField : Slot → Type 0
IsIndexedField slot = IsLoose (kept_field slot).shape

-- The name of a field.
abbrev pub field_name : Slot → List ℕ
field_name slot = (kept_field slot).name

-- The number of a field.
abbrev pub field_number : Slot → ℕ
field_number slot = slot.number

-- The bytes that are sent for one field.
use Rattle.std.specs.Prelude.{◌≡◌, ℕ, List}
use Rattle.context_model.specs.declared.Form.TheVariants.{One}
use Rattle.context_model.specs.Atoms.{Atom}
use Rattle.context_model.specs.Framing.{bytes_of}
use Rattle.bag_model.specs.Encodings.{IsEncoding}
use Rattle.bag_model.specs.Shapes.{Nodes}
use Rattle.bag_model.specs.Slots.{SlotAt, name_path}
use Rattle.bag_model.specs.SlotValues.{HasSlot, only}
use Rattle.bag_model.specs.Values.{Value}
use Rattle.field_writes.specs.Writes.{IsWrite}

-- The table has a slot with this name path, the text is a write of a value to it in form one, and
-- the bytes are those, in form one, of the context that says this value of the slot and nothing
-- else.
pub record SaysWrite (nodes : Nodes) (name text bytes : List ℕ) : Type 0 where
  pub slot : ℕ
  pub at : SlotAt
  pub there : HasSlot nodes slot at
  pub named : name_path at ≡ name
  pub value : Value
  pub written : IsWrite One at.shape value text
  pub list : List Atom
  pub encoding : IsEncoding nodes (only nodes slot value) list
  pub sent : bytes ≡ bytes_of One list

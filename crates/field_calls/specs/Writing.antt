-- What is written for a field.
use Rattle.std.specs.Prelude.{◌≡◌, ℕ, List, Result, Ok, Err}
use Rattle.context_model.specs.declared.Form.{Form}
use Rattle.context_model.specs.Atoms.{Atom}
use Rattle.context_model.specs.Framing.{bytes_of}
use Rattle.bag_model.specs.Encodings.{IsEncoding}
use Rattle.bag_model.specs.Shapes.{Nodes}
use Rattle.bag_model.specs.Slots.{SlotAt}
use Rattle.bag_model.specs.SlotValues.{only}
use Rattle.bag_model.specs.Values.{Value}
use Rattle.table_text.specs.Reading.{IsTableFault}
use Rattle.field_writes.specs.Writes.{IsWrite}
use Rattle.byte_calls.specs.Room.{HoldsBytes, IsTooShortFor}
use Rattle.field_calls.specs.declared.refusals.FieldRefusal.{FieldRefusal}
use Rattle.field_calls.specs.declared.refusals.FieldRefusal.TheVariants.{Table, NoField, NoWrite, Memory, Room}
use Rattle.field_calls.specs.Fields.{IsPrintedTable, IsField, NamesNoField}

-- A slot has this name path, the text is a write of a value to it in the form that is asked for,
-- and the bytes are those of the context that says this value of the slot and nothing else.
pub record SaysFieldWrite (form : Form) (nodes : Nodes) (name text bytes : List ℕ) : Type 0 where
  pub slot : ℕ
  pub at : SlotAt
  pub field : IsField nodes name slot at
  pub value : Value
  pub written : IsWrite form at.shape value text
  pub list : List Atom
  pub encoding : IsEncoding nodes (only nodes slot value) list
  pub sent : bytes ≡ bytes_of form list

-- A slot has this name path, and the text is no write to it in the form that is asked for.
abbrev pub HasNoWrite : Form → Nodes → List ℕ → List ℕ → Type 0
HasNoWrite form nodes name text =
    (slot : ℕ) × (at : SlotAt) × IsField nodes name slot at
    × ((value : Value) → IsWrite form at.shape value text → ⊥)

-- Why nothing is written to a field of this table. Where memory ran out, nothing is claimed.
abbrev pub IsUnwrittenFor : Form → Nodes → List ℕ → List ℕ → FieldRefusal → Type 0
IsUnwrittenFor form nodes name text NoField = NamesNoField nodes name
IsUnwrittenFor form nodes name text NoWrite = HasNoWrite form nodes name text
IsUnwrittenFor form nodes name text Memory = Unit {0}
IsUnwrittenFor form nodes name text other = ⊥

-- The bytes of the list are at the beginning of the buffer, and the answer is their size; or the
-- buffer is too short for them; or memory ran out, and the buffer is as before.
abbrev pub PutsList : Form → List Atom → List ℕ → List ℕ → Result ℕ FieldRefusal → Type 0
PutsList form list old new (Ok size) = HoldsBytes (bytes_of form list) size old new
PutsList form list old new (Err (Room size)) = IsTooShortFor (bytes_of form list) size old new
PutsList form list old new (Err Memory) = new ≡ old
PutsList form list old new (Err other) = ⊥

-- The bytes of the write are at the beginning of the buffer, and the answer is their size; or the
-- buffer is too short for them. Or the table's text has this first fault, or it is that of a table
-- and nothing is written to the field, and the buffer is as before.
abbrev pub WritesField : Form → List ℕ → List ℕ → List ℕ → List ℕ → List ℕ → Result ℕ FieldRefusal
    → Type 0
WritesField form table name text old new (Ok size) =
    (nodes : Nodes) × IsPrintedTable nodes table × (bytes : List ℕ)
    × SaysFieldWrite form nodes name text bytes × HoldsBytes bytes size old new
WritesField form table name text old new (Err (Room size)) =
    (nodes : Nodes) × IsPrintedTable nodes table × (bytes : List ℕ)
    × SaysFieldWrite form nodes name text bytes × IsTooShortFor bytes size old new
WritesField form table name text old new (Err (Table line code)) =
    IsTableFault table line code × (new ≡ old)
WritesField form table name text old new (Err Memory) = new ≡ old
WritesField form table name text old new (Err refusal) =
    (nodes : Nodes) × IsPrintedTable nodes table × IsUnwrittenFor form nodes name text refusal
    × (new ≡ old)

-- The bytes of the write are at the beginning of the buffer, and the answer is their size; or the
-- buffer is too short for them. Or nothing is written to a field of this table, and the buffer is
-- as before.
abbrev pub WritesFieldUnder : Form → Nodes → List ℕ → List ℕ → List ℕ → List ℕ
    → Result ℕ FieldRefusal → Type 0
WritesFieldUnder form nodes name text old new (Ok size) =
    (bytes : List ℕ) × SaysFieldWrite form nodes name text bytes × HoldsBytes bytes size old new
WritesFieldUnder form nodes name text old new (Err (Room size)) =
    (bytes : List ℕ) × SaysFieldWrite form nodes name text bytes × IsTooShortFor bytes size old new
WritesFieldUnder form nodes name text old new (Err (Table line code)) = ⊥
WritesFieldUnder form nodes name text old new (Err Memory) = new ≡ old
WritesFieldUnder form nodes name text old new (Err refusal) =
    IsUnwrittenFor form nodes name text refusal × (new ≡ old)

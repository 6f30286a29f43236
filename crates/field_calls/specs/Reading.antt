-- What is read of a field.
use Rattle.std.specs.Prelude.{◌≡◌, ◌↔◌, ℕ, List, [], Result, Ok, Err}
use Rattle.context_model.specs.Atoms.{Atom}
use Rattle.context_model.specs.ContextFault.{IsContextOf, IsFirstContextFault}
use Rattle.context_model.specs.Ended.{IsEnded, field_path}
use Rattle.context_model.specs.Framing.{form_of, offset_of}
use Rattle.bag_model.specs.Readings.{PathsOf}
use Rattle.bag_model.specs.Shapes.{Nodes}
use Rattle.bag_model.specs.Slots.{SlotAt}
use Rattle.bag_model.specs.SlotValues.{SaysSlot}
use Rattle.bag_model.specs.Typed.{AreTyped, IsFirstIllTyped}
use Rattle.bag_model.specs.Values.{Value}
use Rattle.bag_scan.specs.declared.states.State.{State}
use Rattle.bag_scan.specs.declared.states.State.TheVariants.{Exact}
use Rattle.text_model.specs.ValueTexts.{value_text}
use Rattle.table_text.specs.Reading.{IsTableFault}
use Rattle.wire_bytes.specs.Reading.{byte_code_of}
use Rattle.byte_calls.specs.Room.{HoldsBytes, IsTooShortFor}
use Rattle.field_calls.specs.declared.refusals.FieldRefusal.{FieldRefusal}
use Rattle.field_calls.specs.declared.refusals.FieldRefusal.TheVariants.{Table, NoField, Fault, IllTyped, Memory, Room}
use Rattle.field_calls.specs.Fields.{IsPrintedTable, IsField, NamesField, NamesNoField}

-- The bytes are those of a context in which each atom is spelled as the table says.
abbrev pub IsTypedContextOf : Nodes → List Atom → List ℕ → Type 0
IsTypedContextOf nodes list bytes = IsContextOf list bytes × AreTyped nodes (PathsOf list) []

-- The bytes are those of a context, and this many of them come before its first atom that isn't
-- spelled as the table says.
abbrev pub IsIllTypedAt : Nodes → List ℕ → ℕ → Type 0
IsIllTypedAt nodes bytes offset =
    (list : List Atom) × (place : ℕ) × IsContextOf list bytes × IsFirstIllTyped nodes list place
    × (offset ≡ offset_of (form_of bytes) list place)

-- Why the bytes are those of no typed context. Where memory ran out, nothing is claimed.
abbrev pub IsMisread : Nodes → List ℕ → FieldRefusal → Type 0
IsMisread nodes bytes (Fault offset code) = IsFirstContextFault bytes offset (byte_code_of code)
IsMisread nodes bytes (IllTyped offset) = IsIllTypedAt nodes bytes offset
IsMisread nodes bytes Memory = Unit {0}
IsMisread nodes bytes other = ⊥

-- The bytes are those of a typed context, a slot has this name path, the state says whether the
-- slot is ended there, and the text is that of the value that the context says of it.
pub record IsFieldText (nodes : Nodes) (bytes name : List ℕ) (state : State)
    (text : List ℕ) : Type 0 where
  pub list : List Atom
  pub typed : IsTypedContextOf nodes list bytes
  pub slot : ℕ
  pub at : SlotAt
  pub field : IsField nodes name slot at
  pub ended : (state ≡ Exact) ↔ IsEnded list (field_path at.numbers)
  pub value : Value
  pub says : SaysSlot list at value
  pub told : text ≡ value_text at.shape value

-- Why nothing is read of a field of this table: no slot has the name; or one has it, and the bytes
-- are those of no typed context. Where memory ran out, nothing is claimed.
abbrev pub IsFieldUnread : Nodes → List ℕ → List ℕ → FieldRefusal → Type 0
IsFieldUnread nodes bytes name NoField = NamesNoField nodes name
IsFieldUnread nodes bytes name Memory = Unit {0}
IsFieldUnread nodes bytes name refusal = NamesField nodes name × IsMisread nodes bytes refusal

-- The text of the field is at the beginning of the buffer, and the answer has its state and its
-- size; or the buffer is too short for it. Or the table's text has this first fault, or it is that
-- of a table and nothing is read of the field, and the buffer is as before.
abbrev pub ReadsField : List ℕ → List ℕ → List ℕ → List ℕ → List ℕ → Result (State × ℕ) FieldRefusal
    → Type 0
ReadsField table bytes name old new (Ok answer) =
    (nodes : Nodes) × IsPrintedTable nodes table × (text : List ℕ)
    × IsFieldText nodes bytes name answer.0 text × HoldsBytes text answer.1 old new
ReadsField table bytes name old new (Err (Room size)) =
    (nodes : Nodes) × IsPrintedTable nodes table × (state : State) × (text : List ℕ)
    × IsFieldText nodes bytes name state text × IsTooShortFor text size old new
ReadsField table bytes name old new (Err (Table line code)) =
    IsTableFault table line code × (new ≡ old)
ReadsField table bytes name old new (Err Memory) = new ≡ old
ReadsField table bytes name old new (Err refusal) =
    (nodes : Nodes) × IsPrintedTable nodes table × IsFieldUnread nodes bytes name refusal
    × (new ≡ old)

-- The text of the field is at the beginning of the buffer, and the answer has its state and its
-- size; or the buffer is too short for it. Or nothing is read of a field of this table, and the
-- buffer is as before.
abbrev pub ReadsFieldUnder : Nodes → List ℕ → List ℕ → List ℕ → List ℕ
    → Result (State × ℕ) FieldRefusal → Type 0
ReadsFieldUnder nodes bytes name old new (Ok answer) =
    (text : List ℕ) × IsFieldText nodes bytes name answer.0 text
    × HoldsBytes text answer.1 old new
ReadsFieldUnder nodes bytes name old new (Err (Room size)) =
    (state : State) × (text : List ℕ) × IsFieldText nodes bytes name state text
    × IsTooShortFor text size old new
ReadsFieldUnder nodes bytes name old new (Err (Table line code)) = ⊥
ReadsFieldUnder nodes bytes name old new (Err Memory) = new ≡ old
ReadsFieldUnder nodes bytes name old new (Err refusal) =
    IsFieldUnread nodes bytes name refusal × (new ≡ old)

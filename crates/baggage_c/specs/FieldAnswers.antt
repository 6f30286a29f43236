-- Outcomes of calls on tables and fields as numbers.
use Rattle.std.specs.Prelude.{ℕ, Result, Ok, Err}
use Rattle.context_model.specs.declared.Form.{Form}
use Rattle.context_model.specs.declared.Form.TheVariants.{One, Two}
use Rattle.bag_scan.specs.declared.states.State.{State}
use Rattle.bag_scan.specs.declared.states.State.TheVariants.{Exact, Partial}
use Rattle.table_text.specs.declared.faults.TableCode.{TableCode}
use Rattle.table_text.specs.declared.faults.TableCode.TheVariants.{Head, Form as LineForm, Depth, Order, DuplicateField, TooDeep, TooManySlots}
use Rattle.field_calls.specs.declared.refusals.FieldRefusal.{FieldRefusal}
use Rattle.field_calls.specs.declared.refusals.FieldRefusal.TheVariants as fields
use Rattle.place_calls.specs.declared.refusals.PlaceRefusal.{PlaceRefusal}
use Rattle.place_calls.specs.declared.refusals.PlaceRefusal.TheVariants as places
use Rattle.baggage_c.specs.declared.answers.Answer.{Answer}
use Rattle.baggage_c.specs.Answers.{code_number, plain_answer, refused, refused_at, refused_of}
use Rattle.baggage_c.specs.Answers as status

-- The number of a state, as the header has it.
abbrev pub state_code : State → ℕ
state_code Exact = 1
state_code Partial = 2

-- The number of a form, as the header has it.
abbrev pub header_form : Form → ℕ
header_form One = 1
header_form Two = 2

-- The number of a rule of a table's text, as the header has it.
abbrev pub table_number : TableCode → ℕ
table_number Head = 1
table_number LineForm = 2
table_number Depth = 3
table_number Order = 4
table_number DuplicateField = 5
table_number TooDeep = 6
table_number TooManySlots = 7

-- The numbers of a refusal. What a refusal doesn't speak of is 0.
abbrev pub field_refusal : FieldRefusal → Answer
field_refusal (fields.Table line code) = refused_at status.table (table_number code) line
field_refusal fields.NoField = refused status.field
field_refusal fields.NoWrite = refused status.write
field_refusal (fields.Fault offset code) = refused_at status.fault (code_number code) offset
field_refusal (fields.IllTyped offset) = refused_at status.typing 0 offset
field_refusal fields.Memory = refused status.memory
field_refusal (fields.Room size) = plain_answer status.room size

-- The numbers of what is read: beside its size the state of the field.
abbrev pub reading_answer : Result (State × ℕ) FieldRefusal → Answer
reading_answer (Ok read) =
    record { status = status.ok; code = state_code read.0; context = 0; offset = 0; size = read.1 }
reading_answer (Err refusal) = field_refusal refusal

-- The numbers of what is written.
abbrev pub write_answer : Result ℕ FieldRefusal → Answer
write_answer (Ok size) = plain_answer status.ok size
write_answer (Err refusal) = field_refusal refusal

-- The numbers of places: beside how many there are the form of the bytes.
abbrev pub places_answer : Result (Form × ℕ) PlaceRefusal → Answer
places_answer (Ok found) =
    record { status = status.ok; code = header_form found.0; context = 0; offset = 0; size = found.1 }
places_answer (Err (places.Table line code)) = refused_at status.table (table_number code) line
places_answer (Err (places.NoSlot which)) = refused_of status.field 0 which 0
places_answer (Err (places.Fault offset code)) = refused_at status.fault (code_number code) offset
places_answer (Err places.Memory) = refused status.memory
places_answer (Err (places.Room size)) = plain_answer status.room size

-- What a call does under a table that was read is what the call by the table's text does.
use Rattle.std.specs.Prelude.{ℕ, List, Result, Ok, Err}
use Rattle.context_model.specs.declared.Form.{Form}
use Rattle.bag_model.specs.Shapes.{Nodes}
use Rattle.bag_scan.specs.declared.states.State.{State}
use Rattle.field_calls.specs.declared.refusals.FieldRefusal.{FieldRefusal}
use Rattle.field_calls.specs.declared.refusals.FieldRefusal.TheVariants.{Table, NoField, NoWrite, Fault, IllTyped, Memory, Room}
use Rattle.field_calls.specs.Fields.{IsPrintedTable}
use Rattle.field_calls.specs.Reading.{ReadsField, ReadsFieldUnder}
use Rattle.field_calls.specs.Writing.{WritesField, WritesFieldUnder}

-- What is read of a field under the table is read by its text.
pub reads_by_text : (nodes : Nodes) (table bytes name old new : List ℕ) (result : Result (State × ℕ) FieldRefusal) → IsPrintedTable nodes table
    → ReadsFieldUnder nodes bytes name old new result → ReadsField table bytes name old new result
reads_by_text nodes table bytes name old new (Ok answer) printed (text, told, holds) = (nodes, printed, text, told, holds)
reads_by_text nodes table bytes name old new (Err (Room size)) printed (state, text, told, short) = (nodes, printed, state, text, told, short)
reads_by_text nodes table bytes name old new (Err (Table line code)) printed none = absurd none
reads_by_text nodes table bytes name old new (Err Memory) printed same = same
reads_by_text nodes table bytes name old new (Err NoField) printed (unread, same) = (nodes, printed, unread, same)
reads_by_text nodes table bytes name old new (Err NoWrite) printed (unread, same) = (nodes, printed, unread, same)
reads_by_text nodes table bytes name old new (Err (Fault offset code)) printed (unread, same) = (nodes, printed, unread, same)
reads_by_text nodes table bytes name old new (Err (IllTyped offset)) printed (unread, same) = (nodes, printed, unread, same)

-- What is written to a field under the table is written by its text.
pub writes_by_text : (form : Form) (nodes : Nodes) (table name text old new : List ℕ) (result : Result ℕ FieldRefusal) → IsPrintedTable nodes table
    → WritesFieldUnder form nodes name text old new result → WritesField form table name text old new result
writes_by_text form nodes table name text old new (Ok size) printed (bytes, says, holds) = (nodes, printed, bytes, says, holds)
writes_by_text form nodes table name text old new (Err (Room size)) printed (bytes, says, short) = (nodes, printed, bytes, says, short)
writes_by_text form nodes table name text old new (Err (Table line code)) printed none = absurd none
writes_by_text form nodes table name text old new (Err Memory) printed same = same
writes_by_text form nodes table name text old new (Err NoField) printed (unwritten, same) = (nodes, printed, unwritten, same)
writes_by_text form nodes table name text old new (Err NoWrite) printed (unwritten, same) = (nodes, printed, unwritten, same)
writes_by_text form nodes table name text old new (Err (Fault offset code)) printed (unwritten, same) = (nodes, printed, unwritten, same)
writes_by_text form nodes table name text old new (Err (IllTyped offset)) printed (unwritten, same) = (nodes, printed, unwritten, same)

-- Faults of tables, lines and inputs in the words of this crate.
use Rattle.std.specs.Prelude.{◌≡◌, ℕ, List}
use Rattle.outside.specs.declared.answers.OrMemory.{OrMemory}
use Rattle.outside.specs.declared.answers.OrMemory.TheVariants as answers
use Rattle.table_text.specs.declared.faults.TableFault.{TableFault}
use Rattle.table_text.specs.declared.faults.TableFault.TheVariants as tables
use Rattle.text_lines.specs.Readings.{IsFirstBad}
use Rattle.bag_model.specs.Shapes.{Nodes}
use Rattle.context_model.specs.declared.Form.{Form}
use Rattle.byte_calls.specs.declared.refusals.Refusal.{Refusal}
use Rattle.byte_calls.specs.declared.refusals.Refusal.TheVariants as calls
use Rattle.step_calls.specs.declared.refusals.StepRefusal.{StepRefusal}
use Rattle.step_calls.specs.declared.refusals.StepRefusal.TheVariants.{Table, Write, Fault, Memory, Room}
use Rattle.step_calls.specs.declared.refusals.WriteCode.{WriteCode}
use Rattle.step_calls.specs.Lines.{write_lines, lines_from_one}

-- The refusal tells the fault of a table's text.
abbrev pub StepTellsTable : TableFault → StepRefusal → Type 0
StepTellsTable (tables.At line code) refusal = refusal ≡ Table line code
StepTellsTable tables.Memory refusal = refusal ≡ Memory

-- The refusal tells what is wrong with the inputs.
abbrev pub TellsBytes : Refusal → StepRefusal → Type 0
TellsBytes (calls.Fault context offset code) refusal = refusal ≡ Fault context offset code
TellsBytes calls.Memory refusal = refusal ≡ Memory
TellsBytes (calls.Room size) refusal = refusal ≡ Room size

-- The refusal of a text, by that of its line with this number.
abbrev pub write_refusal_at : ℕ → OrMemory WriteCode → StepRefusal
write_refusal_at line (answers.Fault code) = Write line code
write_refusal_at line answers.Memory = Memory

-- The refusal tells the first bad line of the text. Where memory ran out, nothing is claimed.
abbrev pub IsWriteRefusalOf : Form → Nodes → List ℕ → StepRefusal → Type 0
IsWriteRefusalOf form nodes text (Write line code) =
    IsFirstBad (write_lines form nodes) (lines_from_one text) line code
IsWriteRefusalOf form nodes text Memory = Unit {0}
IsWriteRefusalOf form nodes text other = ⊥

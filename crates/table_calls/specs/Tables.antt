-- Texts that are read as tables.
use Rattle.std.specs.Prelude.{◌≡◌, ℕ, List, length, Result, Ok, Err}
use Rattle.bag_model.specs.Shapes.{Nodes}
use Rattle.bag_model.specs.Slots.{slots_of}
use Rattle.table_text.specs.declared.faults.TableFault.{TableFault}
use Rattle.table_text.specs.Reading.{IsTableFault, IsTableRefusalOf}
use Rattle.field_calls.specs.Fields.{IsPrintedTable}
use Rattle.table_calls.specs.declared.refusals.TableRefusal.{TableRefusal}
use Rattle.table_calls.specs.declared.refusals.TableRefusal.TheVariants.{Table, Memory}

-- The answer is the number of slots of the table whose text this is, or tells its first bad line.
abbrev pub ChecksTable : List ℕ → Result ℕ TableFault → Type 0
ChecksTable text (Ok count) =
    (nodes : Nodes) × IsPrintedTable nodes text × (count ≡ length (slots_of nodes))
ChecksTable text (Err fault) = IsTableRefusalOf text fault

-- The refusal tells the first bad line of the text at this place. Where memory ran out, nothing is
-- claimed.
abbrev pub IsTableRefusalAt : ℕ → List ℕ → TableRefusal → Type 0
IsTableRefusalAt place text (Table which line code) = (which ≡ place) × IsTableFault text line code
IsTableRefusalAt place text Memory = Unit {0}
IsTableRefusalAt place text other = ⊥

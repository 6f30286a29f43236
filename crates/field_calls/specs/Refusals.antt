-- Faults of tables and contexts in the words of this crate.
use Rattle.std.specs.Prelude.{◌≡◌}
use Rattle.table_text.specs.declared.faults.TableFault.{TableFault}
use Rattle.table_text.specs.declared.faults.TableFault.TheVariants as tables
use Rattle.wire_bytes.specs.declared.contexts.ContextFault.{ContextFault}
use Rattle.wire_bytes.specs.declared.contexts.ContextFault.TheVariants as contexts
use Rattle.field_calls.specs.declared.refusals.FieldRefusal.{FieldRefusal}
use Rattle.field_calls.specs.declared.refusals.FieldRefusal.TheVariants.{Table, Fault, Memory}

-- The refusal tells the fault of a context's bytes.
abbrev pub TellsContext : ContextFault → FieldRefusal → Type 0
TellsContext (contexts.At offset code) refusal = refusal ≡ Fault offset code
TellsContext contexts.Memory refusal = refusal ≡ Memory

-- The refusal tells the fault of a table's text.
abbrev pub TellsTable : TableFault → FieldRefusal → Type 0
TellsTable (tables.At line code) refusal = refusal ≡ Table line code
TellsTable tables.Memory refusal = refusal ≡ Memory

-- Faults of tables and contexts in the words of this crate.
use Rattle.std.specs.Prelude.{◌≡◌}
use Rattle.table_text.specs.declared.faults.TableFault.{TableFault}
use Rattle.table_text.specs.declared.faults.TableFault.TheVariants as tables
use Rattle.wire_bytes.specs.declared.contexts.ContextFault.{ContextFault}
use Rattle.wire_bytes.specs.declared.contexts.ContextFault.TheVariants as contexts
use Rattle.place_calls.specs.declared.refusals.PlaceRefusal.{PlaceRefusal}
use Rattle.place_calls.specs.declared.refusals.PlaceRefusal.TheVariants.{Table, Fault, Memory}

-- The refusal tells the fault of a context's bytes.
abbrev pub PlacesTellContext : ContextFault → PlaceRefusal → Type 0
PlacesTellContext (contexts.At offset code) refusal = refusal ≡ Fault offset code
PlacesTellContext contexts.Memory refusal = refusal ≡ Memory

-- The refusal tells the fault of a table's text.
abbrev pub PlacesTellTable : TableFault → PlaceRefusal → Type 0
PlacesTellTable (tables.At line code) refusal = refusal ≡ Table line code
PlacesTellTable tables.Memory refusal = refusal ≡ Memory

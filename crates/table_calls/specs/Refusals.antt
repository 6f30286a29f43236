-- Faults of contexts in the words of this crate.
use Rattle.wire_bytes.specs.declared.contexts.ContextFault.{ContextFault}
use Rattle.wire_bytes.specs.declared.contexts.ContextFault.TheVariants as contexts
use Rattle.table_calls.specs.declared.refusals.TableRefusal.{TableRefusal}
use Rattle.table_calls.specs.declared.refusals.TableRefusal.TheVariants.{Fault, Memory}

-- The refusal of bytes that are no context's.
abbrev pub unreported : ContextFault → TableRefusal
unreported (contexts.At offset code) = Fault offset code
unreported contexts.Memory = Memory

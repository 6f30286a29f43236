-- What is read of a field, and why nothing is.
use Rattle.std.specs.Prelude.{◌≡◌, ℕ, List, [], Some, None}
use Rattle.context_model.specs.Atoms.{Atom}
use Rattle.context_model.specs.ContextFault.{IsContextOf, IsFirstContextFault}
use Rattle.bag_model.specs.Shapes.{Nodes}
use Rattle.bag_model.specs.Slots.{FindsSlot}
use Rattle.bag_model.specs.Readings.{PathsOf}
use Rattle.bag_model.specs.Typed.{AreTyped, IsFirstIllTyped}
use Rattle.wire_bytes.specs.Reading.{byte_code_of}
use Rattle.wire_bytes.specs.declared.contexts.ContextFault.{ContextFault}
use Rattle.wire_bytes.specs.declared.contexts.ContextFault.TheVariants as contexts
use Rattle.accessor_gen.specs.Access.{IsReadingOf}
use Rattle.accessor_gen.specs.declared.access.Reading.{Reading}
use Rattle.checkout_client.specs.declared.FieldFault.{FieldFault}
use Rattle.checkout_client.specs.declared.FieldFault.TheVariants.{NoField, NoContext, IllTyped, Memory}

-- The bytes are those of a typed context, and this is read in it of the slot with this name path.
pub record IsRead (nodes : Nodes) (bytes name : List ℕ) (reading : Reading) : Type 0 where
  pub list : List Atom
  pub framed : IsContextOf list bytes
  pub typed : AreTyped nodes (PathsOf list) []
  pub slot : ℕ
  pub found : FindsSlot nodes name (Some slot)
  pub read : IsReadingOf nodes list slot reading

-- Some slot has this name path.
abbrev pub NamesSlot : Nodes → List ℕ → Type 0
NamesSlot nodes name = (slot : ℕ) × FindsSlot nodes name (Some slot)

-- Why nothing is read: no slot has the name; or one has it, and the bytes have this first fault, or
-- the atom at this place of their context is the first that is ill typed. Where memory ran out,
-- nothing is claimed.
abbrev pub IsUnreadFor : Nodes → List ℕ → List ℕ → FieldFault → Type 0
IsUnreadFor nodes bytes name NoField = FindsSlot nodes name None
IsUnreadFor nodes bytes name (NoContext offset code) =
    NamesSlot nodes name × IsFirstContextFault bytes offset (byte_code_of code)
IsUnreadFor nodes bytes name (IllTyped place) =
    NamesSlot nodes name
    × ((list : List Atom) × IsContextOf list bytes × IsFirstIllTyped nodes list place)
IsUnreadFor nodes bytes name Memory = Unit {0}

-- The fault of bytes in the words of this crate.
abbrev pub TellsFault : ContextFault → FieldFault → Type 0
TellsFault (contexts.At offset code) fault = fault ≡ NoContext offset code
TellsFault contexts.Memory fault = fault ≡ Memory

-- What is so of contexts of an old table under a new one that fits.
use Rattle.std.specs.Prelude.{◌≡◌, ◌↔◌, ℕ, List, []}
use Rattle.context_model.specs.Atoms.{Atom}
use Rattle.context_model.specs.Orders.{Path, IsIn}
use Rattle.context_model.specs.Ended.{IsEnded, field_path}
use Rattle.bag_model.specs.Shapes.{Nodes}
use Rattle.bag_model.specs.Values.{Value}
use Rattle.bag_model.specs.Slots.{SlotAt, slots_of}
use Rattle.bag_model.specs.SlotValues.{HasSlot, SaysSlot}
use Rattle.bag_model.specs.Readings.{PathsOf}
use Rattle.bag_model.specs.Encodings.{IsForeign}
use Rattle.trace_model.specs.Graphs.{Graph, IsTypedContext}
use Rattle.trace_model.specs.Runs.{Lists, list_at}
use Rattle.trace_model.specs.Truth.{IsTruthAt}
use Rattle.trace_model.specs.Faithful.{IsRunStep}
use Rattle.def_evolve.specs.Agreement.{Agree, AreTypedForBoth}

-- Two slots, one of each table, to which the same numbers lead.
pub record IsCommonSlot (old new : Nodes) (a b : SlotAt) : Type 0 where
  pub before : IsIn a (slots_of old)
  pub behind : IsIn b (slots_of new)
  pub one : a.numbers ≡ b.numbers

-- A list that is typed under the old table: what is read of it under both tables is spelled as the
-- new one says; a common slot is ended under both or under neither, and says under both what
-- agrees; it says a value of each slot of the new table; and it is typed under the new table where
-- the old one names each of its paths, those of markers aside. In each run under the old table,
-- what the list of a step says of a common slot under the new one agrees with the truth where the
-- slot is ended.
pub record IsSafe (old new : Nodes) : Type 0 where
  pub spelled : (list : List Atom) → IsTypedContext old list
      → AreTypedForBoth old new (PathsOf list) []
  pub ended : (list : List Atom) (a b : SlotAt) → IsCommonSlot old new a b
      → IsEnded list (field_path a.numbers) ↔ IsEnded list (field_path b.numbers)
  pub agree : (list : List Atom) (a b : SlotAt) (v w : Value)
      → IsTypedContext old list → IsCommonSlot old new a b
      → SaysSlot list a v → SaysSlot list b w → Agree a.shape b.shape v w
  pub says : (list : List Atom) (b : SlotAt)
      → IsIn b (slots_of new) → (w : Value) × SaysSlot list b w
  pub clean : (list : List Atom) → IsTypedContext old list
      → ((p : Path) → IsForeign old list p → ⊥) → IsTypedContext new list
  pub truths : (graph : Graph) (lists : Lists) (n slot : ℕ) (a b : SlotAt) (v w : Value)
      → IsRunStep old graph lists n → HasSlot old slot a → IsCommonSlot old new a b
      → IsEnded (list_at lists n) (field_path a.numbers)
      → IsTruthAt old graph n slot v → SaysSlot (list_at lists n) b w → Agree a.shape b.shape v w

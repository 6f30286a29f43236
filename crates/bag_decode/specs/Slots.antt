-- Where a slot is in a list, and what the list says of it.
use Rattle.std.specs.Prelude.{ℕ, List, Option, Some, None}
use Rattle.context_model.specs.Atoms.{Atom}
use Rattle.context_model.specs.Ended.{field_path}
use Rattle.bag_model.specs.Readings.{PathsOf}
use Rattle.bag_model.specs.Shapes.{Nodes}
use Rattle.bag_model.specs.Slots.{SlotAt}
use Rattle.bag_model.specs.SlotValues.{HasSlot, SaysSlot}
use Rattle.bag_model.specs.Values.{Value}
use Rattle.bag_walks.specs.Parts.{IsBehind}
use Rattle.bag_scan.specs.Spans.{IsSpanAt}
use Rattle.bag_scan.specs.declared.spans.Span.{Span}

-- The place after the header of the field with these numbers, or none where the header isn't there.
abbrev pub IsPlaceBehind : List Atom → List ℕ → Option ℕ → Type 0
IsPlaceBehind list numbers None = PathsOf list (field_path numbers) → ⊥
IsPlaceBehind list numbers (Some from) = IsBehind list (field_path numbers) from

-- The place after the header of the slot with this number in the table, or none where the header
-- isn't there.
abbrev pub IsSlotPlace : Nodes → List Atom → ℕ → Option ℕ → Type 0
IsSlotPlace nodes list slot from =
    (at : SlotAt) → HasSlot nodes slot at → IsPlaceBehind list at.numbers from

-- The span of the slot with this place of the table.
abbrev pub IsSpanOfSlot : Nodes → List Atom → ℕ → Span → Type 0
IsSpanOfSlot nodes list slot span =
    (at : SlotAt) → HasSlot nodes slot at → IsSpanAt list (field_path at.numbers) at.shape span

-- The list says this value of the slot with this place of the table.
abbrev pub SaysAt : Nodes → List Atom → ℕ → Value → Type 0
SaysAt nodes list slot v = (at : SlotAt) × HasSlot nodes slot at × SaysSlot list at v

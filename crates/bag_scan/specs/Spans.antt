-- Where the slots of a table are in a list.
use Rattle.std.specs.Prelude.{ℕ, List, ◌++◌}
use Rattle.context_model.specs.Atoms.{Atom}
use Rattle.context_model.specs.Orders.{Path}
use Rattle.bag_model.specs.Readings.{PathsOf}
use Rattle.bag_model.specs.Shapes.{Shape}
use Rattle.bag_model.specs.Slots.{SlotAt}
use Rattle.bag_walks.specs.Searches.{IsFirstBeyond}
use Rattle.bag_walks.specs.Slots.{AreEach, AddsEach, IsSpanOf}
use Rattle.bag_scan.specs.declared.spans.Span.{Span}

-- The span is that of the slot with the path s.
abbrev pub IsSpanAt : List Atom → Path → Shape → Span → Type 0
IsSpanAt list s shape span = IsSpanOf list s span.from span.stop

-- Of each slot, seen from a bag with the path q, here is the span.
abbrev pub AreSpans : List Atom → List SlotAt → Path → List Span → Type 0
AreSpans list = AreEach (IsSpanAt list)

-- The spans of these slots follow the spans before.
abbrev pub AddsSpans : List Atom → List SlotAt → Path → List Span → List Span → Type 0
AddsSpans list = AddsEach (IsSpanAt list)

-- The spans of these slots of a field that isn't there follow the spans before, whatever the list
-- and the field's path. This is the first place beyond the field.
abbrev pub AddsAbsent : List SlotAt → ℕ → List Span → List Span → Type 0
AddsAbsent slots stop before after =
    (list : List Atom) (q : Path) → ((rest : Path) → PathsOf list (q ++ rest) → ⊥)
    → IsFirstBeyond list q stop
    → AddsSpans list slots q before after

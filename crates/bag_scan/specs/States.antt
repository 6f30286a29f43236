-- Whether what a list says of a slot is whole.
use Rattle.std.specs.Prelude.{◌≡◌, ◌↔◌, ℕ, ◌<◌, List, [], length, Option, Some, None}
use Rattle.std.specs.List.{slice_get}
use Rattle.context_model.specs.Atoms.{Atom}
use Rattle.context_model.specs.Ended.{HasMarker, IsEnded}
use Rattle.context_model.specs.Orders.{Path}
use Rattle.context_model.specs.WellFormed.{IsWellFormed}
use Rattle.bag_walks.specs.Slots.{IsSpanOf}
use Rattle.bag_scan.specs.declared.spans.Span.{Span}
use Rattle.bag_scan.specs.declared.states.State.{State}
use Rattle.bag_scan.specs.declared.states.State.TheVariants.{Exact}

-- The first marker is at this place, or there is none.
abbrev pub IsFirstMarker : List Atom → Option ℕ → Type 0
IsFirstMarker list None = HasMarker list → ⊥
IsFirstMarker list (Some place) =
    (place < length list) × (slice_get list place ≡ Some [])
    × ((k : ℕ) → k < place → slice_get list k ≡ Some [] → ⊥)

-- In each list with its first marker there, the slot with this span is exact where the list is
-- ended at its path.
abbrev pub TellsState : Option ℕ → Span → State → Type 0
TellsState marker span state =
    (list : List Atom) (s : Path) → IsWellFormed list → IsFirstMarker list marker
    → IsSpanOf list s span.from span.stop
    → (state ≡ Exact) ↔ IsEnded list s

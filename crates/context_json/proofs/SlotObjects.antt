-- The objects of slots.
use Rattle.std.proofs.Common.{◌≡◌, ◌↔◌, ℕ, List, Option, Some, sym, ◌∙◌, subst}
use Rattle.context_model.specs.Atoms.{Atom}
use Rattle.context_model.specs.Ended.{IsEnded, field_path}
use Rattle.context_model.specs.WellFormed.{IsWellFormed}
use Rattle.bag_model.specs.Readings.{PathsOf}
use Rattle.bag_model.specs.Shapes.{Nodes}
use Rattle.bag_model.specs.Slots.{SlotAt}
use Rattle.bag_model.specs.SlotValues.{HasSlot}
use Rattle.bag_model.specs.Values.{Value, IsOfShape}
use Rattle.bag_model.proofs.OfShape.{Reads-shape}
use Rattle.bag_scan.specs.States.{IsFirstMarker, TellsState}
use Rattle.bag_scan.specs.declared.spans.Span.{Span}
use Rattle.bag_scan.specs.declared.states.State.{State}
use Rattle.bag_scan.specs.declared.states.State.TheVariants.{Exact}
use Rattle.bag_decode.specs.Slots.{IsSpanOfSlot, SaysAt}
use Rattle.report_text.proofs.SlotLines.{exact_is}
use Rattle.serde_json.specs.Data.{Data}
use Rattle.context_json.specs.Objects.{slot_object, IsSlotObject}

one_some : {A : Type 0} (x y : A) → Some x ≡ Some y → x ≡ y
one_some x y e = cc

-- What is said of a slot is of its shape.
pub value_fits : (nodes : Nodes) (list : List Atom) (slot : ℕ) (v : Value) → SaysAt nodes list slot v → (at : SlotAt) → HasSlot nodes slot at → IsOfShape at.shape v
value_fits nodes list slot v (own, there, says) at here =
    subst (λ (found : SlotAt). IsOfShape found.shape v) (one_some own at (sym there ∙ here)) (Reads-shape own.shape (PathsOf list) (field_path own.numbers) v says)

-- An object with what is said of a slot, and with its state, shows it.
pub object_shown : (nodes : Nodes) (list : List Atom) (slot : ℕ) (marker : Option ℕ) (span : Span) (state : State) (v : Value) (d : Data) → SaysAt nodes list slot v → IsWellFormed list → IsFirstMarker list marker
    → IsSpanOfSlot nodes list slot span → TellsState marker span state → ((at : SlotAt) → HasSlot nodes slot at → d ≡ slot_object at state v) → IsSlotObject nodes list slot d
object_shown nodes list slot marker span state v d (at, there, says) w first its tells is = record {
  state = state;
  value = v;
  shown = record {
    at = at;
    there = there;
    ended = (λ t. ended.0 ((exact_is state).0 t), λ e. (exact_is state).1 (ended.1 e));
    says = says;
  };
  object_is = is at there;
}
  where
    ended : (state ≡ Exact) ↔ IsEnded list (field_path at.numbers)
    ended = tells list (field_path at.numbers) w first (its at there)

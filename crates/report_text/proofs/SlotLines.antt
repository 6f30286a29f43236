-- The lines of slots, one after another.
use Rattle.std.proofs.Common.{◌≡◌, ℕ, suc, ◌+◌, List, [], ◌++◌, length, ◌↔◌, IsTrue, Option, Some, sym, refl, ap, ◌∙◌, subst, append_assoc, arith}
use Rattle.std.specs.List.{slice_get}
use Rattle.std.proofs.lemmas.List.{append-nil}
use Rattle.context_model.specs.Atoms.{Atom}
use Rattle.context_model.specs.Ended.{IsEnded, field_path}
use Rattle.context_model.specs.WellFormed.{IsWellFormed}
use Rattle.bag_model.specs.Shapes.{Nodes}
use Rattle.bag_model.specs.Slots.{slots_of}
use Rattle.bag_model.specs.Values.{Value}
use Rattle.bag_walks.proofs.EachSlot.{each-at, each-count}
use Rattle.bag_scan.specs.Spans.{IsSpanAt, AreSpans}
use Rattle.bag_scan.specs.States.{IsFirstMarker, TellsState}
use Rattle.bag_scan.specs.declared.spans.Span.{Span}
use Rattle.bag_scan.specs.declared.states.State.{State}
use Rattle.bag_scan.specs.declared.states.State.TheVariants.{Exact, Partial}
use Rattle.bag_decode.specs.Slots.{IsSpanOfSlot, SaysAt}
use Rattle.report_text.specs.Blocks.{slot_line, is_exact, IsSlotLine, AddsSlotLines}

pub no_lines : (nodes : Nodes) (list : List Atom) (text : List ℕ) → AddsSlotLines nodes list 0 text text
no_lines nodes list text = ([], sym (append-nil text), refl)

-- One line more.
pub one_more : (nodes : Nodes) (list : List Atom) (slot : ℕ) (start before after line : List ℕ) → AddsSlotLines nodes list slot start before → after ≡ before ++ line → IsSlotLine nodes list slot line
    → AddsSlotLines nodes list (slot + 1) start after
one_more nodes list slot start before after line (lines, is, are) added last =
    subst (λ n. AddsSlotLines nodes list n start after) (let e : suc slot ≡ slot + 1 = omega arith in e)
    (lines ++ line, added ∙ ap (λ t. t ++ line) is ∙ append_assoc start lines line, (lines, line, refl, are, last))

-- The span with the number of a slot is that of the slot.
pub span_there : (nodes : Nodes) (list : List Atom) (spans : List Span) (slot : ℕ) (span : Span) → AreSpans list (slots_of nodes) [] spans → slice_get spans slot ≡ Some span → IsSpanOfSlot nodes list slot span
span_there nodes list spans slot span are is = λ at there.
    let (own, found, r) = each-at (IsSpanAt list) (slots_of nodes) [] spans slot at are there in
    subst (IsSpanAt list (field_path at.numbers) at.shape) (same own (sym found ∙ is)) r
  where
    same : (own : Span) → Some own ≡ Some span → own ≡ span
    same own e = cc

pub exact_is : (state : State) → IsTrue (is_exact state) ↔ (state ≡ Exact)
exact_is Exact = (λ t. refl, λ e. refl)
exact_is Partial = (λ t. cc, λ e. absurd (cc e))

-- A line with what is said of a slot, and with its state, shows it.
pub line_shown : (nodes : Nodes) (list : List Atom) (slot : ℕ) (marker : Option ℕ) (span : Span) (state : State) (value : Value) (says : SaysAt nodes list slot value) → IsWellFormed list → IsFirstMarker list marker
    → IsSpanOfSlot nodes list slot span → TellsState marker span state → IsSlotLine nodes list slot (slot_line says.0 state value)
line_shown nodes list slot marker span state value (at, there, says) w first its tells = record {
  state = state;
  value = value;
  shown = record {
    at = at;
    there = there;
    ended = (λ t. ended.0 ((exact_is state).0 t), λ e. (exact_is state).1 (ended.1 e));
    says = says;
  };
  text = refl;
}
  where
    ended : (state ≡ Exact) ↔ IsEnded list (field_path at.numbers)
    ended = tells list (field_path at.numbers) w first (its at there)

-- There is a span for each slot.
pub as_many : (nodes : Nodes) (list : List Atom) (spans : List Span) → AreSpans list (slots_of nodes) [] spans → length spans ≡ length (slots_of nodes)
as_many nodes list spans are = each-count (IsSpanAt list) (slots_of nodes) [] spans are

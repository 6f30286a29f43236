-- What the place of the first marker tells of a slot.
use Rattle.std.proofs.Common.{◌≡◌, ℕ, zero, suc, ◌+◌, ◌<◌, ◌≤◌, List, [], ◌∷◌, length, Option, Some, None, inl, inr, sym, refl, ap, ◌∙◌, arith}
use Rattle.std.specs.List.{slice_get}
use Rattle.std.proofs.lemmas.Bool.{cases_order}
use Rattle.context_model.specs.Atoms.{Atom}
use Rattle.context_model.specs.Orders.{Path}
use Rattle.context_model.specs.Paths.{atom_at}
use Rattle.context_model.proofs.Places.{marker_place}
use Rattle.bag_walks.specs.Searches.{IsFirstBeyond}
use Rattle.bag_walks.specs.Slots.{IsSpanOf}
use Rattle.bag_walks.proofs.Stops.{atom_there, ended_by_place, segment_is_first}
use Rattle.bag_scan.specs.States.{IsFirstMarker, TellsState}
use Rattle.bag_scan.specs.declared.spans.Span.{Span}
use Rattle.bag_scan.specs.declared.states.State.TheVariants.{Exact, Partial}

-- The paths beyond a slot begin where its span ends.
pub span_first : (list : List Atom) (s : Path) (from : Option ℕ) (stop : ℕ) → IsSpanOf list s from stop → IsFirstBeyond list s stop
span_first list s None stop is = is.1
span_first list s (Some from) stop is = segment_is_first list s from stop is.0 is.1

pub tells_unmarked : (span : Span) → TellsState None span Exact
tells_unmarked span = λ list s w first is. (λ e. inl first, λ ended. refl)

pub tells_exact : (place : ℕ) (span : Span) → span.stop < place → TellsState (Some place) span Exact
tells_exact place span less = λ list s w first is.
    (λ e. (ended_by_place list s span.stop place w (span_first list s span.from span.stop is) first.2 first.1 first.0).1 less, λ ended. refl)

pub tells_partial : (place : ℕ) (span : Span) → place ≤ span.stop → TellsState (Some place) span Partial
tells_partial place span least = λ list s w first is. (
  λ e. absurd (cc e),
  λ ended. absurd (let less = (ended_by_place list s span.stop place w (span_first list s span.from span.stop is) first.2 first.1 first.0).0 ended in omega (arith, less, least)),
)

-- There is no marker before a place, and none at it.
pub no_marker_more : (list : List Atom) (at : ℕ) → at < length list → (atom_at list at ≡ [] → ⊥) → ((k : ℕ) → k < at → slice_get list k ≡ Some [] → ⊥)
    → (k : ℕ) → k < at + 1 → slice_get list k ≡ Some [] → ⊥
no_marker_more list at within other none k less is = elim (cases_order k at) [
  | inl same ↦ other (let there : Some (atom_at list at) ≡ Some [] = sym (atom_there list at within) ∙ ap (slice_get list) (sym same) ∙ is in cc)
  | inr (inl before) ↦ none k before is
  | inr (inr after) ↦ absurd (omega arith)
]

-- Where none is before the end, there is none.
pub no_marker : (list : List Atom) (at : ℕ) → length list ≤ at → ((k : ℕ) → k < at → slice_get list k ≡ Some [] → ⊥) → IsFirstMarker list None
no_marker list at all none marker = let (i, is) = marker_place list marker in none i (omega (arith, within i list is)) is
  where
    within : (i : ℕ) (l : List Atom) → slice_get l i ≡ Some [] → i < length l
    within i [] e = cc
    within zero (a ∷ l) e = omega arith
    within (suc i) (a ∷ l) e = omega (arith, within i l e)

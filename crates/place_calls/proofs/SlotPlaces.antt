-- The place of one slot.
use Rattle.std.proofs.Common.{◌≡◌, ◌⊎◌, inl, inr, ◌↔◌, ℕ, zero, suc, ◌+◌, ◌≤◌, List, [], ◌∷◌, ◌++◌, length, Some, None, refl, append-nil, sym, ap, subst, arith}
use Rattle.std.specs.List.{slice_get}
use Rattle.context_model.specs.declared.Form.{Form}
use Rattle.context_model.specs.Atoms.{Atom}
use Rattle.context_model.specs.Ended.{IsEnded, field_path}
use Rattle.context_model.specs.Framing.{offset_of}
use Rattle.context_model.specs.Orders.{Path}
use Rattle.context_model.specs.Paths.{path_at}
use Rattle.context_model.proofs.PlacesOf.{path_there, place_of_path}
use Rattle.bag_model.specs.Readings.{PathsOf}
use Rattle.bag_model.specs.Shapes.{Shape, Nodes, Taint, Scalar, Set, Counter, Map, Bag, no_node, node}
use Rattle.bag_model.specs.Slots.{SlotAt, slots_in}
use Rattle.bag_model.specs.SlotValues.{HasSlot}
use Rattle.bag_model.specs.Tables.{levels, levels_under}
use Rattle.bag_model.specs.Typed.{IsTyped, Misspells}
use Rattle.bag_model.proofs.IllTyped.{Misspells-below, IsTyped-from}
use Rattle.bag_model.proofs.SlotNumbers.{IsInFirst, IsLater, first_or_later}
use Rattle.bag_walks.specs.Slots.{IsSpanOf}
use Rattle.bag_scan.specs.declared.states.State.{State}
use Rattle.bag_scan.specs.declared.states.State.TheVariants.{Exact, Partial}
use Rattle.bag_typed.specs.Walk.{HasNone}
use Rattle.place_calls.specs.declared.places.TheConstants.{ILL_TYPED}
use Rattle.place_calls.specs.Found.{IsFirstMisspelled, IsAbsentAt, IsPartAt}
use Rattle.place_calls.specs.Places.{place_state, SaysWhetherEnded, IsPlaceInBytes}

-- ---- the levels that a slot takes

alone_room : (own : Shape) (k : ℕ) (at : SlotAt) → slice_get (record { names = []; numbers = []; shape = own } ∷ []) k ≡ Some at → length at.numbers + levels_under at.shape ≤ levels_under own
alone_room own zero at e =
    let same : record { names = []; numbers = []; shape = own } ≡ at = cc e in
    subst (λ (s : SlotAt). length s.numbers + levels_under s.shape ≤ levels_under own) same (omega arith)
alone_room own (suc k) at e = absurd (cc e)

node_room : (name : List ℕ) (number : ℕ) (own : Shape) (nodes : Nodes) (k : ℕ) (at : SlotAt) → IsInFirst name number own k at ⊎ IsLater own nodes k at
    → ((inner : SlotAt) → slice_get (slots_in own) k ≡ Some inner → length inner.numbers + levels_under inner.shape ≤ levels_under own)
    → ((behind : ℕ) → HasSlot nodes behind at → length at.numbers + levels_under at.shape ≤ levels nodes)
    → length at.numbers + levels_under at.shape ≤ levels (node name number own nodes)
node_room name number own nodes k at (inl f) inside later =
    let bound = inside f.inner f.at in
    subst (λ (s : SlotAt). length s.numbers + levels_under s.shape ≤ levels (node name number own nodes)) f.is (omega (arith, bound))
node_room name number own nodes k at (inr l) inside later = let bound = later l.behind l.at in omega (arith, bound)

mutual
  -- A slot and what is below it take no more levels than the table.
  pub slot_room : (nodes : Nodes) (k : ℕ) (at : SlotAt) → HasSlot nodes k at → length at.numbers + levels_under at.shape ≤ levels nodes
  slot_room no_node k at e = absurd (cc e)
  slot_room (node name number own nodes) k at e =
      node_room name number own nodes k at (first_or_later name number own nodes k at e) (λ inner found. inner_room own k inner found) (λ behind found. slot_room nodes behind at found)

  inner_room : (own : Shape) (k : ℕ) (at : SlotAt) → slice_get (slots_in own) k ≡ Some at → length at.numbers + levels_under at.shape ≤ levels_under own
  inner_room (Bag nodes) k at e = slot_room nodes k at e
  inner_room Taint k at e = alone_room Taint k at e
  inner_room (Scalar pick kind) k at e = alone_room (Scalar pick kind) k at e
  inner_room (Set kind) k at e = alone_room (Set kind) k at e
  inner_room Counter k at e = alone_room Counter k at e
  inner_room (Map key value) k at e = alone_room (Map key value) k at e

-- ---- slots that are typed

-- A path that isn't empty has a last atom.
pub last_atom_of : (a : Atom) (s : Path) → (q : Path) × (h : Atom) × (a ∷ s ≡ q ++ h ∷ [])
last_atom_of a [] = ([], a, refl)
last_atom_of a (b ∷ s) = let (q, h, is) = last_atom_of b s in (a ∷ q, h, ap (λ p. a ∷ p) is)

clear_typed : (shape : Shape) (list : List Atom) (s : Path) → HasNone list (Misspells shape s) → IsTyped shape (PathsOf list) s
clear_typed shape list s clear = IsTyped-from shape (PathsOf list) s (λ p i m.
    let there = place_of_path list p i in
    clear.none there.place there.within (subst (Misspells shape s) (sym there.path) m))

pub says_ended : (list : List Atom) (at : SlotAt) (state : State) (number : ℕ) → number ≡ place_state state → (state ≡ Exact) ↔ IsEnded list (field_path at.numbers) → SaysWhetherEnded list at number
says_ended list at Exact number is tells = inl (is, tells.0 refl)
says_ended list at Partial number is tells = inr (is, λ ended. let clash : Partial ≡ Exact = tells.1 ended in cc clash)

-- ---- the three kinds of places

-- Where nothing is at a path or below it, nothing is misspelled there.
gap_clear : (list : List Atom) (q : Path) (stop : ℕ) (shape : Shape) → IsAbsentAt list q stop → HasNone list (Misspells shape q)
gap_clear list q stop shape gap = record {
  none = λ k within m.
      let (a, r, below) = Misspells-below shape q (path_at list k) m in
      gap.bare (a ∷ r) (subst (PathsOf list) below (path_there list k within));
}

pub gap_span : (list : List Atom) (q : Path) (stop : ℕ) → IsAbsentAt list q stop → IsSpanOf list q None stop
gap_span list q stop gap = ((λ i. gap.bare [] (subst (PathsOf list) (sym (append-nil q)) i)), gap.first)

module _ (form : Form) (list : List Atom) (at : SlotAt) where
  -- There is no header.
  pub gap_place : (stop offset number : ℕ) → IsAbsentAt list (field_path at.numbers) stop → offset ≡ offset_of form list stop → SaysWhetherEnded list at number
      → IsPlaceInBytes form list at (record { offset = offset; length = 0; state = number; zero = 0 })
  gap_place stop offset number gap is says = (
    refl,
    inr (record {
      typed = clear_typed at.shape list (field_path at.numbers) (gap_clear list (field_path at.numbers) stop at.shape gap);
      from = None;
      stop = stop;
      span = gap_span list (field_path at.numbers) stop gap;
      bytes = (is, refl);
      state = says;
    }),
  )

  -- There is one, and some atom is misspelled.
  pub ill_typed_place : (first offset : ℕ) → IsFirstMisspelled list (field_path at.numbers) at.shape (Some first) → offset ≡ offset_of form list first
      → IsPlaceInBytes form list at (record { offset = offset; length = 0; state = ILL_TYPED; zero = 0 })
  ill_typed_place first offset misspelled is = (refl, inl (record { first = first; misspelled = misspelled; offset = is; length = refl; state = refl }))

  -- None is.
  pub typed_place : (from stop start size number : ℕ) → IsPartAt list (field_path at.numbers) at.shape from stop None → start ≡ offset_of form list from → start + size ≡ offset_of form list stop → SaysWhetherEnded list at number
      → IsPlaceInBytes form list at (record { offset = start; length = size; state = number; zero = 0 })
  typed_place from stop start size number part starts ends says = (
    refl,
    inr (record {
      typed = clear_typed at.shape list (field_path at.numbers) part.first;
      from = Some from;
      stop = stop;
      span = part.span;
      bytes = (starts, ends);
      state = says;
    }),
  )

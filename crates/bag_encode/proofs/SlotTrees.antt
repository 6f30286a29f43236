-- The values that are bottom except at one slot: their trees are the headers on the way to the
-- slot, and the trees of its value under the last of them.
use Rattle.std.proofs.Common.{◌≡◌, ◌⊎◌, inl, inr, ℕ, zero, suc, ◌+◌, ◌-◌, ◌≤◌, Bool, true, false, cond, nat_lt, List, [], ◌∷◌, ◌++◌, length, Some, refl, ap, ◌∙◌, subst, add-one, ltb-true, ltb-false, arith}
use Rattle.std.specs.List.{slice_get}
use Rattle.std.proofs.lemmas.Option.{slice_get_within}
use Rattle.context_model.specs.Ended.{field_path_from}
use Rattle.context_model.specs.Kinds.{atom_of}
use Rattle.context_model.specs.Kinds.Kind.{Indexed}
use Rattle.bag_model.specs.Joins.{IsBottom}
use Rattle.bag_model.specs.Shapes.{Shape, Nodes, Taint, Scalar, Set, Counter, Map, Bag, no_node, node}
use Rattle.bag_model.specs.Slots.{SlotAt, slots_in, slots_of, slot_count}
use Rattle.bag_model.specs.SlotValues.{only_in, only}
use Rattle.bag_model.specs.Tables.{levels, levels_under}
use Rattle.bag_model.specs.Values.{Value, IsOfShape, value, bottom, bottoms}
use Rattle.bag_model.proofs.OfShape.{IsBottom-bottom, AreBottom-bottoms}
use Rattle.bag_model.proofs.SlotNumbers.{IsInFirst, IsLater, first_or_later}
use Rattle.bag_encode.specs.Values.{Trees, bare, atoms, header_over, trees_of, atoms_of, field_trees}
use Rattle.bag_encode.proofs.FieldSteps.{header_atoms}
use Rattle.bag_encode.proofs.LaidOut.{bottom_bare, bare_bottom, bottoms_bare}
use Rattle.bag_encode.proofs.TreeLaws.{over_bare}

-- The trees of a value under headers with these numbers, where there is something there. The
-- headers begin at this level.
abbrev pub slot_trees : ℕ → List ℕ → Shape → Value → Trees
slot_trees n [] shape v = trees_of shape n v
slot_trees n (number ∷ numbers) shape v = header_over (atom_of (Indexed n number)) (slot_trees (n + 1) numbers shape v) bare

-- ---- the trees of the values

own_trees : (shape : Shape) (n slot : ℕ) (at : SlotAt) (v : Value) → slice_get (record { names = []; numbers = []; shape = shape } ∷ []) slot ≡ Some at → trees_of shape n v ≡ slot_trees n at.numbers at.shape v
own_trees shape n zero at v e =
    let same : record { names = []; numbers = []; shape = shape } ≡ at = cc e in
    ap (λ (s : SlotAt). slot_trees n s.numbers s.shape v) same
own_trees shape n (suc slot) at v e = absurd (cc e)

-- A field that is bottom has no trees, and the fields after the slot's have none either.
skipped : (n number : ℕ) (shape : Shape) (behind : Trees) → header_over (atom_of (Indexed n number)) (trees_of shape (n + 1) (bottom shape)) behind ≡ behind
skipped n number shape behind = ap (λ (t : Trees). header_over (atom_of (Indexed n number)) t behind) (bottom_bare shape (n + 1) (bottom shape) (IsBottom-bottom shape))

module _ (n : ℕ) (name : List ℕ) (number : ℕ) (shape : Shape) (nodes : Nodes) (slot : ℕ) (at : SlotAt) (v : Value) where
  node_trees : (t : Bool) → nat_lt slot (slot_count shape) ≡ t → IsInFirst name number shape slot at ⊎ IsLater shape nodes slot at
      → ((inner : SlotAt) → slice_get (slots_in shape) slot ≡ Some inner → trees_of shape (n + 1) (only_in shape slot v) ≡ slot_trees (n + 1) inner.numbers inner.shape v)
      → (slice_get (slots_of nodes) (slot - slot_count shape) ≡ Some at → field_trees nodes n (only nodes (slot - slot_count shape) v) ≡ slot_trees n at.numbers at.shape v)
      → field_trees (node name number shape nodes) n (cond t (value (only_in shape slot v) (bottoms nodes)) (value (bottom shape) (only nodes (slot - slot_count shape) v)))
      ≡ slot_trees n at.numbers at.shape v
  node_trees true t (inl first) own rest =
      let under = own first.inner first.at in
      let behind = bottoms_bare nodes n (bottoms nodes) (AreBottom-bottoms nodes) in
      (λ i. header_over (atom_of (Indexed n number)) (under i) (behind i)) ∙ ap (λ (s : SlotAt). slot_trees n s.numbers s.shape v) first.is
  node_trees true t (inr later) own rest = absurd (omega (arith, ltb-true slot (slot_count shape) t, later.counted))
  node_trees false t (inl first) own rest = absurd (omega (arith, ltb-false slot (slot_count shape) t, slice_get_within (slots_in shape) slot first.inner first.at))
  node_trees false t (inr later) own rest =
      let same : later.behind ≡ slot - slot_count shape = omega (arith, later.counted) in
      skipped n number shape (field_trees nodes n (only nodes (slot - slot_count shape) v)) ∙ rest (subst (λ k. slice_get (slots_of nodes) k ≡ Some at) same later.at)

mutual
  pub only_trees_in : (shape : Shape) (n slot : ℕ) (at : SlotAt) (v : Value) → slice_get (slots_in shape) slot ≡ Some at → trees_of shape n (only_in shape slot v) ≡ slot_trees n at.numbers at.shape v
  only_trees_in Taint n slot at v e = own_trees Taint n slot at v e
  only_trees_in (Scalar pick kind) n slot at v e = own_trees (Scalar pick kind) n slot at v e
  only_trees_in (Set kind) n slot at v e = own_trees (Set kind) n slot at v e
  only_trees_in Counter n slot at v e = own_trees Counter n slot at v e
  only_trees_in (Map kind shape) n slot at v e = own_trees (Map kind shape) n slot at v e
  only_trees_in (Bag nodes) n slot at v e = only_trees nodes n slot at v e

  pub only_trees : (nodes : Nodes) (n slot : ℕ) (at : SlotAt) (v : Value) → slice_get (slots_of nodes) slot ≡ Some at → field_trees nodes n (only nodes slot v) ≡ slot_trees n at.numbers at.shape v
  only_trees no_node n slot at v e = absurd (cc e)
  only_trees (node name number shape nodes) n slot at v e =
      node_trees n name number shape nodes slot at v (nat_lt slot (slot_count shape)) refl (first_or_later name number shape nodes slot at e)
      (λ inner there. only_trees_in shape (n + 1) slot inner v there) (λ there. only_trees nodes n (slot - slot_count shape) at v there)

-- ---- their atoms

-- A value that is bottom has none, and no headers;
pub slot_bare : (n : ℕ) (numbers : List ℕ) (shape : Shape) (v : Value) → IsBottom v → slot_trees n numbers shape v ≡ bare
slot_bare n [] shape v b = bottom_bare shape n v b
slot_bare n (number ∷ numbers) shape v b = ap (λ (t : Trees). header_over (atom_of (Indexed n number)) t bare) (slot_bare (n + 1) numbers shape v b)

bare_slot : (n : ℕ) (numbers : List ℕ) (shape : Shape) (v : Value) → IsOfShape shape v → slot_trees n numbers shape v ≡ bare → IsBottom v
bare_slot n [] shape v o e = bare_bottom shape n v o e
bare_slot n (number ∷ numbers) shape v o e = bare_slot (n + 1) numbers shape v o (over_bare (atom_of (Indexed n number)) (slot_trees (n + 1) numbers shape v) bare e).0

-- any other has the headers, and then its own.
pub said_slot : (n m : ℕ) (numbers : List ℕ) (shape : Shape) (v : Value) → n + length numbers ≡ m → IsOfShape shape v → ¬ (IsBottom v)
    → atoms (slot_trees n numbers shape v) ≡ field_path_from n numbers ++ atoms_of shape m v
said_slot n m [] shape v l o some = let same : n ≡ m = omega (arith, l) in ap (λ k. atoms_of shape k v) same
said_slot n m (number ∷ numbers) shape v l o some =
    header_atoms (atom_of (Indexed n number)) (slot_trees (n + 1) numbers shape v) (λ e. some (bare_slot (n + 1) numbers shape v o e))
    ∙ ap (λ rest. atom_of (Indexed n number) ∷ rest) (said_slot (n + 1) m numbers shape v (omega (arith, l)) o some ∙ ap (λ k. field_path_from k numbers ++ atoms_of shape m v) (add-one n))

-- ---- their levels

own_levels : (shape : Shape) (slot : ℕ) (at : SlotAt) → slice_get (record { names = []; numbers = []; shape = shape } ∷ []) slot ≡ Some at → length at.numbers + levels_under at.shape ≤ levels_under shape
own_levels shape zero at e =
    let same : record { names = []; numbers = []; shape = shape } ≡ at = cc e in
    subst (λ (s : SlotAt). length s.numbers + levels_under s.shape ≤ levels_under shape) same (omega arith)
own_levels shape (suc slot) at e = absurd (cc e)

node_levels : (name : List ℕ) (number : ℕ) (shape : Shape) (nodes : Nodes) (slot : ℕ) (at : SlotAt) → IsInFirst name number shape slot at ⊎ IsLater shape nodes slot at
    → ((inner : SlotAt) → slice_get (slots_in shape) slot ≡ Some inner → length inner.numbers + levels_under inner.shape ≤ levels_under shape)
    → ((behind : ℕ) → slice_get (slots_of nodes) behind ≡ Some at → length at.numbers + levels_under at.shape ≤ levels nodes)
    → length at.numbers + levels_under at.shape ≤ levels (node name number shape nodes)
node_levels name number shape nodes slot at (inl first) own rest =
    let few = own first.inner first.at in
    subst (λ (s : SlotAt). length s.numbers + levels_under s.shape ≤ levels (node name number shape nodes)) first.is (omega (arith, few))
node_levels name number shape nodes slot at (inr later) own rest = omega (arith, rest later.behind later.at)

mutual
  levels_in : (shape : Shape) (slot : ℕ) (at : SlotAt) → slice_get (slots_in shape) slot ≡ Some at → length at.numbers + levels_under at.shape ≤ levels_under shape
  levels_in Taint slot at e = own_levels Taint slot at e
  levels_in (Scalar pick kind) slot at e = own_levels (Scalar pick kind) slot at e
  levels_in (Set kind) slot at e = own_levels (Set kind) slot at e
  levels_in Counter slot at e = own_levels Counter slot at e
  levels_in (Map kind shape) slot at e = own_levels (Map kind shape) slot at e
  levels_in (Bag nodes) slot at e = levels_of nodes slot at e

  -- The headers on the way to a slot and those under it take no more levels than there are.
  pub levels_of : (nodes : Nodes) (slot : ℕ) (at : SlotAt) → slice_get (slots_of nodes) slot ≡ Some at → length at.numbers + levels_under at.shape ≤ levels nodes
  levels_of no_node slot at e = absurd (cc e)
  levels_of (node name number shape nodes) slot at e =
      node_levels name number shape nodes slot at (first_or_later name number shape nodes slot at e) (λ inner there. levels_in shape slot inner there) (λ behind there. levels_of nodes behind at there)

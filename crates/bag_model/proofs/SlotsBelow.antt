-- The slots of a table: their paths and levels.
use Rattle.std.proofs.Common.{◌≡◌, ◌⊎◌, inl, inr, ℕ, zero, suc, ◌+◌, ◌≤◌, max, List, [], ◌∷◌, ◌++◌, length, map, Some, refl, sym, ap, ◌∙◌, subst, append_assoc, append-nil, length-append, arith}
use Rattle.std.specs.List.{slice_get}
use Rattle.context_model.specs.Kinds.{atom_of}
use Rattle.context_model.specs.Kinds.Kind.{Indexed}
use Rattle.context_model.specs.Orders.{Path, IsIn}
use Rattle.context_model.specs.Ended.{AreHeaders, field_path_from, field_path}
use Rattle.context_model.proofs.FieldPaths.{field_path-headers}
use Rattle.bag_model.specs.Shapes.{Shape, Nodes, Taint, Scalar, Set, Counter, Map, Bag, no_node, node}
use Rattle.bag_model.specs.Tables.{levels, levels_under}
use Rattle.bag_model.specs.Slots.{SlotAt, slots_in, slots_of, within}
use Rattle.bag_model.specs.Readings.{node_path}
use Rattle.bag_model.proofs.Finite.{in_append}

-- ---- lists

module _ {A B : Type 0} (f : A → B) where
  -- An element of a list that was mapped.
  pub in_map : (xs : List A) (y : B) → IsIn y (map f xs) → (x : A) × IsIn x xs × (y ≡ f x)
  in_map [] y none = elim none [ ]
  in_map (x ∷ xs) y (inl e) = (x, inl refl, e)
  in_map (x ∷ xs) y (inr i) = let s = in_map xs y i in (s.0, inr s.1, s.2)

pub get_in : {A : Type 0} (xs : List A) (i : ℕ) (x : A) → slice_get xs i ≡ Some x → IsIn x xs
get_in [] i x e = absurd (cc e)
get_in (y ∷ xs) zero x e = let same : y ≡ x = cc in inl (sym same)
get_in (y ∷ xs) (suc i) x e = inr (get_in xs i x e)

-- ---- the path of a slot that is in a bag with the path q

abbrev pub slot_path : Path → SlotAt → Path
slot_path q slot = q ++ field_path_from (length q) slot.numbers

-- Seen from the bag around it, it is the same.
pub slot_path-within : (q : Path) (name : List ℕ) (number : ℕ) (slot : SlotAt) → slot_path q (within name number slot) ≡ slot_path (node_path q number) slot
slot_path-within q name number slot =
    sym (append_assoc q (atom_of (Indexed (length q) number) ∷ []) (field_path_from (suc (length q)) slot.numbers))
    ∙ ap (λ n. node_path q number ++ field_path_from n slot.numbers) (long)
  where
    long : suc (length q) ≡ length (node_path q number)
    long = let e = length-append q (atom_of (Indexed (length q) number) ∷ []) in omega arith

pub slot_path-own : (q : Path) (shape : Shape) → slot_path q (record { names = []; numbers = []; shape = shape }) ≡ q
slot_path-own q shape = append-nil q

-- ---- levels

mutual
  -- The numbers of a slot are no more than the levels of its table.
  pub slot_levels : (shape : Shape) (slot : SlotAt) → IsIn slot (slots_in shape) → length slot.numbers ≤ levels_under shape
  slot_levels Taint slot (inl e) = let f : slot.numbers ≡ [] = ap (λ (x : SlotAt). x.numbers) e in subst (λ l. length l ≤ 0) (sym f) (omega arith)
  slot_levels Taint slot (inr none) = elim none [ ]
  slot_levels (Scalar pick kind) slot (inl e) = let f : slot.numbers ≡ [] = ap (λ (x : SlotAt). x.numbers) e in subst (λ l. length l ≤ 0) (sym f) (omega arith)
  slot_levels (Scalar pick kind) slot (inr none) = elim none [ ]
  slot_levels (Set kind) slot (inl e) = let f : slot.numbers ≡ [] = ap (λ (x : SlotAt). x.numbers) e in subst (λ l. length l ≤ 0) (sym f) (omega arith)
  slot_levels (Set kind) slot (inr none) = elim none [ ]
  slot_levels Counter slot (inl e) = let f : slot.numbers ≡ [] = ap (λ (x : SlotAt). x.numbers) e in subst (λ l. length l ≤ 1) (sym f) (omega arith)
  slot_levels Counter slot (inr none) = elim none [ ]
  slot_levels (Map key value) slot (inl e) = let f : slot.numbers ≡ [] = ap (λ (x : SlotAt). x.numbers) e in subst (λ l. length l ≤ 1 + levels_under value) (sym f) (omega arith)
  slot_levels (Map key value) slot (inr none) = elim none [ ]
  slot_levels (Bag nodes) slot i = slots_levels nodes slot i

  pub slots_levels : (nodes : Nodes) (slot : SlotAt) → IsIn slot (slots_of nodes) → length slot.numbers ≤ levels nodes
  slots_levels no_node slot none = elim none [ ]
  slots_levels (node name number shape nodes) slot i =
      by (in_append slot (map (within name number) (slots_in shape)) (slots_of nodes) i) (λ inner j. slot_levels shape inner j) (λ j. slots_levels nodes slot j)
    where
      by : IsIn slot (map (within name number) (slots_in shape)) ⊎ IsIn slot (slots_of nodes) → ((inner : SlotAt) → IsIn inner (slots_in shape) → length inner.numbers ≤ levels_under shape)
          → (IsIn slot (slots_of nodes) → length slot.numbers ≤ levels nodes) → length slot.numbers ≤ max (1 + levels_under shape) (levels nodes)
      by (inl j) own rest =
          let s = in_map (within name number) (slots_in shape) slot j in
          let numbers : slot.numbers ≡ number ∷ s.0.numbers = ap (λ (x : SlotAt). x.numbers) s.2 in
          let more : length s.0.numbers ≤ levels_under shape = own s.0 s.1 in
          subst (λ l. length l ≤ max (1 + levels_under shape) (levels nodes)) (sym numbers) (omega arith)
      by (inr j) own rest = let more : length slot.numbers ≤ levels nodes = rest j in omega arith

-- The path of a slot consists of headers.
pub slot_headers : (nodes : Nodes) (slot : SlotAt) → levels nodes ≤ 16 → IsIn slot (slots_of nodes) → AreHeaders (field_path slot.numbers)
slot_headers nodes slot l i = field_path-headers 0 slot.numbers (let m : length slot.numbers ≤ levels nodes = slots_levels nodes slot i in omega arith)

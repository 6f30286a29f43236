-- What holds of all fields of a bag holds of each slot, and back.
use Rattle.std.proofs.Common.{◌⊎◌, inl, inr, ℕ, List, [], ◌∷◌, map, refl, sym, ap, subst}
use Rattle.context_model.specs.Orders.{Path, IsIn}
use Rattle.bag_model.specs.Shapes.{Shape, Nodes, Taint, Scalar, Set, Counter, Map, Bag, no_node, node}
use Rattle.bag_model.specs.Slots.{SlotAt, slots_in, slots_of, within}
use Rattle.bag_model.specs.Readings.{node_path}
use Rattle.bag_model.specs.Typed.{IsTyped, AreTyped}
use Rattle.bag_model.proofs.Finite.{in_append, in_append_first, in_append_second}
use Rattle.bag_model.proofs.SlotsBelow.{in_map, slot_path, slot_path-within, slot_path-own}
use Rattle.bag_model.proofs.Covering.{Covers, AreCovered}

-- An element that was mapped is one of the list that was mapped.
pub map_in : {A B : Type 0} (f : A → B) (xs : List A) (x : A) → IsIn x xs → IsIn (f x) (map f xs)
map_in f [] x none = elim none [ ]
map_in f (y ∷ xs) x (inl e) = inl (ap f e)
map_in f (y ∷ xs) x (inr i) = inr (map_in f xs x i)

-- Something that holds of fields by their shapes and paths, and of the fields of a bag one by one.
pub record ByFields (H : Shape → Path → Type 0) (E : Nodes → Path → Type 0) : Type 0 where
  pub inside : (nodes : Nodes) (q : Path) → H (Bag nodes) q → E nodes q
  pub first : (name : List ℕ) (number : ℕ) (shape : Shape) (nodes : Nodes) (q : Path) → E (node name number shape nodes) q → H shape (node_path q number)
  pub later : (name : List ℕ) (number : ℕ) (shape : Shape) (nodes : Nodes) (q : Path) → E (node name number shape nodes) q → E nodes q
  pub none : (q : Path) → E no_node q
  pub both : (name : List ℕ) (number : ℕ) (shape : Shape) (nodes : Nodes) (q : Path) → H shape (node_path q number) → E nodes q → E (node name number shape nodes) q
  pub around : (nodes : Nodes) (q : Path) → E nodes q → H (Bag nodes) q

abbrev own_slot : Shape → SlotAt
own_slot shape = record { names = []; numbers = []; shape = shape }

module _ (H : Shape → Path → Type 0) (E : Nodes → Path → Type 0) (by_fields : ByFields H E) where
  own_there : (shape : Shape) (q : Path) (slot : SlotAt) → IsIn slot (own_slot shape ∷ []) → H shape q → H slot.shape (slot_path q slot)
  own_there shape q slot (inl e) h = subst (λ (s : SlotAt). H s.shape (slot_path q s)) (sym e) (subst (H shape) (sym (slot_path-own q shape)) h)
  own_there shape q slot (inr none) h = elim none [ ]

  mutual
    pub in_slot : (shape : Shape) (q : Path) (slot : SlotAt) → IsIn slot (slots_in shape) → H shape q → H slot.shape (slot_path q slot)
    in_slot Taint q slot i h = own_there Taint q slot i h
    in_slot (Scalar pick kind) q slot i h = own_there (Scalar pick kind) q slot i h
    in_slot (Set kind) q slot i h = own_there (Set kind) q slot i h
    in_slot Counter q slot i h = own_there Counter q slot i h
    in_slot (Map kind shape) q slot i h = own_there (Map kind shape) q slot i h
    in_slot (Bag nodes) q slot i h = at_slot nodes q slot i (by_fields.inside nodes q h)

    pub at_slot : (nodes : Nodes) (q : Path) (slot : SlotAt) → IsIn slot (slots_of nodes) → E nodes q → H slot.shape (slot_path q slot)
    at_slot no_node q slot i e = elim i [ ]
    at_slot (node name number shape nodes) q slot i e =
        by (in_append slot (map (within name number) (slots_in shape)) (slots_of nodes) i)
        (λ inner j. in_slot shape (node_path q number) inner j (by_fields.first name number shape nodes q e)) (λ j. at_slot nodes q slot j (by_fields.later name number shape nodes q e))
      where
        by : IsIn slot (map (within name number) (slots_in shape)) ⊎ IsIn slot (slots_of nodes)
            → ((inner : SlotAt) → IsIn inner (slots_in shape) → H inner.shape (slot_path (node_path q number) inner))
            → (IsIn slot (slots_of nodes) → H slot.shape (slot_path q slot)) → H slot.shape (slot_path q slot)
        by (inl j) own rest =
            let s = in_map (within name number) (slots_in shape) slot j in
            subst (λ (x : SlotAt). H x.shape (slot_path q x)) (sym s.2) (subst (H s.0.shape) (sym (slot_path-within q name number s.0)) (own s.0 s.1))
        by (inr j) own rest = rest j

  own_back : (shape : Shape) (q : Path) → ((slot : SlotAt) → IsIn slot (own_slot shape ∷ []) → H slot.shape (slot_path q slot)) → H shape q
  own_back shape q f = subst (H shape) (slot_path-own q shape) (f (own_slot shape) (inl refl))

  mutual
    pub from_slots_in : (shape : Shape) (q : Path) → ((slot : SlotAt) → IsIn slot (slots_in shape) → H slot.shape (slot_path q slot)) → H shape q
    from_slots_in Taint q f = own_back Taint q f
    from_slots_in (Scalar pick kind) q f = own_back (Scalar pick kind) q f
    from_slots_in (Set kind) q f = own_back (Set kind) q f
    from_slots_in Counter q f = own_back Counter q f
    from_slots_in (Map kind shape) q f = own_back (Map kind shape) q f
    from_slots_in (Bag nodes) q f = by_fields.around nodes q (from_slots nodes q f)

    pub from_slots : (nodes : Nodes) (q : Path) → ((slot : SlotAt) → IsIn slot (slots_of nodes) → H slot.shape (slot_path q slot)) → E nodes q
    from_slots no_node q f = by_fields.none q
    from_slots (node name number shape nodes) q f =
        by_fields.both name number shape nodes q
        (from_slots_in shape (node_path q number) (λ slot i. subst (H slot.shape) (slot_path-within q name number slot)
        (f (within name number slot) (in_append_first (within name number slot) (map (within name number) (slots_in shape)) (slots_of nodes) (map_in (within name number) (slots_in shape) slot i)))))
        (from_slots nodes q (λ slot i. f slot (in_append_second slot (map (within name number) (slots_in shape)) (slots_of nodes) i)))

-- ---- covering, and typed

covers_by_fields : (P Q : Path → Type 0) → ByFields (λ shape q. Covers shape P Q q) (λ nodes q. AreCovered nodes P Q q)
covers_by_fields P Q = record {
  inside = λ nodes q h. h;
  first = λ name number shape nodes q h. h.0;
  later = λ name number shape nodes q h. h.1;
  none = λ q. tt;
  both = λ name number shape nodes q h e. (h, e);
  around = λ nodes q e. e;
}

pub typed_by_fields : (P : Path → Type 0) → ByFields (λ shape q. IsTyped shape P q) (λ nodes q. AreTyped nodes P q)
typed_by_fields P = record {
  inside = λ nodes q h. h;
  first = λ name number shape nodes q h. h.0;
  later = λ name number shape nodes q h. h.1;
  none = λ q. tt;
  both = λ name number shape nodes q h e. (h, e);
  around = λ nodes q e. e;
}

-- Sets that cover each other for all fields cover each other for each slot.
pub slot_covered : (nodes : Nodes) (P Q : Path → Type 0) (q : Path) (slot : SlotAt) → IsIn slot (slots_of nodes) → AreCovered nodes P Q q → Covers slot.shape P Q (slot_path q slot)
slot_covered nodes P Q q slot i c = at_slot (λ shape q. Covers shape P Q q) (λ nodes q. AreCovered nodes P Q q) (covers_by_fields P Q) nodes q slot i c

pub slots_covered : (nodes : Nodes) (P Q : Path → Type 0) (q : Path) → ((slot : SlotAt) → IsIn slot (slots_of nodes) → Covers slot.shape P Q (slot_path q slot)) → AreCovered nodes P Q q
slots_covered nodes P Q q f = from_slots (λ shape q. Covers shape P Q q) (λ nodes q. AreCovered nodes P Q q) (covers_by_fields P Q) nodes q f

-- Typed for all fields is typed for each slot.
pub slot_typed : (nodes : Nodes) (P : Path → Type 0) (q : Path) (slot : SlotAt) → IsIn slot (slots_of nodes) → AreTyped nodes P q → IsTyped slot.shape P (slot_path q slot)
slot_typed nodes P q slot i t = at_slot (λ shape q. IsTyped shape P q) (λ nodes q. AreTyped nodes P q) (typed_by_fields P) nodes q slot i t

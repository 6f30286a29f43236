-- The slots of a table are in the order of their paths.
use Rattle.std.proofs.Common.{◌≡◌, ◌⊎◌, inl, inr, ℕ, zero, suc, ◌<◌, List, [], ◌∷◌, map, Some, Less, sym, refl, ap, ◌∙◌, subst, arith}
use Rattle.std.specs.List.{slice_get}
use Rattle.std.specs.Ordering.{ordering_then}
use Rattle.std.proofs.lemmas.Cmp.{tied_itself}
use Rattle.std.proofs.lemmas.Option.{slice_get_within}
use Rattle.context_model.specs.Kinds.{atom_of}
use Rattle.context_model.specs.Kinds.Kind.{Indexed}
use Rattle.context_model.specs.Orders.{path_cmp, IsIn}
use Rattle.context_model.specs.Ended.{field_path_from}
use Rattle.context_model.proofs.OrderLaws.{atoms_total}
use Rattle.bag_model.specs.Shapes.{Shape, Nodes, Field, fields, Taint, Scalar, Set, Counter, Map, Bag, no_node, node}
use Rattle.bag_model.specs.Slots.{SlotAt, slots_in, slots_of, slot_count, within}
use Rattle.bag_model.specs.Tables.{IsShape, AreFields}
use Rattle.bag_model.proofs.Finite.{in_append}
use Rattle.bag_model.proofs.SlotsBelow.{in_map, get_in}
use Rattle.bag_model.proofs.SlotNumbers.{IsInFirst, IsLater, first_or_later}
use Rattle.bag_model.proofs.LayoutLaws.{field_wide, field_later}
use Rattle.bag_walks.proofs.Turns.{index_order}

-- The numbers of a slot begin with that of a field.
begins : (nodes : Nodes) (slot : SlotAt) → IsIn slot (slots_of nodes) → (f : Field) × IsIn f (fields nodes) × (rest : List ℕ) × (slot.numbers ≡ f.number ∷ rest)
begins no_node slot none = elim none [ ]
begins (node name number shape nodes) slot i = by (in_append slot (map (within name number) (slots_in shape)) (slots_of nodes) i) (λ j. begins nodes slot j)
  where
    by : IsIn slot (map (within name number) (slots_in shape)) ⊎ IsIn slot (slots_of nodes)
        → (IsIn slot (slots_of nodes) → (f : Field) × IsIn f (fields nodes) × (rest : List ℕ) × (slot.numbers ≡ f.number ∷ rest))
        → (f : Field) × IsIn f (fields (node name number shape nodes)) × (rest : List ℕ) × (slot.numbers ≡ f.number ∷ rest)
    by (inl j) rest =
        let s = in_map (within name number) (slots_in shape) slot j in
        (record { name = name; number = number; shape = shape }, inl refl, s.0.numbers, ap (λ (x : SlotAt). x.numbers) s.2)
    by (inr j) rest = let s = rest j in (s.0, inr s.1, s.2, s.3)

-- the path of one comes first, from a level on
abbrev ComesFirst : ℕ → SlotAt → SlotAt → Type 0
ComesFirst n a b = path_cmp (field_path_from n a.numbers) (field_path_from n b.numbers) ≡ Less

no_two : (own : SlotAt) (i j : ℕ) (b : SlotAt) → i < j → slice_get (own ∷ []) j ≡ Some b → ⊥
no_two own i zero b l e = omega (arith, l)
no_two own i (suc j) b l e = cc

mutual
  rise_in : (shape : Shape) (n i j : ℕ) (a b : SlotAt) → IsShape shape → slice_get (slots_in shape) i ≡ Some a → slice_get (slots_in shape) j ≡ Some b → i < j → ComesFirst n a b
  rise_in Taint n i j a b w e f l = absurd (no_two _ i j b l f)
  rise_in (Scalar pick kind) n i j a b w e f l = absurd (no_two _ i j b l f)
  rise_in (Set kind) n i j a b w e f l = absurd (no_two _ i j b l f)
  rise_in Counter n i j a b w e f l = absurd (no_two _ i j b l f)
  rise_in (Map kind shape) n i j a b w e f l = absurd (no_two _ i j b l f)
  rise_in (Bag nodes) n i j a b w e f l = rise_from nodes n i j a b w e f l

  rise_from : (nodes : Nodes) (n i j : ℕ) (a b : SlotAt) → AreFields nodes → slice_get (slots_of nodes) i ≡ Some a → slice_get (slots_of nodes) j ≡ Some b → i < j → ComesFirst n a b
  rise_from no_node n i j a b w e f l = absurd (cc e)
  rise_from (node name number shape nodes) n i j a b w e f l =
      by (first_or_later name number shape nodes i a e) (first_or_later name number shape nodes j b f)
      (λ x y g h. rise_in shape (suc n) i j x y w.2 g h l) (λ k m g h less. rise_from nodes n k m a b w.4 g h less)
    where
      by : IsInFirst name number shape i a ⊎ IsLater shape nodes i a → IsInFirst name number shape j b ⊎ IsLater shape nodes j b
          → ((x y : SlotAt) → slice_get (slots_in shape) i ≡ Some x → slice_get (slots_in shape) j ≡ Some y → ComesFirst (suc n) x y)
          → ((k m : ℕ) → slice_get (slots_of nodes) k ≡ Some a → slice_get (slots_of nodes) m ≡ Some b → k < m → ComesFirst n a b) → ComesFirst n a b
      by (inl g) (inl h) own rest =
          subst (λ (x : SlotAt). ComesFirst n x b) g.is
          (subst (λ (y : SlotAt). ComesFirst n (within name number g.inner) y) h.is
          (ap (λ r. ordering_then r (path_cmp (field_path_from (suc n) g.inner.numbers) (field_path_from (suc n) h.inner.numbers))) (tied_itself atoms_total (atom_of (Indexed n number)))
          ∙ own g.inner h.inner g.at h.at))
      by (inl g) (inr h) own rest =
          let s = begins nodes b (get_in (slots_of nodes) h.behind b h.at) in
          subst (λ (x : SlotAt). ComesFirst n x b) g.is
          (subst (λ (m : List ℕ). path_cmp (field_path_from n (number ∷ g.inner.numbers)) (field_path_from n m) ≡ Less) (sym s.3)
          (ap (λ r. ordering_then r (path_cmp (field_path_from (suc n) g.inner.numbers) (field_path_from (suc n) s.2)))
          (index_order n number s.0.number (field_later name number shape nodes s.0 w s.1) (field_wide nodes s.0 w.4 s.1))))
      by (inr g) (inl h) own rest = let less : j < slot_count shape = slice_get_within (slots_in shape) j h.inner h.at in absurd (omega (arith, g.counted, less, l))
      by (inr g) (inr h) own rest = rest g.behind h.behind g.at h.at (omega (arith, g.counted, h.counted, l))

-- Of two slots of a table the later one has the later path.
pub slots_rise : (nodes : Nodes) (i j : ℕ) (a b : SlotAt) → AreFields nodes → slice_get (slots_of nodes) i ≡ Some a → slice_get (slots_of nodes) j ≡ Some b → i < j
    → path_cmp (field_path_from 0 a.numbers) (field_path_from 0 b.numbers) ≡ Less
slots_rise nodes i j a b w e f l = rise_from nodes 0 i j a b w e f l

-- The values that are bottom except at one slot fit the limit of bytes where the slot's own value
-- does.
use Rattle.std.proofs.Common.{◌≡◌, ◌⊎◌, inl, inr, ℕ, zero, suc, ◌-◌, ◌^◌, ◌≤◌, Bool, true, false, cond, nat_lt, List, [], ◌∷◌, ◌++◌, length, Some, refl, sym, ap, subst, ltb-true, ltb-false, arith}
use Rattle.std.specs.Prelude.{nat_le}
use Rattle.std.specs.List.{slice_get}
use Rattle.std.proofs.lemmas.List.Sums.{count_by-le-length}
use Rattle.std.proofs.lemmas.Option.{slice_get_within}
use Rattle.context_model.specs.declared.TheConstants.{ATOM_MAX}
use Rattle.context_model.specs.Atoms.{Atom}
use Rattle.context_model.specs.Kinds.{atom_of}
use Rattle.context_model.specs.Kinds.Kind.{Indexed}
use Rattle.context_model.specs.Merged.{last_atom}
use Rattle.context_model.specs.Orders.{Path}
use Rattle.context_model.specs.Varints.{big_endian, unsigned_form, unsigned_tail, unsigned_varint}
use Rattle.context_model.proofs.Digits.{length-big_endian}
use Rattle.bag_model.specs.Encodings.{InLayout, InLayouts, FitsAtoms}
use Rattle.bag_model.specs.Readings.{node_path}
use Rattle.bag_model.specs.Shapes.{Shape, Nodes, Taint, Scalar, Set, Counter, Map, Bag, no_node, node}
use Rattle.bag_model.specs.Slots.{SlotAt, slots_in, slot_count}
use Rattle.bag_model.specs.SlotValues.{HasSlot, only_in, only}
use Rattle.bag_model.specs.Values.{Value, value, bottom, bottoms}
use Rattle.bag_model.proofs.LayoutLaws.{InLayouts-bottom}
use Rattle.bag_model.proofs.OfShape.{IsBottom-bottom, AreBottom-bottoms}
use Rattle.bag_model.proofs.SlotNumbers.{IsInFirst, IsLater, first_or_later}
use Rattle.bag_walks.specs.SlotFits.{FitsAnywhere}

-- The path ends with an atom that fits.
abbrev Fits : Path → Type 0
Fits p = length (last_atom p) ≤ ATOM_MAX

-- ---- headers

pub last_is : (q : Path) (a : Atom) → last_atom (q ++ a ∷ []) ≡ a
last_is [] a = refl
last_is (x ∷ []) a = refl
last_is (x ∷ y ∷ q) a = last_is (y ∷ q) a

header_short : (level number : ℕ) → length (atom_of (Indexed level number)) ≤ ATOM_MAX
unfolding unsigned_varint unsigned_form unsigned_tail
header_short level number =
    let limits : List ℕ = 2 ^ 7 ∷ 2 ^ 14 ∷ 2 ^ 21 ∷ 2 ^ 28 ∷ 2 ^ 35 ∷ 2 ^ 42 ∷ 2 ^ 49 ∷ 2 ^ 56 ∷ [] in
    let tail : unsigned_tail number ≤ 8 = count_by-le-length (λ limit. nat_le limit number) limits in
    let rest : length (big_endian (unsigned_tail number) number) ≡ unsigned_tail number = length-big_endian (unsigned_tail number) number in
    omega (arith, tail, rest)

header_fits : (q p : Path) (number : ℕ) → p ≡ node_path q number → Fits p
header_fits q p number e =
    subst Fits (sym e) (subst (λ (a : Atom). length a ≤ ATOM_MAX) (sym (last_is q (atom_of (Indexed (length q) number)))) (header_short (length q) number))

-- ---- the way to the slot

own_fits : (shape : Shape) (slot : ℕ) (at : SlotAt) (v : Value) (q p : Path) → slice_get (record { names = []; numbers = []; shape = shape } ∷ []) slot ≡ Some at
    → FitsAnywhere at.shape v → InLayout shape q v p → Fits p
own_fits shape zero at v q p e short laid =
    let same : record { names = []; numbers = []; shape = shape } ≡ at = cc e in
    subst (λ (s : SlotAt). FitsAnywhere s.shape v) (sym same) short q p laid
own_fits shape (suc slot) at v q p e short laid = absurd (cc e)

module _ (name : List ℕ) (number : ℕ) (shape : Shape) (nodes : Nodes) (slot : ℕ) (at : SlotAt) (v : Value) (q p : Path) where
  node_fits : (t : Bool) → nat_lt slot (slot_count shape) ≡ t → IsInFirst name number shape slot at ⊎ IsLater shape nodes slot at
      → ((inner : SlotAt) → slice_get (slots_in shape) slot ≡ Some inner → inner.shape ≡ at.shape → InLayout shape (node_path q number) (only_in shape slot v) p → Fits p)
      → (HasSlot nodes (slot - slot_count shape) at → InLayouts nodes q (only nodes (slot - slot_count shape) v) p → Fits p)
      → InLayouts (node name number shape nodes) q (cond t (value (only_in shape slot v) (bottoms nodes)) (value (bottom shape) (only nodes (slot - slot_count shape) v))) p
      → Fits p
  node_fits true t (inl first) own rest (inl laid) =
      elim laid.1 [ inl e ↦ header_fits q p number e | inr d ↦ own first.inner first.at (ap (λ (s : SlotAt). s.shape) first.is) d ]
  node_fits true t (inl first) own rest (inr laid) = absurd (InLayouts-bottom nodes q (bottoms nodes) p (AreBottom-bottoms nodes) laid)
  node_fits true t (inr later) own rest laid = absurd (omega (arith, ltb-true slot (slot_count shape) t, later.counted))
  node_fits false t (inl first) own rest laid = absurd (omega (arith, ltb-false slot (slot_count shape) t, slice_get_within (slots_in shape) slot first.inner first.at))
  node_fits false t (inr later) own rest (inl laid) = absurd (laid.0 (IsBottom-bottom shape))
  node_fits false t (inr later) own rest (inr laid) =
      let same : later.behind ≡ slot - slot_count shape = omega (arith, later.counted) in
      rest (subst (λ k. HasSlot nodes k at) same later.at) laid

mutual
  fits_in : (shape : Shape) (slot : ℕ) (at : SlotAt) (v : Value) (q p : Path) → slice_get (slots_in shape) slot ≡ Some at → FitsAnywhere at.shape v → InLayout shape q (only_in shape slot v) p → Fits p
  fits_in Taint slot at v q p e short laid = own_fits Taint slot at v q p e short laid
  fits_in (Scalar pick kind) slot at v q p e short laid = own_fits (Scalar pick kind) slot at v q p e short laid
  fits_in (Set kind) slot at v q p e short laid = own_fits (Set kind) slot at v q p e short laid
  fits_in Counter slot at v q p e short laid = own_fits Counter slot at v q p e short laid
  fits_in (Map kind shape) slot at v q p e short laid = own_fits (Map kind shape) slot at v q p e short laid
  fits_in (Bag nodes) slot at v q p e short laid = fits_from nodes slot at v q p e short laid

  fits_from : (nodes : Nodes) (slot : ℕ) (at : SlotAt) (v : Value) (q p : Path) → HasSlot nodes slot at → FitsAnywhere at.shape v → InLayouts nodes q (only nodes slot v) p → Fits p
  fits_from no_node slot at v q p e short laid = absurd laid
  fits_from (node name number shape nodes) slot at v q p e short laid =
      node_fits name number shape nodes slot at v q p (nat_lt slot (slot_count shape)) refl (first_or_later name number shape nodes slot at e)
      (λ inner there same d. fits_in shape slot inner v (node_path q number) p there (subst (λ s. FitsAnywhere s v) (sym same) short) d)
      (λ there d. fits_from nodes (slot - slot_count shape) at v q p there short d)
      laid

pub only_fits : (nodes : Nodes) (slot : ℕ) (at : SlotAt) (v : Value) → HasSlot nodes slot at → FitsAnywhere at.shape v → FitsAtoms nodes (only nodes slot v)
only_fits nodes slot at v there short p laid = fits_from nodes slot at v [] p there short laid

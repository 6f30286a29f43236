-- Values slot by slot: one of them replaced, and one below another.
use Rattle.std.proofs.Common.{◌≡◌, ◌≢◌, ℕ, zero, suc, ◌+◌, ◌-◌, ◌<◌, ◌≤◌, Bool, true, false, cond, nat_lt, List, [], ◌∷◌, ◌++◌, length, map, Some, slice_set, refl, sym, ap, ◌∙◌, subst, arith, ltb-true, ltb-false}
use Rattle.std.specs.List.{slice_get}
use Rattle.std.proofs.lemmas.List.{length-map}
use Rattle.bag_model.specs.Shapes.{Shape, Nodes, Taint, Scalar, Set, Counter, Map, Bag, no_node, node}
use Rattle.bag_model.specs.Slots.{SlotAt, slots_in, slots_of, slot_count, within}
use Rattle.bag_model.specs.Values.{Value, Values, Bag, no_value, value, IsOfShape, AreOfShapes}
use Rattle.bag_model.specs.Joins.{join, join_values, IsValueBelow}
use Rattle.bag_model.specs.SlotValues.{slot_values_in, slot_values, with_slot_in, with_slot, WithSlotFits, SlotsHaveValues, BelowAtSlots}
use Rattle.bag_model.proofs.SlotLaws.{get_front, get_back}
use Rattle.bag_model.proofs.EachSlot.{EachSlot, each_slot-append, each_slot-within, each_slot-at, slot_values_in-length, slot_values-length, get_map, one_shape}

-- ---- the value at a slot is of its shape

abbrev FitsSlot : ℕ → SlotAt → Value → Type 0
FitsSlot k slot v = IsOfShape slot.shape v

mutual
  fitting_in : (shape : Shape) (v : Value) (i : ℕ) → IsOfShape shape v → EachSlot FitsSlot i (slots_in shape) (slot_values_in shape v)
  fitting_in Taint v i p = (p, tt)
  fitting_in (Scalar pick kind) v i p = (p, tt)
  fitting_in (Set kind) v i p = (p, tt)
  fitting_in Counter v i p = (p, tt)
  fitting_in (Map kind shape) v i p = (p, tt)
  fitting_in (Bag nodes) (Bag vs) i p = fitting nodes vs i p
  fitting_in (Bag nodes) v i p = absurd p

  fitting : (nodes : Nodes) (vs : Values) (i : ℕ) → AreOfShapes nodes vs → EachSlot FitsSlot i (slots_of nodes) (slot_values nodes vs)
  fitting no_node no_value i p = tt
  fitting no_node (value v vs) i p = absurd p
  fitting (node name number shape nodes) no_value i p = absurd p
  fitting (node name number shape nodes) (value v vs) i p =
      each_slot-append FitsSlot i (map (within name number) (slots_in shape)) (slots_of nodes) (slot_values_in shape v) (slot_values nodes vs)
      (each_slot-within FitsSlot FitsSlot name number (λ k x w q. q) i (slots_in shape) (slot_values_in shape v) (fitting_in shape v i p.0))
      (fitting nodes vs (i + length (map (within name number) (slots_in shape))) p.1)

pub slots_have_values : SlotsHaveValues
slots_have_values nodes vs place at p there = each_slot-at FitsSlot 0 (slots_of nodes) (slot_values nodes vs) place at (fitting nodes vs 0 p) there

-- ---- a list with one element replaced

module _ {A : Type 0} where
  set_front : (xs ys : List A) (i : ℕ) (v : A) → i < length xs → slice_set (xs ++ ys) i v ≡ slice_set xs i v ++ ys
  set_front [] ys i v l = absurd (omega (arith, l))
  set_front (x ∷ xs) ys zero v l = refl
  set_front (x ∷ xs) ys (suc i) v l = ap (λ zs. x ∷ zs) (set_front xs ys i v (omega (arith, l)))

  set_back : (xs ys : List A) (i k : ℕ) (v : A) → i ≡ length xs + k → slice_set (xs ++ ys) i v ≡ xs ++ slice_set ys k v
  set_back [] ys i k v e = ap (λ n. slice_set ys n v) (omega (arith, e))
  set_back (x ∷ xs) ys zero k v e = absurd (omega (arith, e))
  set_back (x ∷ xs) ys (suc i) k v e = ap (λ zs. x ∷ zs) (set_back xs ys i k v (omega (arith, e)))

  set_here : (xs : List A) (i : ℕ) (v : A) → i < length xs → slice_get (slice_set xs i v) i ≡ Some v
  set_here [] i v l = absurd (omega (arith, l))
  set_here (x ∷ xs) zero v l = refl
  set_here (x ∷ xs) (suc i) v l = set_here xs i v (omega (arith, l))

  set_elsewhere : (xs : List A) (i k : ℕ) (v : A) → k ≢ i → slice_get (slice_set xs i v) k ≡ slice_get xs k
  set_elsewhere [] i k v n = refl
  set_elsewhere (x ∷ xs) zero zero v n = absurd (n refl)
  set_elsewhere (x ∷ xs) zero (suc k) v n = refl
  set_elsewhere (x ∷ xs) (suc i) zero v n = refl
  set_elsewhere (x ∷ xs) (suc i) (suc k) v n = set_elsewhere xs i k v (λ e. n (ap (λ m. suc m) e))

  get_less : (xs : List A) (i : ℕ) (x : A) → slice_get xs i ≡ Some x → i < length xs
  get_less [] i x e = absurd (cc e)
  get_less (y ∷ xs) zero x e = omega arith
  get_less (y ∷ xs) (suc i) x e = let l = get_less xs i x e in omega arith

-- ---- a value in place of another

set_one : (place : ℕ) (v w : Value) → place < 1 → v ∷ [] ≡ slice_set (w ∷ []) place v
set_one zero v w l = refl
set_one (suc place) v w l = absurd (omega (arith, l))

mutual
  placed_in : (shape : Shape) (place : ℕ) (v w : Value) → IsOfShape shape w → place < slot_count shape
      → slot_values_in shape (with_slot_in shape place v w) ≡ slice_set (slot_values_in shape w) place v
  placed_in Taint place v w p l = set_one place v w l
  placed_in (Scalar pick kind) place v w p l = set_one place v w l
  placed_in (Set kind) place v w p l = set_one place v w l
  placed_in Counter place v w p l = set_one place v w l
  placed_in (Map kind shape) place v w p l = set_one place v w l
  placed_in (Bag nodes) place v (Bag vs) p l = placed nodes place v vs p
  placed_in (Bag nodes) place v w p l = absurd p

  placed : (nodes : Nodes) (place : ℕ) (v : Value) (vs : Values) → AreOfShapes nodes vs → slot_values nodes (with_slot nodes place v vs) ≡ slice_set (slot_values nodes vs) place v
  placed no_node place v no_value p = refl
  placed no_node place v (value w vs) p = absurd p
  placed (node name number shape nodes) place v no_value p = absurd p
  placed (node name number shape nodes) place v (value w vs) p =
      by (nat_lt place (slot_count shape)) refl (λ l. placed_in shape place v w p.0 l) (placed nodes (place - slot_count shape) v vs p.1)
    where
      long : slot_count shape ≡ length (slot_values_in shape w)
      long = slot_values_in-length shape w p.0

      by : (t : Bool) → nat_lt place (slot_count shape) ≡ t
          → (place < slot_count shape → slot_values_in shape (with_slot_in shape place v w) ≡ slice_set (slot_values_in shape w) place v)
          → slot_values nodes (with_slot nodes (place - slot_count shape) v vs) ≡ slice_set (slot_values nodes vs) (place - slot_count shape) v
          → slot_values (node name number shape nodes) (cond t (value (with_slot_in shape place v w) vs) (value w (with_slot nodes (place - slot_count shape) v vs)))
          ≡ slice_set (slot_values_in shape w ++ slot_values nodes vs) place v
      by true e own rest =
          let less : place < slot_count shape = ltb-true place (slot_count shape) e in
          ap (λ l. l ++ slot_values nodes vs) (own less) ∙ sym (set_front (slot_values_in shape w) (slot_values nodes vs) place v (omega (arith, less, long)))
      by false e own rest =
          let more : slot_count shape ≤ place = ltb-false place (slot_count shape) e in
          ap (λ l. slot_values_in shape w ++ l) rest ∙ sym (set_back (slot_values_in shape w) (slot_values nodes vs) place (place - slot_count shape) v (omega (arith, more, long)))

mutual
  placed_shape : (shape : Shape) (place : ℕ) (at : SlotAt) (v w : Value) → slice_get (slots_in shape) place ≡ Some at → IsOfShape at.shape v → IsOfShape shape w
      → IsOfShape shape (with_slot_in shape place v w)
  placed_shape Taint place at v w e q p = one_shape Taint place at v e q
  placed_shape (Scalar pick kind) place at v w e q p = one_shape (Scalar pick kind) place at v e q
  placed_shape (Set kind) place at v w e q p = one_shape (Set kind) place at v e q
  placed_shape Counter place at v w e q p = one_shape Counter place at v e q
  placed_shape (Map kind shape) place at v w e q p = one_shape (Map kind shape) place at v e q
  placed_shape (Bag nodes) place at v (Bag vs) e q p = placed_shapes nodes place at v vs e q p
  placed_shape (Bag nodes) place at v w e q p = absurd p

  placed_shapes : (nodes : Nodes) (place : ℕ) (at : SlotAt) (v : Value) (vs : Values) → slice_get (slots_of nodes) place ≡ Some at → IsOfShape at.shape v → AreOfShapes nodes vs
      → AreOfShapes nodes (with_slot nodes place v vs)
  placed_shapes no_node place at v vs e q p = p
  placed_shapes (node name number shape nodes) place at v no_value e q p = absurd p
  placed_shapes (node name number shape nodes) place at v (value w vs) e q p =
      by (nat_lt place (slot_count shape)) refl (λ inner d i. placed_shape shape place inner v w d i p.0) (λ d. placed_shapes nodes (place - slot_count shape) at v vs d q p.1)
    where
      front : List SlotAt
      front = map (within name number) (slots_in shape)

      long : length front ≡ slot_count shape
      long = length-map (slots_in shape) (within name number)

      by : (t : Bool) → nat_lt place (slot_count shape) ≡ t
          → ((inner : SlotAt) → slice_get (slots_in shape) place ≡ Some inner → IsOfShape inner.shape v → IsOfShape shape (with_slot_in shape place v w))
          → (slice_get (slots_of nodes) (place - slot_count shape) ≡ Some at → AreOfShapes nodes (with_slot nodes (place - slot_count shape) v vs))
          → AreOfShapes (node name number shape nodes) (cond t (value (with_slot_in shape place v w) vs) (value w (with_slot nodes (place - slot_count shape) v vs)))
      by true t own rest =
          let less : place < slot_count shape = ltb-true place (slot_count shape) t in
          let s = get_map (within name number) (slots_in shape) place at (sym (get_front front (slots_of nodes) place (omega (arith, less, long))) ∙ e) in
          (own s.0 s.1 (subst (λ (x : SlotAt). IsOfShape x.shape v) s.2 q), p.1)
      by false t own rest =
          let more : slot_count shape ≤ place = ltb-false place (slot_count shape) t in
          (p.0, rest (sym (get_back front (slots_of nodes) place (place - slot_count shape) (omega (arith, more, long))) ∙ e))

pub with_slot_fits : WithSlotFits
with_slot_fits = record {
  shapes = placed_shapes;
  own = λ nodes place at v vs there p.
      let less : place < length (slots_of nodes) = get_less (slots_of nodes) place at there in
      ap (λ l. slice_get l place) (placed nodes place v vs p)
      ∙ set_here (slot_values nodes vs) place v (omega (arith, less, slot_values-length nodes vs p));
  others = λ nodes place v vs other w p n has.
      sym (ap (λ l. slice_get l other) (placed nodes place v vs p) ∙ set_elsewhere (slot_values nodes vs) place other v n) ∙ has;
}

-- ---- below at each slot

-- each value of a list is below that of another list at its place, and there are as many
abbrev AllBelow : List Value → List Value → Type 0
AllBelow [] [] = Unit {0}
AllBelow [] (w ∷ ws) = ⊥
AllBelow (v ∷ vs) [] = ⊥
AllBelow (v ∷ vs) (w ∷ ws) = IsValueBelow v w × AllBelow vs ws

below-append : (hs bs cs ds : List Value) → AllBelow hs bs → AllBelow cs ds → AllBelow (hs ++ cs) (bs ++ ds)
below-append [] [] cs ds f g = g
below-append [] (b ∷ bs) cs ds f g = absurd f
below-append (a ∷ hs) [] cs ds f g = absurd f
below-append (a ∷ hs) (b ∷ bs) cs ds f g = (f.0, below-append hs bs cs ds f.1 g)

below-halves : (hs bs cs ds : List Value) → length hs ≡ length bs → AllBelow (hs ++ cs) (bs ++ ds) → AllBelow hs bs × AllBelow cs ds
below-halves [] [] cs ds l f = (tt, f)
below-halves [] (b ∷ bs) cs ds l f = absurd (omega (arith, l))
below-halves (a ∷ hs) [] cs ds l f = absurd (omega (arith, l))
below-halves (a ∷ hs) (b ∷ bs) cs ds l f = let s = below-halves hs bs cs ds (omega (arith, l)) f.1 in ((f.0, s.0), s.1)

below-at : (vs ws : List Value) → AllBelow vs ws → (place : ℕ) (v w : Value) → slice_get vs place ≡ Some v → slice_get ws place ≡ Some w → IsValueBelow v w
below-at [] ws f place v w d e = absurd (cc d)
below-at (x ∷ vs) [] f place v w d e = absurd f
below-at (x ∷ vs) (y ∷ ws) f zero v w d e =
    let one : x ≡ v = cc d in
    let other : y ≡ w = cc e in
    subst (λ u. IsValueBelow u w) one (subst (IsValueBelow x) other f.0)
below-at (x ∷ vs) (y ∷ ws) f (suc place) v w d e = below-at vs ws f.1 place v w d e

below-from : (vs ws : List Value) → length vs ≡ length ws → ((place : ℕ) (v w : Value) → slice_get vs place ≡ Some v → slice_get ws place ≡ Some w → IsValueBelow v w) → AllBelow vs ws
below-from [] [] l f = tt
below-from [] (w ∷ ws) l f = absurd (omega (arith, l))
below-from (v ∷ vs) [] l f = absurd (omega (arith, l))
below-from (v ∷ vs) (w ∷ ws) l f = (f 0 v w refl refl, below-from vs ws (omega (arith, l)) (λ place x y d e. f (suc place) x y d e))

values_of : Value → Values → Values
values_of (Bag vs) ws = vs
values_of v ws = ws

abbrev bag : Values → Value
bag vs = Bag vs

bag_one : (vs ws : Values) → bag vs ≡ bag ws → vs ≡ ws
unfolding values_of
bag_one vs ws e = ap (λ v. values_of v vs) e

first_value : Values → Value → Value
first_value no_value w = w
first_value (value v vs) w = v

other_values : Values → Values
other_values no_value = no_value
other_values (value v vs) = vs

first_one : (v w : Value) (vs ws : Values) → value v vs ≡ value w ws → v ≡ w
unfolding first_value
first_one v w vs ws e = ap (λ us. first_value us v) e

others_one : (v w : Value) (vs ws : Values) → value v vs ≡ value w ws → vs ≡ ws
unfolding other_values
others_one v w vs ws e = ap (λ us. other_values us) e

mutual
  below_slots_in : (shape : Shape) (v w : Value) → IsOfShape shape v → IsOfShape shape w → IsValueBelow v w → AllBelow (slot_values_in shape v) (slot_values_in shape w)
  below_slots_in Taint v w p q f = (f, tt)
  below_slots_in (Scalar pick kind) v w p q f = (f, tt)
  below_slots_in (Set kind) v w p q f = (f, tt)
  below_slots_in Counter v w p q f = (f, tt)
  below_slots_in (Map kind shape) v w p q f = (f, tt)
  below_slots_in (Bag nodes) (Bag vs) (Bag ws) p q f = below_slots nodes vs ws p q (bag_one (join_values vs ws) ws f)
  below_slots_in (Bag nodes) (Bag vs) w p q f = absurd q
  below_slots_in (Bag nodes) v w p q f = absurd p

  below_slots : (nodes : Nodes) (vs ws : Values) → AreOfShapes nodes vs → AreOfShapes nodes ws → join_values vs ws ≡ ws → AllBelow (slot_values nodes vs) (slot_values nodes ws)
  below_slots no_node no_value no_value p q f = tt
  below_slots no_node no_value (value w ws) p q f = absurd q
  below_slots no_node (value v vs) ws p q f = absurd p
  below_slots (node name number shape nodes) no_value ws p q f = absurd p
  below_slots (node name number shape nodes) (value v vs) no_value p q f = absurd q
  below_slots (node name number shape nodes) (value v vs) (value w ws) p q f =
      below-append (slot_values_in shape v) (slot_values_in shape w) (slot_values nodes vs) (slot_values nodes ws)
      (below_slots_in shape v w p.0 q.0 (first_one (join v w) w (join_values vs ws) ws f))
      (below_slots nodes vs ws p.1 q.1 (others_one (join v w) w (join_values vs ws) ws f))

mutual
  slots_below_in : (shape : Shape) (v w : Value) → IsOfShape shape v → IsOfShape shape w → AllBelow (slot_values_in shape v) (slot_values_in shape w) → IsValueBelow v w
  slots_below_in Taint v w p q f = f.0
  slots_below_in (Scalar pick kind) v w p q f = f.0
  slots_below_in (Set kind) v w p q f = f.0
  slots_below_in Counter v w p q f = f.0
  slots_below_in (Map kind shape) v w p q f = f.0
  slots_below_in (Bag nodes) (Bag vs) (Bag ws) p q f = ap Bag (slots_below nodes vs ws p q f)
  slots_below_in (Bag nodes) (Bag vs) w p q f = absurd q
  slots_below_in (Bag nodes) v w p q f = absurd p

  slots_below : (nodes : Nodes) (vs ws : Values) → AreOfShapes nodes vs → AreOfShapes nodes ws → AllBelow (slot_values nodes vs) (slot_values nodes ws) → join_values vs ws ≡ ws
  slots_below no_node no_value no_value p q f = refl
  slots_below no_node no_value (value w ws) p q f = absurd q
  slots_below no_node (value v vs) ws p q f = absurd p
  slots_below (node name number shape nodes) no_value ws p q f = absurd p
  slots_below (node name number shape nodes) (value v vs) no_value p q f = absurd q
  slots_below (node name number shape nodes) (value v vs) (value w ws) p q f =
      let long : length (slot_values_in shape v) ≡ length (slot_values_in shape w) = sym (slot_values_in-length shape v p.0) ∙ slot_values_in-length shape w q.0 in
      let s = below-halves (slot_values_in shape v) (slot_values_in shape w) (slot_values nodes vs) (slot_values nodes ws) long f in
      let own : join v w ≡ w = slots_below_in shape v w p.0 q.0 s.0 in
      let rest : join_values vs ws ≡ ws = slots_below nodes vs ws p.1 q.1 s.1 in
      λ i. value (own i) (rest i)

pub below_at_slots : BelowAtSlots
below_at_slots nodes vs ws p q = (
  (λ f place v w d e. below-at (slot_values nodes vs) (slot_values nodes ws) (below_slots nodes vs ws p q f) place v w d e),
  λ f. slots_below nodes vs ws p q (below-from (slot_values nodes vs) (slot_values nodes ws) (sym (slot_values-length nodes vs p) ∙ slot_values-length nodes ws q) f),
)

-- What holds of each slot and its value.
use Rattle.std.proofs.Common.{◌≡◌, ◌≢◌, ℕ, zero, suc, ◌+◌, ◌-◌, ◌<◌, ◌≤◌, Bool, true, false, cond, nat_lt, List, [], ◌∷◌, ◌++◌, length, map, Some, refl, sym, ap, ◌∙◌, subst, arith, ltb-true, ltb-false}
use Rattle.std.specs.List.{slice_get}
use Rattle.std.proofs.lemmas.List.{length-map, length-append}
use Rattle.context_model.specs.Orders.{Path}
use Rattle.bag_model.specs.Shapes.{Shape, Nodes, Taint, Scalar, Set, Counter, Map, Bag, no_node, node}
use Rattle.bag_model.specs.Slots.{SlotAt, slots_in, slots_of, slot_count, within}
use Rattle.bag_model.specs.Values.{Value, Values, Bag, no_value, value, bottom, bottoms, IsOfShape, AreOfShapes}
use Rattle.bag_model.specs.Readings.{node_path, PathsOf, Reads, ReadsEach}
use Rattle.bag_model.specs.SlotValues.{slot_values_in, slot_values, only_in, only, SlotsReadApart, OnlyFits}
use Rattle.bag_model.proofs.SlotLaws.{get_front, get_back}
use Rattle.bag_model.proofs.OfShape.{IsOfShape-bottom, AreOfShapes-bottom}
use Rattle.bag_model.proofs.SlotsBelow.{slot_path, slot_path-within, slot_path-own}

-- R holds of each slot and its value, and there is one for each. The slots count from i on.
abbrev pub EachSlot : (ℕ → SlotAt → Value → Type 0) → ℕ → List SlotAt → List Value → Type 0
EachSlot R i [] [] = Unit {0}
EachSlot R i [] (v ∷ vs) = ⊥
EachSlot R i (slot ∷ slots) [] = ⊥
EachSlot R i (slot ∷ slots) (v ∷ vs) = R i slot v × EachSlot R (suc i) slots vs

module _ (R : ℕ → SlotAt → Value → Type 0) where
  pub each_slot-append : (i : ℕ) (xs ys : List SlotAt) (vs ws : List Value) → EachSlot R i xs vs → EachSlot R (i + length xs) ys ws → EachSlot R i (xs ++ ys) (vs ++ ws)
  each_slot-append i [] ys [] ws f g = let e : i + 0 ≡ i = omega arith in subst (λ n. EachSlot R n ys ws) e g
  each_slot-append i [] ys (v ∷ vs) ws f g = absurd f
  each_slot-append i (x ∷ xs) ys [] ws f g = absurd f
  each_slot-append i (x ∷ xs) ys (v ∷ vs) ws f g =
      let e : i + suc (length xs) ≡ suc i + length xs = omega arith in (f.0, each_slot-append (suc i) xs ys vs ws f.1 (subst (λ n. EachSlot R n ys ws) e g))

  pub each_slot-front : (i : ℕ) (xs ys : List SlotAt) (vs ws : List Value) → length xs ≡ length vs → EachSlot R i (xs ++ ys) (vs ++ ws) → EachSlot R i xs vs
  each_slot-front i [] ys [] ws l f = tt
  each_slot-front i [] ys (v ∷ vs) ws l f = absurd (omega (arith, l))
  each_slot-front i (x ∷ xs) ys [] ws l f = absurd (omega (arith, l))
  each_slot-front i (x ∷ xs) ys (v ∷ vs) ws l f = (f.0, each_slot-front (suc i) xs ys vs ws (omega (arith, l)) f.1)

  pub each_slot-rest : (i : ℕ) (xs ys : List SlotAt) (vs ws : List Value) → length xs ≡ length vs → EachSlot R i (xs ++ ys) (vs ++ ws) → EachSlot R (i + length xs) ys ws
  each_slot-rest i [] ys [] ws l f = let e : i ≡ i + 0 = omega arith in subst (λ n. EachSlot R n ys ws) e f
  each_slot-rest i [] ys (v ∷ vs) ws l f = absurd (omega (arith, l))
  each_slot-rest i (x ∷ xs) ys [] ws l f = absurd (omega (arith, l))
  each_slot-rest i (x ∷ xs) ys (v ∷ vs) ws l f =
      let e : suc i + length xs ≡ i + suc (length xs) = omega arith in subst (λ n. EachSlot R n ys ws) e (each_slot-rest (suc i) xs ys vs ws (omega (arith, l)) f.1)

  -- The value of one slot.
  pub each_slot-at : (i : ℕ) (xs : List SlotAt) (vs : List Value) (k : ℕ) (x : SlotAt) → EachSlot R i xs vs → slice_get xs k ≡ Some x → (v : Value) × (slice_get vs k ≡ Some v) × R (i + k) x v
  each_slot-at i [] vs k x f e = absurd (cc e)
  each_slot-at i (y ∷ xs) [] k x f e = absurd f
  each_slot-at i (y ∷ xs) (v ∷ vs) zero x f e = let same : y ≡ x = cc in let n : i ≡ i + 0 = omega arith in (v, refl, subst (λ m. R m x v) n (subst (λ z. R i z v) same f.0))
  each_slot-at i (y ∷ xs) (v ∷ vs) (suc k) x f e =
      let s = each_slot-at (suc i) xs vs k x f.1 e in let n : suc i + k ≡ i + suc k = omega arith in (s.0, s.1, subst (λ m. R m x s.0) n s.2)

  -- Each slot with its value, from one at a time.
  pub each_slot-from : (i : ℕ) (xs : List SlotAt) (vs : List Value) → length xs ≡ length vs → ((k : ℕ) (x : SlotAt) (v : Value) → slice_get xs k ≡ Some x → slice_get vs k ≡ Some v → R (i + k) x v) → EachSlot R i xs vs
  each_slot-from i [] [] l f = tt
  each_slot-from i [] (v ∷ vs) l f = absurd (omega (arith, l))
  each_slot-from i (x ∷ xs) [] l f = absurd (omega (arith, l))
  each_slot-from i (x ∷ xs) (v ∷ vs) l f =
      let n : i + 0 ≡ i = omega arith in
      (subst (λ m. R m x v) n (f 0 x v refl refl), each_slot-from (suc i) xs vs (omega (arith, l)) (λ k y w s t. let m : i + suc k ≡ suc i + k = omega arith in subst (λ j. R j y w) m (f (suc k) y w s t)))

module _ (R S : ℕ → SlotAt → Value → Type 0) where
  -- What follows from R of each holds of each.
  pub each_slot-so : (i : ℕ) (xs : List SlotAt) (vs : List Value) → ((k : ℕ) (x : SlotAt) (v : Value) → R k x v → S k x v) → EachSlot R i xs vs → EachSlot S i xs vs
  each_slot-so i [] [] f e = tt
  each_slot-so i [] (v ∷ vs) f e = absurd e
  each_slot-so i (x ∷ xs) [] f e = absurd e
  each_slot-so i (x ∷ xs) (v ∷ vs) f e = (f i x v e.0, each_slot-so (suc i) xs vs f e.1)

  -- The slots of a field, seen from the bag around it.
  pub each_slot-within : (name : List ℕ) (number : ℕ) → ((k : ℕ) (x : SlotAt) (v : Value) → R k x v → S k (within name number x) v)
      → (i : ℕ) (xs : List SlotAt) (vs : List Value) → EachSlot R i xs vs → EachSlot S i (map (within name number) xs) vs
  each_slot-within name number f i [] [] e = tt
  each_slot-within name number f i [] (v ∷ vs) e = absurd e
  each_slot-within name number f i (x ∷ xs) [] e = absurd e
  each_slot-within name number f i (x ∷ xs) (v ∷ vs) e = (f i x v e.0, each_slot-within name number f (suc i) xs vs e.1)

  pub each_slot-without : (name : List ℕ) (number : ℕ) → ((k : ℕ) (x : SlotAt) (v : Value) → S k (within name number x) v → R k x v)
      → (i : ℕ) (xs : List SlotAt) (vs : List Value) → EachSlot S i (map (within name number) xs) vs → EachSlot R i xs vs
  each_slot-without name number f i [] [] e = tt
  each_slot-without name number f i [] (v ∷ vs) e = absurd e
  each_slot-without name number f i (x ∷ xs) [] e = absurd e
  each_slot-without name number f i (x ∷ xs) (v ∷ vs) e = (f i x v e.0, each_slot-without name number f (suc i) xs vs e.1)

-- ---- readings

-- the value is what P says at the slot of a bag with the path q
abbrev pub ReadsSlot : (Path → Type 0) → Path → ℕ → SlotAt → Value → Type 0
ReadsSlot P q i slot v = Reads slot.shape P (slot_path q slot) v

own_slot : (shape : Shape) (P : Path → Type 0) (q : Path) (v : Value) (i : ℕ) → Reads shape P q v → EachSlot (ReadsSlot P q) i (record { names = []; numbers = []; shape = shape } ∷ []) (v ∷ [])
own_slot shape P q v i r = (subst (λ p. Reads shape P p v) (sym (slot_path-own q shape)) r, tt)

own_back : (shape : Shape) (P : Path → Type 0) (q : Path) (v : Value) (i : ℕ) → EachSlot (ReadsSlot P q) i (record { names = []; numbers = []; shape = shape } ∷ []) (v ∷ []) → Reads shape P q v
own_back shape P q v i r = subst (λ p. Reads shape P p v) (slot_path-own q shape) r.0

inner_slot : (P : Path → Type 0) (q : Path) (name : List ℕ) (number : ℕ) (k : ℕ) (x : SlotAt) (v : Value) → ReadsSlot P (node_path q number) k x v → ReadsSlot P q k (within name number x) v
inner_slot P q name number k x v r = subst (λ p. Reads x.shape P p v) (sym (slot_path-within q name number x)) r

inner_back : (P : Path → Type 0) (q : Path) (name : List ℕ) (number : ℕ) (k : ℕ) (x : SlotAt) (v : Value) → ReadsSlot P q k (within name number x) v → ReadsSlot P (node_path q number) k x v
inner_back P q name number k x v r = subst (λ p. Reads x.shape P p v) (slot_path-within q name number x) r

mutual
  -- What is read of a field is, slot by slot, what is read of its slots.
  pub Reads-slots : (shape : Shape) (P : Path → Type 0) (q : Path) (v : Value) (i : ℕ) → Reads shape P q v → EachSlot (ReadsSlot P q) i (slots_in shape) (slot_values_in shape v)
  Reads-slots Taint P q v i r = own_slot Taint P q v i r
  Reads-slots (Scalar pick kind) P q v i r = own_slot (Scalar pick kind) P q v i r
  Reads-slots (Set kind) P q v i r = own_slot (Set kind) P q v i r
  Reads-slots Counter P q v i r = own_slot Counter P q v i r
  Reads-slots (Map kind shape) P q v i r = own_slot (Map kind shape) P q v i r
  Reads-slots (Bag nodes) P q (Bag vs) i r = ReadsEach-slots nodes P q vs i r
  Reads-slots (Bag nodes) P q v i r = absurd r

  pub ReadsEach-slots : (nodes : Nodes) (P : Path → Type 0) (q : Path) (vs : Values) (i : ℕ) → ReadsEach nodes P q vs → EachSlot (ReadsSlot P q) i (slots_of nodes) (slot_values nodes vs)
  ReadsEach-slots no_node P q no_value i r = tt
  ReadsEach-slots no_node P q (value v vs) i r = absurd r
  ReadsEach-slots (node name number shape nodes) P q no_value i r = absurd r
  ReadsEach-slots (node name number shape nodes) P q (value v vs) i r =
      each_slot-append (ReadsSlot P q) i (map (within name number) (slots_in shape)) (slots_of nodes) (slot_values_in shape v) (slot_values nodes vs)
      (each_slot-within (ReadsSlot P (node_path q number)) (ReadsSlot P q) name number (inner_slot P q name number) i (slots_in shape) (slot_values_in shape v) (Reads-slots shape P (node_path q number) v i r.0))
      (ReadsEach-slots nodes P q vs (i + length (map (within name number) (slots_in shape))) r.1)

-- there are as many values as slots
mutual
  pub slot_values_in-length : (shape : Shape) (v : Value) → IsOfShape shape v → length (slots_in shape) ≡ length (slot_values_in shape v)
  slot_values_in-length Taint v p = refl
  slot_values_in-length (Scalar pick kind) v p = refl
  slot_values_in-length (Set kind) v p = refl
  slot_values_in-length Counter v p = refl
  slot_values_in-length (Map kind shape) v p = refl
  slot_values_in-length (Bag nodes) (Bag vs) p = slot_values-length nodes vs p
  slot_values_in-length (Bag nodes) v p = absurd p

  pub slot_values-length : (nodes : Nodes) (vs : Values) → AreOfShapes nodes vs → length (slots_of nodes) ≡ length (slot_values nodes vs)
  slot_values-length no_node no_value p = refl
  slot_values-length no_node (value v vs) p = absurd p
  slot_values-length (node name number shape nodes) no_value p = absurd p
  slot_values-length (node name number shape nodes) (value v vs) p =
      omega (arith, slot_values_in-length shape v p.0, slot_values-length nodes vs p.1, length-append (map (within name number) (slots_in shape)) (slots_of nodes), length-append (slot_values_in shape v) (slot_values nodes vs), length-map (slots_in shape) (within name number))

mutual
  -- And back, of values of the shapes.
  pub Reads-whole : (shape : Shape) (P : Path → Type 0) (q : Path) (v : Value) (i : ℕ) → IsOfShape shape v → EachSlot (ReadsSlot P q) i (slots_in shape) (slot_values_in shape v) → Reads shape P q v
  Reads-whole Taint P q v i p r = own_back Taint P q v i r
  Reads-whole (Scalar pick kind) P q v i p r = own_back (Scalar pick kind) P q v i r
  Reads-whole (Set kind) P q v i p r = own_back (Set kind) P q v i r
  Reads-whole Counter P q v i p r = own_back Counter P q v i r
  Reads-whole (Map kind shape) P q v i p r = own_back (Map kind shape) P q v i r
  Reads-whole (Bag nodes) P q (Bag vs) i p r = ReadsEach-whole nodes P q vs i p r
  Reads-whole (Bag nodes) P q v i p r = absurd p

  pub ReadsEach-whole : (nodes : Nodes) (P : Path → Type 0) (q : Path) (vs : Values) (i : ℕ) → AreOfShapes nodes vs → EachSlot (ReadsSlot P q) i (slots_of nodes) (slot_values nodes vs) → ReadsEach nodes P q vs
  ReadsEach-whole no_node P q no_value i p r = tt
  ReadsEach-whole no_node P q (value v vs) i p r = absurd p
  ReadsEach-whole (node name number shape nodes) P q no_value i p r = absurd p
  ReadsEach-whole (node name number shape nodes) P q (value v vs) i p r =
      let long : length (map (within name number) (slots_in shape)) ≡ length (slot_values_in shape v) = length-map (slots_in shape) (within name number) ∙ slot_values_in-length shape v p.0 in (
        Reads-whole shape P (node_path q number) v i p.0
            (each_slot-without (ReadsSlot P (node_path q number)) (ReadsSlot P q) name number (inner_back P q name number) i (slots_in shape) (slot_values_in shape v)
            (each_slot-front (ReadsSlot P q) i (map (within name number) (slots_in shape)) (slots_of nodes) (slot_values_in shape v) (slot_values nodes vs) long r)),
        ReadsEach-whole nodes P q vs (i + length (map (within name number) (slots_in shape))) p.1
            (each_slot-rest (ReadsSlot P q) i (map (within name number) (slots_in shape)) (slots_of nodes) (slot_values_in shape v) (slot_values nodes vs) long r),
      )

pub slots_read_apart : SlotsReadApart
slots_read_apart = record {
  slot = λ nodes list vs place at r e. each_slot-at (ReadsSlot (PathsOf list) []) 0 (slots_of nodes) (slot_values nodes vs) place at (ReadsEach-slots nodes (PathsOf list) [] vs 0 r) e;
  whole = λ nodes list vs p f. ReadsEach-whole nodes (PathsOf list) [] vs 0 p
      (each_slot-from (ReadsSlot (PathsOf list) []) 0 (slots_of nodes) (slot_values nodes vs) (slot_values-length nodes vs p) f);
}

-- ---- the bag that is bottom except at one slot

-- bottom is at the slot
abbrev AtBottom : ℕ → SlotAt → Value → Type 0
AtBottom k slot v = v ≡ bottom slot.shape

mutual
  bottom_slots : (shape : Shape) (i : ℕ) → EachSlot AtBottom i (slots_in shape) (slot_values_in shape (bottom shape))
  bottom_slots Taint i = (refl, tt)
  bottom_slots (Scalar pick kind) i = (refl, tt)
  bottom_slots (Set kind) i = (refl, tt)
  bottom_slots Counter i = (refl, tt)
  bottom_slots (Map kind shape) i = (refl, tt)
  bottom_slots (Bag nodes) i = bottoms_slots nodes i

  bottoms_slots : (nodes : Nodes) (i : ℕ) → EachSlot AtBottom i (slots_of nodes) (slot_values nodes (bottoms nodes))
  bottoms_slots no_node i = tt
  bottoms_slots (node name number shape nodes) i =
      each_slot-append AtBottom i (map (within name number) (slots_in shape)) (slots_of nodes) (slot_values_in shape (bottom shape)) (slot_values nodes (bottoms nodes))
      (each_slot-within AtBottom AtBottom name number (λ k x v e. e) i (slots_in shape) (slot_values_in shape (bottom shape)) (bottom_slots shape i))
      (bottoms_slots nodes (i + length (map (within name number) (slots_in shape))))

-- R holds, and the slot's number is within these bounds
abbrev Bounded : ℕ → ℕ → (ℕ → SlotAt → Value → Type 0) → ℕ → SlotAt → Value → Type 0
Bounded j m R k slot v = (j ≤ k) × (k < m) × R k slot v

each_slot-bounds : (R : ℕ → SlotAt → Value → Type 0) (j m i : ℕ) (xs : List SlotAt) (vs : List Value) → j ≤ i → i + length xs ≤ m → EachSlot R i xs vs → EachSlot (Bounded j m R) i xs vs
each_slot-bounds R j m i [] [] a b e = tt
each_slot-bounds R j m i [] (v ∷ vs) a b e = absurd e
each_slot-bounds R j m i (x ∷ xs) [] a b e = absurd e
each_slot-bounds R j m i (x ∷ xs) (v ∷ vs) a b e = ((a, omega (arith, b), e.0), each_slot-bounds R j m (suc i) xs vs (omega (arith, a)) (omega (arith, b)) e.1)

-- v at this slot, and bottom at all others
abbrev IsOnly : ℕ → Value → ℕ → SlotAt → Value → Type 0
IsOnly place v k slot w = (k ≡ place → w ≡ v) × (k ≢ place → w ≡ bottom slot.shape)

own_only : (shape : Shape) (place : ℕ) (v : Value) (i : ℕ) → place < 1 → EachSlot (IsOnly (i + place) v) i (record { names = []; numbers = []; shape = shape } ∷ []) (v ∷ [])
own_only shape place v i l = (((λ e. refl), λ n. absurd (n (omega (arith, l)))), tt)

mutual
  only_slots_in : (shape : Shape) (place : ℕ) (v : Value) (i : ℕ) → place < slot_count shape → EachSlot (IsOnly (i + place) v) i (slots_in shape) (slot_values_in shape (only_in shape place v))
  only_slots_in Taint place v i l = own_only Taint place v i l
  only_slots_in (Scalar pick kind) place v i l = own_only (Scalar pick kind) place v i l
  only_slots_in (Set kind) place v i l = own_only (Set kind) place v i l
  only_slots_in Counter place v i l = own_only Counter place v i l
  only_slots_in (Map kind shape) place v i l = own_only (Map kind shape) place v i l
  only_slots_in (Bag nodes) place v i l = only_slots nodes place v i

  only_slots : (nodes : Nodes) (place : ℕ) (v : Value) (i : ℕ) → EachSlot (IsOnly (i + place) v) i (slots_of nodes) (slot_values nodes (only nodes place v))
  only_slots no_node place v i = tt
  only_slots (node name number shape nodes) place v i =
      by (nat_lt place (slot_count shape)) refl (λ l. only_slots_in shape place v i l) (only_slots nodes (place - slot_count shape) v (i + length (map (within name number) (slots_in shape))))
    where
      front : List SlotAt
      front = map (within name number) (slots_in shape)

      long : length front ≡ slot_count shape
      long = length-map (slots_in shape) (within name number)

      by : (t : Bool) → nat_lt place (slot_count shape) ≡ t
          → (place < slot_count shape → EachSlot (IsOnly (i + place) v) i (slots_in shape) (slot_values_in shape (only_in shape place v)))
          → EachSlot (IsOnly (i + length front + (place - slot_count shape)) v) (i + length front) (slots_of nodes) (slot_values nodes (only nodes (place - slot_count shape) v))
          → EachSlot (IsOnly (i + place) v) i (front ++ slots_of nodes)
          (slot_values (node name number shape nodes) (cond t (value (only_in shape place v) (bottoms nodes)) (value (bottom shape) (only nodes (place - slot_count shape) v))))
      by true e own rest =
          let less : place < slot_count shape = ltb-true place (slot_count shape) e in
          each_slot-append (IsOnly (i + place) v) i front (slots_of nodes) (slot_values_in shape (only_in shape place v)) (slot_values nodes (bottoms nodes))
          (each_slot-within (IsOnly (i + place) v) (IsOnly (i + place) v) name number (λ k x w h. h) i (slots_in shape) (slot_values_in shape (only_in shape place v)) (own less))
          (each_slot-so (Bounded (i + length front) (i + length front + length (slots_of nodes)) AtBottom) (IsOnly (i + place) v) (i + length front) (slots_of nodes) (slot_values nodes (bottoms nodes))
          (λ k x w h. ((λ same. absurd (omega (arith, same, h.0, less, long))), λ other. h.2))
          (each_slot-bounds AtBottom (i + length front) (i + length front + length (slots_of nodes)) (i + length front) (slots_of nodes) (slot_values nodes (bottoms nodes)) (omega arith) (omega arith) (bottoms_slots nodes (i + length front))))
      by false e own rest =
          let more : slot_count shape ≤ place = ltb-false place (slot_count shape) e in
          each_slot-append (IsOnly (i + place) v) i front (slots_of nodes) (slot_values_in shape (bottom shape)) (slot_values nodes (only nodes (place - slot_count shape) v))
          (each_slot-so (Bounded i (i + length front) AtBottom) (IsOnly (i + place) v) i front (slot_values_in shape (bottom shape))
          (λ k x w h. ((λ same. absurd (omega (arith, same, h.1, more, long))), λ other. h.2))
          (each_slot-bounds AtBottom i (i + length front) i front (slot_values_in shape (bottom shape)) (omega arith) (omega arith)
          (each_slot-within AtBottom AtBottom name number (λ k x w h. h) i (slots_in shape) (slot_values_in shape (bottom shape)) (bottom_slots shape i))))
          (let same : i + length front + (place - slot_count shape) ≡ i + place = omega (arith, more, long) in
          subst (λ n. EachSlot (IsOnly n v) (i + length front) (slots_of nodes) (slot_values nodes (only nodes (place - slot_count shape) v))) same rest)

-- an element of a list that was mapped, by its place
pub get_map : {A B : Type 0} (f : A → B) (xs : List A) (k : ℕ) (y : B) → slice_get (map f xs) k ≡ Some y → (x : A) × (slice_get xs k ≡ Some x) × (y ≡ f x)
get_map f [] k y e = absurd (cc e)
get_map f (x ∷ xs) zero y e = let same : f x ≡ y = cc in (x, refl, sym same)
get_map f (x ∷ xs) (suc k) y e = get_map f xs k y e

-- the shape of the one slot of a field that is no bag
pub one_shape : (shape : Shape) (place : ℕ) (at : SlotAt) (v : Value) → slice_get (record { names = []; numbers = []; shape = shape } ∷ []) place ≡ Some at → IsOfShape at.shape v → IsOfShape shape v
one_shape shape zero at v e p = let same : record { names = []; numbers = []; shape = shape } ≡ at = cc in subst (λ (x : SlotAt). IsOfShape x.shape v) (sym same) p
one_shape shape (suc place) at v e p = absurd (cc e)

mutual
  only_shape : (shape : Shape) (place : ℕ) (at : SlotAt) (v : Value) → slice_get (slots_in shape) place ≡ Some at → IsOfShape at.shape v → IsOfShape shape (only_in shape place v)
  only_shape Taint place at v e p = one_shape Taint place at v e p
  only_shape (Scalar pick kind) place at v e p = one_shape (Scalar pick kind) place at v e p
  only_shape (Set kind) place at v e p = one_shape (Set kind) place at v e p
  only_shape Counter place at v e p = one_shape Counter place at v e p
  only_shape (Map kind shape) place at v e p = one_shape (Map kind shape) place at v e p
  only_shape (Bag nodes) place at v e p = only_shapes nodes place at v e p

  only_shapes : (nodes : Nodes) (place : ℕ) (at : SlotAt) (v : Value) → slice_get (slots_of nodes) place ≡ Some at → IsOfShape at.shape v → AreOfShapes nodes (only nodes place v)
  only_shapes no_node place at v e p = tt
  only_shapes (node name number shape nodes) place at v e p =
      by (nat_lt place (slot_count shape)) refl (λ inner d i. only_shape shape place inner v d i) (λ d. only_shapes nodes (place - slot_count shape) at v d p)
    where
      front : List SlotAt
      front = map (within name number) (slots_in shape)

      long : length front ≡ slot_count shape
      long = length-map (slots_in shape) (within name number)

      by : (t : Bool) → nat_lt place (slot_count shape) ≡ t
          → ((inner : SlotAt) → slice_get (slots_in shape) place ≡ Some inner → IsOfShape inner.shape v → IsOfShape shape (only_in shape place v))
          → (slice_get (slots_of nodes) (place - slot_count shape) ≡ Some at → AreOfShapes nodes (only nodes (place - slot_count shape) v))
          → AreOfShapes (node name number shape nodes) (cond t (value (only_in shape place v) (bottoms nodes)) (value (bottom shape) (only nodes (place - slot_count shape) v)))
      by true t own rest =
          let less : place < slot_count shape = ltb-true place (slot_count shape) t in
          let s = get_map (within name number) (slots_in shape) place at (sym (get_front front (slots_of nodes) place (omega (arith, less, long))) ∙ e) in
          (own s.0 s.1 (subst (λ (x : SlotAt). IsOfShape x.shape v) s.2 p), AreOfShapes-bottom nodes)
      by false t own rest =
          let more : slot_count shape ≤ place = ltb-false place (slot_count shape) t in
          (IsOfShape-bottom shape, rest (sym (get_back front (slots_of nodes) place (place - slot_count shape) (omega (arith, more, long))) ∙ e))

-- the value that is found at a slot
only_at : (nodes : Nodes) (place : ℕ) (v : Value) (other : ℕ) (there : SlotAt) → slice_get (slots_of nodes) other ≡ Some there
    → (w : Value) × (slice_get (slot_values nodes (only nodes place v)) other ≡ Some w) × IsOnly (0 + place) v (0 + other) there w
only_at nodes place v other there e = each_slot-at (IsOnly (0 + place) v) 0 (slots_of nodes) (slot_values nodes (only nodes place v)) other there (only_slots nodes place v 0) e

pub only_fits : OnlyFits
only_fits = record {
  shapes = only_shapes;
  own = λ nodes place at v e. let s = only_at nodes place v place at e in s.1 ∙ ap (λ w. Some w) (s.2.0 refl);
  others = λ nodes place at v other there e f n. let s = only_at nodes place v other there f in s.1 ∙ ap (λ w. Some w) (s.2.1 (λ same. n (omega (arith, same))));
}

-- A datum that normal form takes away is under the header of its slot, which stays.
use Rattle.std.proofs.Common.{◌≡◌, ◌⊎◌, inl, inr, ℕ, suc, ◌+◌, ◌-◌, ◌*◌, ◌<◌, ◌≤◌, Less, List, [], ◌∷◌, ◌++◌, length, map, refl, sym, ap, ◌∙◌, subst, append_assoc, arith}
use Rattle.context_model.specs.Atoms.{Atom}
use Rattle.context_model.specs.Kinds.{atom_of}
use Rattle.context_model.specs.Kinds.Kind.{Indexed}
use Rattle.context_model.specs.Orders.{Path, atom_cmp, IsIn}
use Rattle.context_model.specs.Paths.{path_at}
use Rattle.context_model.specs.Varints.{unsigned_varint}
use Rattle.context_model.specs.WellFormed.{IsWellFormed}
use Rattle.context_model.specs.Ended.{IsBelow, IsBeyond, field_path_from, field_path}
use Rattle.context_model.proofs.Beyond.{beyond_all, beyond_less, beyond_same, beyond_cases}
use Rattle.context_model.proofs.MergedLaws.{same_end}
use Rattle.context_model.proofs.PlacesOf.{path_there, front_is_path}
use Rattle.context_model.specs.declared.TheConstants.{LEVELS_MAX}
use Rattle.bag_model.specs.Shapes.{Shape, Nodes, Field, fields, Taint, Scalar, Set, Counter, Map, Bag, no_node, node}
use Rattle.bag_model.specs.Slots.{SlotAt, slots_in, slots_of, within}
use Rattle.bag_model.specs.Tables.{AreFields, IsShape, IsTable}
use Rattle.bag_model.specs.Views.{View}
use Rattle.bag_model.specs.Readings.{datum_path, node_path, PathsOf}
use Rattle.bag_model.specs.NormalForm.{IsSuperseded, IsNormalOf}
use Rattle.bag_model.specs.GoneData.{LeavesItsHeader, GoneDataLeaveHeaders}
use Rattle.bag_model.proofs.Finite.{in_append}
use Rattle.bag_model.proofs.LayoutLaws.{fields_apart}
use Rattle.bag_model.proofs.SlotNumbers.{numbers_few}
use Rattle.bag_model.proofs.SlotsBelow.{in_map, get_in, slot_path, slot_path-within}
use Rattle.bag_model.proofs.DataPlaces.{HoldsData-below}
use Rattle.bag_model.proofs.NormalFormLaws.{normal_left}

-- ---- of two slots of a table neither is below the other

-- the path of a slot begins with that of a field
slot_under : (nodes : Nodes) (q : Path) (slot : SlotAt) → IsIn slot (slots_of nodes) → (f : Field) × IsIn f (fields nodes) × (r : Path) × (slot_path q slot ≡ node_path q f.number ++ r)
slot_under no_node q slot none = elim none [ ]
slot_under (node name number shape nodes) q slot i =
    by (in_append slot (map (within name number) (slots_in shape)) (slots_of nodes) i) (λ j. slot_under nodes q slot j)
  where
    by : IsIn slot (map (within name number) (slots_in shape)) ⊎ IsIn slot (slots_of nodes)
        → (IsIn slot (slots_of nodes) → (f : Field) × IsIn f (fields nodes) × (r : Path) × (slot_path q slot ≡ node_path q f.number ++ r))
        → (f : Field) × IsIn f (fields (node name number shape nodes)) × (r : Path) × (slot_path q slot ≡ node_path q f.number ++ r)
    by (inl j) rest =
        let s = in_map (within name number) (slots_in shape) slot j in
        (record { name = name; number = number; shape = shape }, inl refl, field_path_from (length (node_path q number)) s.0.numbers, ap (slot_path q) s.2 ∙ slot_path-within q name number s.0)
    by (inr j) rest = let s = rest j in (s.0, inr s.1, s.2, s.3)

only_one : (shape : Shape) (a b : SlotAt) → IsIn a (record { names = []; numbers = []; shape = shape } ∷ []) → IsIn b (record { names = []; numbers = []; shape = shape } ∷ []) → b ≡ a
only_one shape a b (inl i) (inl j) = j ∙ sym i
only_one shape a b (inl i) (inr none) = elim none [ ]
only_one shape a b (inr none) j = elim none [ ]

mutual
  pub slot_apart : (shape : Shape) (q : Path) (a b : SlotAt) (r : Path) → IsShape shape → IsIn a (slots_in shape) → IsIn b (slots_in shape) → slot_path q b ≡ slot_path q a ++ r → b ≡ a
  slot_apart Taint q a b r w i j e = only_one Taint a b i j
  slot_apart (Scalar pick kind) q a b r w i j e = only_one (Scalar pick kind) a b i j
  slot_apart (Set kind) q a b r w i j e = only_one (Set kind) a b i j
  slot_apart Counter q a b r w i j e = only_one Counter a b i j
  slot_apart (Map kind shape) q a b r w i j e = only_one (Map kind shape) a b i j
  slot_apart (Bag nodes) q a b r w i j e = slots_apart nodes q a b r w i j e

  pub slots_apart : (nodes : Nodes) (q : Path) (a b : SlotAt) (r : Path) → AreFields nodes → IsIn a (slots_of nodes) → IsIn b (slots_of nodes) → slot_path q b ≡ slot_path q a ++ r → b ≡ a
  slots_apart no_node q a b r w i j e = elim i [ ]
  slots_apart (node name number shape nodes) q a b r w i j e =
      by (in_append a front (slots_of nodes) i) (in_append b front (slots_of nodes) j)
      (λ x y k l f. slot_apart shape (node_path q number) x y r w.2 k l f) (λ k l. slots_apart nodes q a b r w.4 k l e)
    where
      front : List SlotAt
      front = map (within name number) (slots_in shape)

      by : IsIn a front ⊎ IsIn a (slots_of nodes) → IsIn b front ⊎ IsIn b (slots_of nodes)
          → ((x y : SlotAt) → IsIn x (slots_in shape) → IsIn y (slots_in shape) → slot_path (node_path q number) y ≡ slot_path (node_path q number) x ++ r → y ≡ x)
          → (IsIn a (slots_of nodes) → IsIn b (slots_of nodes) → b ≡ a) → b ≡ a
      by (inl k) (inl l) own rest =
          let x = in_map (within name number) (slots_in shape) a k in
          let y = in_map (within name number) (slots_in shape) b l in
          let same : y.0 ≡ x.0 =
          own x.0 y.0 x.1 y.1
          (sym (slot_path-within q name number y.0) ∙ ap (slot_path q) (sym y.2) ∙ e ∙ ap (λ s. slot_path q s ++ r) x.2 ∙ ap (λ p. p ++ r) (slot_path-within q name number x.0))
          in
          y.2 ∙ ap (within name number) same ∙ sym x.2
      by (inl k) (inr l) own rest =
          let x = in_map (within name number) (slots_in shape) a k in
          let t : Path = field_path_from (length (node_path q number)) x.0.numbers in
          let s = slot_under nodes q b l in
          let path : slot_path q a ≡ node_path q number ++ t = ap (slot_path q) x.2 ∙ slot_path-within q name number x.0 in
          absurd (fields_apart name number shape nodes w q s.0 s.1 (t ++ r) s.2 (sym (append_assoc (node_path q number) t r) ∙ ap (λ p. p ++ r) (sym path) ∙ sym e ∙ s.3))
      by (inr k) (inl l) own rest =
          let y = in_map (within name number) (slots_in shape) b l in
          let t : Path = field_path_from (length (node_path q number)) y.0.numbers in
          let s = slot_under nodes q a k in
          let path : slot_path q b ≡ node_path q number ++ t = ap (slot_path q) y.2 ∙ slot_path-within q name number y.0 in
          absurd (fields_apart name number shape nodes w q s.0 s.1 t (s.2 ++ r) (sym path ∙ e ∙ ap (λ p. p ++ r) s.3 ∙ append_assoc (node_path q s.0.number) s.2 r))
      by (inr k) (inr l) own rest = rest k l

-- ---- what is beyond a path

-- where s isn't at p or below it, what is beyond s below p is so at p
beyond_front : (s p r : Path) → (IsBelow p s → ⊥) → IsBeyond s (p ++ r) → IsBeyond s p
beyond_front [] p r none b = absurd (beyond_all (p ++ r) b)
beyond_front (x ∷ s) [] r none b = absurd (none (x ∷ s, refl))
beyond_front (x ∷ s) (a ∷ p) r none b = by (beyond_cases x a s (p ++ r) b) (λ m c. beyond_front s p r m c)
  where
    by : (atom_cmp x a ≡ Less) ⊎ ((x ≡ a) × IsBeyond s (p ++ r)) → ((IsBelow p s → ⊥) → IsBeyond s (p ++ r) → IsBeyond s p) → IsBeyond (x ∷ s) (a ∷ p)
    by (inl less) rest = beyond_less x a s p less
    by (inr h) rest = subst (λ v. IsBeyond (x ∷ s) (v ∷ p)) h.0 (beyond_same x s p (rest (λ under. none (under.0, λ i. h.0 i ∷ under.1 i)) h.1))

-- ---- the last header of a slot

-- A path that ends with an indexed header of a level below 16.
record EndsWithHeader (q : Path) : Type 0 where
  front : Path
  level : ℕ
  number : ℕ
  few : level < 16
  is : q ≡ front ++ atom_of (Indexed level number) ∷ []

last_header : (n number : ℕ) (numbers : List ℕ) → n + length numbers < 16 → EndsWithHeader (field_path_from n (number ∷ numbers))
last_header n number [] l = record { front = []; level = n; number = number; few = omega (arith, l); is = refl }
last_header n number (other ∷ numbers) l = by (last_header (suc n) other numbers (omega (arith, l)))
  where
    by : EndsWithHeader (field_path_from (suc n) (other ∷ numbers)) → EndsWithHeader (field_path_from n (number ∷ other ∷ numbers))
    by h = record { front = atom_of (Indexed n number) ∷ h.front; level = h.level; number = h.number; few = h.few; is = ap (λ q. atom_of (Indexed n number) ∷ q) h.is }

slot_header : (numbers : List ℕ) → 0 < length numbers → length numbers ≤ LEVELS_MAX → EndsWithHeader (field_path numbers)
slot_header [] some few = absurd (omega (arith, some))
slot_header (number ∷ numbers) some few = last_header 0 number numbers (omega (arith, few))

module _ (nodes : Nodes) (t : IsTable nodes) (view : View) (list normal : List Atom) (w : IsWellFormed list) (n : IsNormalOf nodes view list normal) where
  -- a header is never superseded
  header_stays : (p : Path) (level number : ℕ) → level < 16 → IsSuperseded nodes view (PathsOf list) (p ++ atom_of (Indexed level number) ∷ []) → ⊥
  header_stays p level number l s =
      let e : (248 - 8 * level) ∷ unsigned_varint number ≡ 0 ∷ s.mine = (same_end p s.place (atom_of (Indexed level number)) (0 ∷ s.mine) s.is).1 in
      let zero_byte : 248 - 8 * level ≡ 0 = heads (248 - 8 * level) 0 (unsigned_varint number) s.mine e in
      omega arith
    where
      heads : (a b : ℕ) (x y : List ℕ) → a ∷ x ≡ b ∷ y → a ≡ b
      heads a b x y f = cc

  -- the header of a path of the list that is below one
  stays : (q p : Path) → EndsWithHeader q → IsBelow q p → PathsOf list p → PathsOf normal q
  stays q p h under there =
      subst (PathsOf normal) (sym h.is)
      ((normal_left nodes t view list normal w n h.front (248 - 8 * h.level) (unsigned_varint h.number)).1
      (front_is_path list h.front under.0 (atom_of (Indexed h.level h.number)) (subst (PathsOf list) path there), header_stays h.front h.level h.number h.few))
    where
      path : p ≡ h.front ++ atom_of (Indexed h.level h.number) ∷ under.0
      path = under.1 ∙ ap (λ x. x ++ under.0) h.is ∙ append_assoc h.front (atom_of (Indexed h.level h.number) ∷ []) under.0

  leaves : (place : ℕ) → (place < length list) × IsSuperseded nodes view (PathsOf list) (path_at list place) → LeavesItsHeader nodes view list normal place
  leaves place g = record {
    slot = s.slot;
    at = s.at;
    there = s.there;
    knows = s.knows;
    below = under;
    stays = let few = numbers_few nodes s.slot s.at t s.there in stays own (path_at list place) (slot_header s.at.numbers few.0 few.1) under (path_there list place g.0);
    beyond = λ other i b. beyond_front (field_path other.numbers) own under.0 (λ inside. apart other i b inside) (subst (IsBeyond (field_path other.numbers)) under.1 b);
  }
    where
      s : IsSuperseded nodes view (PathsOf list) (path_at list place)
      s = g.1

      own : Path
      own = field_path s.at.numbers

      under : IsBelow own (path_at list place)
      under =
          let b = HoldsData-below s.at.shape own s.keep s.place s.holds in
          (b.0 ++ (0 ∷ s.mine) ∷ [], s.is ∙ ap (λ p. datum_path p s.mine) b.1 ∙ append_assoc own b.0 ((0 ∷ s.mine) ∷ []))

      apart : (other : SlotAt) → IsIn other (slots_of nodes) → IsBeyond (field_path other.numbers) (path_at list place) → IsBelow own (field_path other.numbers) → ⊥
      apart other i b inside =
          let same : other ≡ s.at = slots_apart nodes [] s.at other inside.0 t.well_formed (get_in (slots_of nodes) s.slot s.at s.there) i inside.1 in
          b.1 (subst (λ (x : SlotAt). IsBelow (field_path x.numbers) (path_at list place)) (sym same) under)

pub gone_data_leave_headers : GoneDataLeaveHeaders
gone_data_leave_headers = λ nodes view list normal t w n place i. leaves nodes t view list normal w n place ((n.exact place).0 i)

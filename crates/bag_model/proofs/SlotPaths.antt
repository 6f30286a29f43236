-- A slot's name path is where it is reached.
use Rattle.std.proofs.Common.{◌≡◌, ◌⊎◌, inl, inr, ℕ, ◌-◌, ◌<◌, ◌≤◌, zero, suc, List, [], ◌∷◌, length, map, Option, Some, None, refl, sym, ◌∙◌, ap, subst, arith}
use Rattle.std.specs.Prelude.{◌≢◌}
use Rattle.std.specs.List.{slice_get}
use Rattle.std.specs.Option.{option_map}
use Rattle.std.proofs.lemmas.Bool.{cases_lt}
use Rattle.std.proofs.lemmas.List.{length-map}
use Rattle.std.proofs.lemmas.Option.{slice_get-map, slice_get_within}
use Rattle.bag_model.specs.Shapes.{Shape, Nodes, Taint, Scalar, Set, Counter, Map, Bag, no_node, node}
use Rattle.bag_model.specs.Slots.{SlotAt, slots_of, slots_in, slot_count, within, IsWithin, IsReached, FindsField, FindsSlot, dotted}
use Rattle.bag_model.proofs.SlotLaws.{get_front, get_back}

-- The shape is no bag.
abbrev pub IsNoBag : Shape → Type 0
IsNoBag shape = (nodes : Nodes) → shape ≢ Bag nodes

-- A slot, seen from a field: its names lead to its shape.
pub record LeadsTo (own : Shape) (place : ℕ) (slot : SlotAt) : Type 0 where
  pub within : IsWithin own slot.names place slot.shape
  pub no_bag : IsNoBag slot.shape

-- The same, seen from a bag.
pub record LeadsFrom (nodes : Nodes) (place : ℕ) (slot : SlotAt) : Type 0 where
  pub name : List ℕ
  pub names : List (List ℕ)
  pub is : slot.names ≡ name ∷ names
  pub reached : IsReached nodes name names place slot.shape
  pub no_bag : IsNoBag slot.shape

one_slot : (own : Shape) (place : ℕ) (slot : SlotAt) → IsNoBag own → slice_get (record { names = []; numbers = []; shape = own } ∷ []) place ≡ Some slot → LeadsTo own place slot
one_slot own zero slot no_bag at =
    let same : record { names = []; numbers = []; shape = own } ≡ slot = cc at in
    subst (LeadsTo own 0) same (record { within = (refl, refl); no_bag = no_bag })
one_slot own (suc place) slot no_bag at = absurd (cc at)

from_inside : (name : List ℕ) (number : ℕ) (o : Option SlotAt) (slot : SlotAt) → option_map (within name number) o ≡ Some slot → (inner : SlotAt) × (o ≡ Some inner) × (within name number inner ≡ slot)
from_inside name number None slot e = absurd (cc e)
from_inside name number (Some inner) slot e = (inner, refl, cc e)

first_or_later : (name : List ℕ) (number : ℕ) (own : Shape) (nodes : Nodes) (place : ℕ) (slot : SlotAt) → slice_get (slots_of (node name number own nodes)) place ≡ Some slot
    → ((inner : SlotAt) → slice_get (slots_in own) place ≡ Some inner → LeadsTo own place inner) → ((later : ℕ) → slice_get (slots_of nodes) later ≡ Some slot → LeadsFrom nodes later slot)
    → LeadsFrom (node name number own nodes) place slot
first_or_later name number own nodes place slot at inside behind = by (cases_lt place (slot_count own))
  where
    front : List SlotAt
    front = map (within name number) (slots_in own)

    long : length front ≡ slot_count own
    long = length-map (slots_in own) (within name number)

    by : (place < slot_count own) ⊎ (slot_count own ≤ place) → LeadsFrom (node name number own nodes) place slot
    by (inl less) =
        let found = from_inside name number (slice_get (slots_in own) place) slot (sym (slice_get-map (within name number) (slots_in own) place) ∙ (sym (get_front front (slots_of nodes) place (omega (arith, less, long))) ∙ at)) in
        let r = inside found.0 found.1 in
        subst (LeadsFrom (node name number own nodes) place) found.2 (record { name = name; names = found.0.names; is = refl; reached = inl (refl, r.within); no_bag = r.no_bag })
    by (inr more) =
        let r = behind (place - slot_count own) (sym (get_back front (slots_of nodes) place (place - slot_count own) (omega (arith, more, long))) ∙ at) in
        record { name = r.name; names = r.names; is = r.is; reached = inr (place - slot_count own, omega (arith, more), r.reached); no_bag = r.no_bag }

mutual
  pub slot_leads : (nodes : Nodes) (place : ℕ) (slot : SlotAt) → slice_get (slots_of nodes) place ≡ Some slot → LeadsFrom nodes place slot
  slot_leads no_node place slot at = absurd (cc at)
  slot_leads (node name number own nodes) place slot at =
      first_or_later name number own nodes place slot at (λ inner found. inside_leads own place inner found) (λ later found. slot_leads nodes later slot found)

  pub inside_leads : (own : Shape) (place : ℕ) (slot : SlotAt) → slice_get (slots_in own) place ≡ Some slot → LeadsTo own place slot
  inside_leads (Bag nodes) place slot at =
      let r = slot_leads nodes place slot at in
      record { within = subst (λ (names : List (List ℕ)). IsWithin (Bag nodes) names place slot.shape) (sym r.is) r.reached; no_bag = r.no_bag }
  inside_leads Taint place slot at = one_slot Taint place slot (λ nodes e. cc e) at
  inside_leads (Scalar pick kind) place slot at = one_slot (Scalar pick kind) place slot (λ nodes e. cc e) at
  inside_leads (Set kind) place slot at = one_slot (Set kind) place slot (λ nodes e. cc e) at
  inside_leads Counter place slot at = one_slot Counter place slot (λ nodes e. cc e) at
  inside_leads (Map key value) place slot at = one_slot (Map key value) place slot (λ nodes e. cc e) at

-- A slot with these names.
pub record HasSlot (slots : List SlotAt) (names : List (List ℕ)) (place : ℕ) : Type 0 where
  pub slot : SlotAt
  pub at : slice_get slots place ≡ Some slot
  pub named : slot.names ≡ names

single : (own : Shape) (place : ℕ) → place ≡ 0 → HasSlot (record { names = []; numbers = []; shape = own } ∷ []) [] place
single own place is = record { slot = record { names = []; numbers = []; shape = own }; at = ap (slice_get (record { names = []; numbers = []; shape = own } ∷ [])) is; named = refl }

mutual
  pub reached_slot : (nodes : Nodes) (name : List ℕ) (names : List (List ℕ)) (before : ℕ) (shape : Shape) → IsReached nodes name names before shape → IsNoBag shape → HasSlot (slots_of nodes) (name ∷ names) before
  reached_slot no_node name names before shape h no_bag = absurd h
  reached_slot (node field number own nodes) name names before shape (inl (is, h)) no_bag =
      let r = inside_slot own names before shape h no_bag in
      let less : before < slot_count own = slice_get_within (slots_in own) before r.slot r.at in
      record {
        slot = within field number r.slot;
        at =
            get_front (map (within field number) (slots_in own)) (slots_of nodes) before (omega (arith, less, length-map (slots_in own) (within field number)))
            ∙ slice_get-map (within field number) (slots_in own) before ∙ ap (option_map (within field number)) r.at;
        named = λ i. sym is i ∷ r.named i;
      }
  reached_slot (node field number own nodes) name names before shape (inr (behind, is, h)) no_bag =
      let r = reached_slot nodes name names behind shape h no_bag in
      record {
        slot = r.slot;
        at = get_back (map (within field number) (slots_in own)) (slots_of nodes) before behind (omega (arith, is, length-map (slots_in own) (within field number))) ∙ r.at;
        named = r.named;
      }

  inside_slot : (own : Shape) (names : List (List ℕ)) (before : ℕ) (shape : Shape) → IsWithin own names before shape → IsNoBag shape → HasSlot (slots_in own) names before
  inside_slot (Bag nodes) [] before shape h no_bag = absurd (no_bag nodes h.1)
  inside_slot Taint [] before shape h no_bag = single Taint before h.0
  inside_slot (Scalar pick kind) [] before shape h no_bag = single (Scalar pick kind) before h.0
  inside_slot (Set kind) [] before shape h no_bag = single (Set kind) before h.0
  inside_slot Counter [] before shape h no_bag = single Counter before h.0
  inside_slot (Map key value) [] before shape h no_bag = single (Map key value) before h.0
  inside_slot (Bag nodes) (name ∷ names) before shape h no_bag = reached_slot nodes name names before shape h no_bag
  inside_slot Taint (name ∷ names) before shape h no_bag = absurd h
  inside_slot (Scalar pick kind) (name ∷ names) before shape h no_bag = absurd h
  inside_slot (Set kind) (name ∷ names) before shape h no_bag = absurd h
  inside_slot Counter (name ∷ names) before shape h no_bag = absurd h
  inside_slot (Map key value) (name ∷ names) before shape h no_bag = absurd h

-- What a path finds that is no bag is a slot.
pub finds_slot : (nodes : Nodes) (path : List ℕ) (before : ℕ) (shape : Shape) → IsNoBag shape → FindsField nodes path (Some (before, shape)) → FindsSlot nodes path (Some before)
finds_slot nodes path before shape no_bag found =
    let r = reached_slot nodes found.0 found.1 before shape found.3 no_bag in
    (r.slot, r.at, ap dotted r.named ∙ found.2)

-- Where a path finds nothing, no slot has it.
pub finds_no_slot : (nodes : Nodes) (path : List ℕ) → FindsField nodes path None → FindsSlot nodes path None
finds_no_slot nodes path none place slot at is =
    let r = slot_leads nodes place slot at in
    none r.name r.names place slot.shape r.reached (ap dotted (sym r.is) ∙ is)

-- A slot of a table has a number for each level down to it.
use Rattle.std.proofs.Common.{◌≡◌, ◌⊎◌, inl, inr, ℕ, zero, suc, ◌+◌, ◌-◌, ◌<◌, ◌≤◌, List, [], ◌∷◌, length, map, Option, Some, None, refl, sym, ◌∙◌, subst, arith}
use Rattle.std.specs.List.{slice_get}
use Rattle.std.specs.Option.{option_map}
use Rattle.std.proofs.lemmas.Bool.{cases_lt}
use Rattle.std.proofs.lemmas.List.{length-map}
use Rattle.std.proofs.lemmas.Option.{slice_get-map}
use Rattle.context_model.specs.declared.TheConstants.{LEVELS_MAX}
use Rattle.bag_model.specs.Shapes.{Shape, Nodes, Taint, Scalar, Set, Counter, Map, Bag, no_node, node}
use Rattle.bag_model.specs.Slots.{SlotAt, slots_of, slots_in, slot_count, within}
use Rattle.bag_model.specs.Tables.{levels, levels_under, IsTable}
use Rattle.bag_model.proofs.SlotLaws.{get_front, get_back}

-- A slot of the first field of a bag, seen from the field.
pub record IsInFirst (name : List ℕ) (number : ℕ) (own : Shape) (place : ℕ) (slot : SlotAt) : Type 0 where
  pub inner : SlotAt
  pub at : slice_get (slots_in own) place ≡ Some inner
  pub is : within name number inner ≡ slot

-- A slot of a later field, seen from the fields after the first.
pub record IsLater (own : Shape) (nodes : Nodes) (place : ℕ) (slot : SlotAt) : Type 0 where
  pub behind : ℕ
  pub counted : place ≡ slot_count own + behind
  pub at : slice_get (slots_of nodes) behind ≡ Some slot

within_some : (name : List ℕ) (number : ℕ) (own : Shape) (place : ℕ) (slot : SlotAt) (o : Option SlotAt) → slice_get (slots_in own) place ≡ o → option_map (within name number) o ≡ Some slot → IsInFirst name number own place slot
within_some name number own place slot None is e = absurd (cc e)
within_some name number own place slot (Some inner) is e = record { inner = inner; at = is; is = cc e }

-- A slot is one of the first field, or of a later one.
pub first_or_later : (name : List ℕ) (number : ℕ) (own : Shape) (nodes : Nodes) (place : ℕ) (slot : SlotAt) → slice_get (slots_of (node name number own nodes)) place ≡ Some slot
    → IsInFirst name number own place slot ⊎ IsLater own nodes place slot
first_or_later name number own nodes place slot at = by (cases_lt place (slot_count own))
  where
    front : List SlotAt
    front = map (within name number) (slots_in own)

    long : length front ≡ slot_count own
    long = length-map (slots_in own) (within name number)

    by : (place < slot_count own) ⊎ (slot_count own ≤ place) → IsInFirst name number own place slot ⊎ IsLater own nodes place slot
    by (inl less) = inl (within_some name number own place slot (slice_get (slots_in own) place) refl
        (sym (slice_get-map (within name number) (slots_in own) place) ∙ (sym (get_front front (slots_of nodes) place (omega (arith, less, long))) ∙ at)))
    by (inr more) = inr (record {
      behind = place - slot_count own;
      counted = omega (arith, more);
      at = sym (get_back front (slots_of nodes) place (place - slot_count own) (omega (arith, more, long))) ∙ at;
    })

alone_few : (own : Shape) (k : ℕ) (at : SlotAt) → slice_get (record { names = []; numbers = []; shape = own } ∷ []) k ≡ Some at → length at.numbers ≤ 0
alone_few own zero at e =
    let same : record { names = []; numbers = []; shape = own } ≡ at = cc e in
    subst (λ (s : SlotAt). length s.numbers ≤ 0) same (omega arith)
alone_few own (suc k) at e = absurd (cc e)

one_of : (name : List ℕ) (number : ℕ) (own : Shape) (nodes : Nodes) (k : ℕ) (at : SlotAt) → IsInFirst name number own k at ⊎ IsLater own nodes k at
    → ((inner : SlotAt) → slice_get (slots_in own) k ≡ Some inner → length inner.numbers ≤ levels_under own)
    → ((behind : ℕ) → slice_get (slots_of nodes) behind ≡ Some at → (0 < length at.numbers) × (length at.numbers ≤ levels nodes))
    → (0 < length at.numbers) × (length at.numbers ≤ levels (node name number own nodes))
one_of name number own nodes k at (inl f) inside later =
    let bound = inside f.inner f.at in
    subst (λ (s : SlotAt). (0 < length s.numbers) × (length s.numbers ≤ levels (node name number own nodes))) f.is (omega arith, omega (arith, bound))
one_of name number own nodes k at (inr l) inside later = let r = later l.behind l.at in (r.0, omega (arith, r.1))

mutual
  some_upto : (nodes : Nodes) (k : ℕ) (at : SlotAt) → slice_get (slots_of nodes) k ≡ Some at → (0 < length at.numbers) × (length at.numbers ≤ levels nodes)
  some_upto no_node k at e = absurd (cc e)
  some_upto (node name number own nodes) k at e = one_of name number own nodes k at (first_or_later name number own nodes k at e) (λ inner found. inside_upto own k inner found) (λ behind found. some_upto nodes behind at found)

  inside_upto : (own : Shape) (k : ℕ) (at : SlotAt) → slice_get (slots_in own) k ≡ Some at → length at.numbers ≤ levels_under own
  inside_upto (Bag nodes) k at e = (some_upto nodes k at e).1
  inside_upto Taint k at e = alone_few Taint k at e
  inside_upto (Scalar pick kind) k at e = alone_few (Scalar pick kind) k at e
  inside_upto (Set kind) k at e = alone_few (Set kind) k at e
  inside_upto Counter k at e = omega (arith, alone_few Counter k at e)
  inside_upto (Map key value) k at e = omega (arith, alone_few (Map key value) k at e)

-- A slot of a table has 1 to 16 numbers.
pub numbers_few : (nodes : Nodes) (k : ℕ) (at : SlotAt) → IsTable nodes → slice_get (slots_of nodes) k ≡ Some at → (0 < length at.numbers) × (length at.numbers ≤ LEVELS_MAX)
numbers_few nodes k at table e = let r = some_upto nodes k at e in (r.0, omega (arith, r.1, table.shallow))

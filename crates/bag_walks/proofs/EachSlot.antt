-- What is found of each slot of a table, field by field.
use Rattle.std.proofs.Common.{◌≡◌, ℕ, zero, suc, List, [], ◌∷◌, ◌++◌, map, length, slice_get, Some, sym, refl, ap, ◌∙◌, subst, arith, append_assoc}
use Rattle.std.proofs.lemmas.List.{append-nil, length-append}
use Rattle.context_model.specs.Ended.{field_path_from}
use Rattle.context_model.specs.Kinds.{atom_of}
use Rattle.context_model.specs.Kinds.Kind.{Indexed}
use Rattle.context_model.specs.Orders.{Path}
use Rattle.bag_model.specs.Readings.{node_path}
use Rattle.bag_model.specs.Shapes.{Shape}
use Rattle.bag_model.specs.Slots.{SlotAt, within}
use Rattle.bag_walks.specs.Slots.{slot_path, AreEach, AddsEach}

-- Seen from a bag, the path of a slot within a field begins with that of the field.
pub slot_path-within : (q : Path) (name : List ℕ) (number : ℕ) (slot : SlotAt) → slot_path (node_path q number) slot ≡ slot_path q (within name number slot)
slot_path-within q name number slot =
    append_assoc q (atom_of (Indexed (length q) number) ∷ []) (field_path_from (length (node_path q number)) slot.numbers)
    ∙ ap (λ n. q ++ atom_of (Indexed (length q) number) ∷ field_path_from n slot.numbers) (let e = length-append q (atom_of (Indexed (length q) number) ∷ []) in let f : length (node_path q number) ≡ suc (length q) = omega (arith, e) in f)

module _ {X : Type 0} (R : Path → Shape → X → Type 0) where
  pub each-append : (some others : List SlotAt) (q : Path) (xs ys : List X) → AreEach R some q xs → AreEach R others q ys → AreEach R (some ++ others) q (xs ++ ys)
  each-append [] others q [] ys e f = f
  each-append [] others q (x ∷ xs) ys e f = absurd e
  each-append (slot ∷ some) others q [] ys e f = absurd e
  each-append (slot ∷ some) others q (x ∷ xs) ys e f = (e.0, each-append some others q xs ys e.1 f)

  pub each-within : (slots : List SlotAt) (q : Path) (name : List ℕ) (number : ℕ) (xs : List X) → AreEach R slots (node_path q number) xs → AreEach R (map (within name number) slots) q xs
  each-within [] q name number [] e = tt
  each-within [] q name number (x ∷ xs) e = absurd e
  each-within (slot ∷ slots) q name number [] e = absurd e
  each-within (slot ∷ slots) q name number (x ∷ xs) e = (subst (λ p. R p slot.shape x) (slot_path-within q name number slot) e.0, each-within slots q name number xs e.1)

  pub each-count : (slots : List SlotAt) (q : Path) (xs : List X) → AreEach R slots q xs → length xs ≡ length slots
  each-count [] q [] e = refl
  each-count [] q (x ∷ xs) e = absurd e
  each-count (slot ∷ slots) q [] e = absurd e
  each-count (slot ∷ slots) q (x ∷ xs) e = ap suc (each-count slots q xs e.1)

  -- What was found of a slot by its place.
  pub each-at : (slots : List SlotAt) (q : Path) (xs : List X) (i : ℕ) (slot : SlotAt) → AreEach R slots q xs → slice_get slots i ≡ Some slot → (x : X) × (slice_get xs i ≡ Some x) × R (slot_path q slot) slot.shape x
  each-at [] q xs i slot e is = cc
  each-at (other ∷ slots) q [] i slot e is = absurd e
  each-at (other ∷ slots) q (x ∷ xs) zero slot e is = let same : other ≡ slot = cc in subst (λ s. (y : X) × (slice_get (x ∷ xs) zero ≡ Some y) × R (slot_path q s) s.shape y) same (x, refl, e.0)
  each-at (other ∷ slots) q (x ∷ xs) (suc i) slot e is = each-at slots q xs i slot e.1 is

  -- ---- added one after another

  pub adds-none : (q : Path) (xs : List X) → AddsEach R [] q xs xs
  adds-none q xs = record { new = []; appended = sym (append-nil xs); each = tt }

  pub adds-append : (some others : List SlotAt) (q : Path) (xs ys zs : List X) → AddsEach R some q xs ys → AddsEach R others q ys zs → AddsEach R (some ++ others) q xs zs
  adds-append some others q xs ys zs a b = record {
    new = a.new ++ b.new;
    appended = b.appended ∙ ap (λ l. l ++ b.new) a.appended ∙ append_assoc xs a.new b.new;
    each = each-append some others q a.new b.new a.each b.each;
  }

  pub adds-within : (slots : List SlotAt) (q : Path) (name : List ℕ) (number : ℕ) (xs ys : List X) → AddsEach R slots (node_path q number) xs ys → AddsEach R (map (within name number) slots) q xs ys
  adds-within slots q name number xs ys a = record { new = a.new; appended = a.appended; each = each-within slots q name number a.new a.each }

  -- One slot that is the field itself.
  pub adds-one : (shape : Shape) (q : Path) (xs : List X) (x : X) → R q shape x → AddsEach R (record { names = []; numbers = []; shape = shape } ∷ []) q xs (xs ++ x ∷ [])
  adds-one shape q xs x r = record { new = x ∷ []; appended = refl; each = (subst (λ p. R p shape x) (sym (append-nil q)) r, tt) }

-- The slots of a bag, field by field.
use Rattle.std.proofs.Common.{◌≡◌, ℕ, ◌+◌, ◌<◌, ◌≤◌, zero, suc, List, [], ◌∷◌, ◌++◌, length, map, Some, refl, sym, ◌∙◌, ap, subst, arith}
use Rattle.std.specs.List.{slice_get}
use Rattle.std.specs.Option.{option_map}
use Rattle.std.proofs.lemmas.Option.{slice_get-map}
use Rattle.std.proofs.lemmas.List.{length-append, length-map}
use Rattle.bag_model.specs.Shapes.{Shape, Nodes, Field, fields, nodes_from, no_node, node, Taint, Scalar, Set, Counter, Map, Bag}
use Rattle.bag_model.specs.Tables.{nodes_under, node_count}
use Rattle.bag_model.specs.Slots.{SlotAt, slots_of, slots_in, slot_count, starts, within}

-- The slots of a list of fields.
abbrev pub slots_list : List Field → List SlotAt
slots_list [] = []
slots_list (f ∷ fs) = map (within f.name f.number) (slots_in f.shape) ++ slots_list fs

pub slots_of-list : (nodes : Nodes) → slots_of nodes ≡ slots_list (fields nodes)
slots_of-list no_node = refl
slots_of-list (node name number shape nodes) = ap (λ l. map (within name number) (slots_in shape) ++ l) (slots_of-list nodes)

pub from-fields : (nodes : Nodes) → nodes_from (fields nodes) ≡ nodes
from-fields no_node = refl
from-fields (node name number shape nodes) = ap (node name number shape) (from-fields nodes)

pub starts-zero : (fs : List Field) → starts fs 0 ≡ 0
starts-zero [] = refl
starts-zero (f ∷ fs) = refl

pub length-slots : (f : Field) (fs : List Field) → length (slots_list (f ∷ fs)) ≡ slot_count f.shape + length (slots_list fs)
length-slots f fs =
    length-append (map (within f.name f.number) (slots_in f.shape)) (slots_list fs) ∙ ap (λ n. n + length (slots_list fs)) (length-map (slots_in f.shape) (within f.name f.number))

pub starts-bound : (fs : List Field) (i : ℕ) → starts fs i ≤ length (slots_list fs)
starts-bound [] i = omega arith
starts-bound (f ∷ fs) zero = omega arith
starts-bound (f ∷ fs) (suc i) = omega (arith, starts-bound fs i, length-slots f fs)

pub starts-all : (fs : List Field) (i : ℕ) → length fs ≤ i → starts fs i ≡ length (slots_list fs)
starts-all [] i h = refl
starts-all (f ∷ fs) zero h = absurd (omega (arith, h))
starts-all (f ∷ fs) (suc i) h = omega (arith, starts-all fs i (omega (arith, h)), length-slots f fs)

pub get_front : {A : Type 0} (xs ys : List A) (i : ℕ) → i < length xs → slice_get (xs ++ ys) i ≡ slice_get xs i
get_front [] ys i h = absurd (omega (arith, h))
get_front (x ∷ xs) ys zero h = refl
get_front (x ∷ xs) ys (suc i) h = get_front xs ys i (omega (arith, h))

pub get_back : {A : Type 0} (xs ys : List A) (i k : ℕ) → i ≡ length xs + k → slice_get (xs ++ ys) i ≡ slice_get ys k
get_back [] ys i k is = ap (slice_get ys) (omega (arith, is))
get_back (x ∷ xs) ys zero k is = absurd (omega (arith, is))
get_back (x ∷ xs) ys (suc i) k is = get_back xs ys i k (omega (arith, is))

-- A slot of the field at a place.
pub slot_there : (fs : List Field) (i : ℕ) (f : Field) (slot inside : ℕ) → slice_get fs i ≡ Some f → slot ≡ starts fs i + inside → inside < slot_count f.shape
    → slice_get (slots_list fs) slot ≡ option_map (within f.name f.number) (slice_get (slots_in f.shape) inside)
slot_there [] i f slot inside at is within_it = absurd (cc at)
slot_there (g ∷ gs) zero f slot inside at is within_it =
    let same : f ≡ g = cc (sym at) in
    let here : slot ≡ inside = omega (arith, is) in
    let P : Field → Type 0 = λ h. slice_get (slots_list (g ∷ gs)) slot ≡ option_map (within h.name h.number) (slice_get (slots_in h.shape) inside) in
    let Q : Field → Type 0 = λ h. inside < slot_count h.shape in
    subst P (sym same) (
    get_front (map (within g.name g.number) (slots_in g.shape)) (slots_list gs) slot (omega (arith, is, subst Q same within_it, length-map (slots_in g.shape) (within g.name g.number)))
    ∙ slice_get-map (within g.name g.number) (slots_in g.shape) slot ∙ ap (λ n. option_map (within g.name g.number) (slice_get (slots_in g.shape) n)) here
    )
slot_there (g ∷ gs) (suc i) f slot inside at is within_it =
    get_back (map (within g.name g.number) (slots_in g.shape)) (slots_list gs) slot (starts gs i + inside) (omega (arith, is, length-map (slots_in g.shape) (within g.name g.number)))
    ∙ slot_there gs i f (starts gs i + inside) inside at refl within_it

-- There are no more slots than fields.
mutual
  pub slots_few : (nodes : Nodes) → length (slots_of nodes) ≤ node_count nodes
  slots_few no_node = omega arith
  slots_few (node name number shape nodes) =
      omega (arith, slots_in_few shape, slots_few nodes, length-append (map (within name number) (slots_in shape)) (slots_of nodes), length-map (slots_in shape) (within name number))

  slots_in_few : (shape : Shape) → slot_count shape ≤ 1 + nodes_under shape
  slots_in_few (Bag nodes) = omega (arith, slots_few nodes)
  slots_in_few Taint = omega arith
  slots_in_few (Scalar pick kind) = omega arith
  slots_in_few (Set kind) = omega arith
  slots_in_few Counter = omega arith
  slots_in_few (Map key value) = omega arith

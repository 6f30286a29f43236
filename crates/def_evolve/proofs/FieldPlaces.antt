-- The fields of a bag from a place on, and the field at a place as the code has it.
use Rattle.std.proofs.Common.{◌≡◌, ◌≢◌, inl, inr, ℕ, zero, suc, ◌+◌, ◌<◌, ◌≤◌, List, [], ◌∷◌, length, Option, Some, None, IsSome, Bor, refl, sym, ap, ◌∙◌, subst, arith, add-one}
use Rattle.std.specs.List.{slice_get}
use Rattle.std.specs.Option.{option_map}
use Rattle.context_model.specs.Orders.{IsIn}
use Rattle.context_model.proofs.GreedyElements.{All-at}
use Rattle.bag_model.specs.Shapes.{Nodes, Field, fields, no_node, node}
use Rattle.bag_model.specs.Sizes.{shape_size, nodes_size}
use Rattle.bag_model.specs.Tables.{IsShape, AreFields}
use Rattle.bag_model.proofs.PathLaws.{is_field}
use Rattle.bag_model.proofs.SizeLaws.{size_at}
use Rattle.field_table.specs.Tables.{FindsNumber}
use Rattle.field_table.specs.Plain.{nodes_of, field_of, shape_of}
use Rattle.field_table.specs.declared.shapes.Slot.{Slot}
use Rattle.field_table.specs.declared.shapes.Slots.{Slots}
use Rattle.field_table.proofs.Held.{field_is}
use Rattle.def_evolve.proofs.OneVerdict.{one_field}

-- ---- from a place on

abbrev pub nodes_from_place : ℕ → Nodes → Nodes
nodes_from_place zero nodes = nodes
nodes_from_place (suc i) no_node = no_node
nodes_from_place (suc i) (node name number shape nodes) = nodes_from_place i nodes

pub node_there : (nodes : Nodes) (i : ℕ) (f : Field) → slice_get (fields nodes) i ≡ Some f → nodes_from_place i nodes ≡ node f.name f.number f.shape (nodes_from_place (i + 1) nodes)
node_there nodes i f at = by nodes i at ∙ ap (λ n. node f.name f.number f.shape (nodes_from_place n nodes)) (sym (add-one i))
  where
    by : (nodes : Nodes) (i : ℕ) → slice_get (fields nodes) i ≡ Some f → nodes_from_place i nodes ≡ node f.name f.number f.shape (nodes_from_place (suc i) nodes)
    by no_node i at = absurd (cc at)
    by (node name number shape nodes) zero at =
        let same : record { name = name; number = number; shape = shape } ≡ f = cc at in
        ap (λ (g : Field). node g.name g.number g.shape nodes) same
    by (node name number shape nodes) (suc i) at = by nodes i at

pub nodes_end : (nodes : Nodes) (i : ℕ) → length (fields nodes) ≤ i → nodes_from_place i nodes ≡ no_node
nodes_end no_node zero l = refl
nodes_end no_node (suc i) l = refl
nodes_end (node name number shape nodes) zero l = absurd (omega (arith, l))
nodes_end (node name number shape nodes) (suc i) l = nodes_end nodes i (omega (arith, l))

pub fields_from_place : (nodes : Nodes) (i : ℕ) → AreFields nodes → AreFields (nodes_from_place i nodes)
fields_from_place nodes zero ok = ok
fields_from_place no_node (suc i) ok = tt
fields_from_place (node name number shape nodes) (suc i) ok = fields_from_place nodes i ok.4

-- The field at a place is among them, and those after it have greater numbers.
pub get_in : (fs : List Field) (i : ℕ) (f : Field) → slice_get fs i ≡ Some f → IsIn f fs
get_in [] i f e = absurd (cc e)
get_in (g ∷ fs) zero f e = let same : g ≡ f = cc in inl (sym same)
get_in (g ∷ fs) (suc i) f e = inr (get_in fs i f e)

pub in_place : (fs : List Field) (f : Field) → IsIn f fs → (i : ℕ) × (slice_get fs i ≡ Some f)
in_place [] f i = elim i [ ]
in_place (g ∷ fs) f (inl e) = (zero, ap Some (sym e))
in_place (g ∷ fs) f (inr i) = let s = in_place fs f i in (suc s.0, s.1)

pub later_number : (nodes : Nodes) (i : ℕ) (f g : Field) → AreFields nodes → slice_get (fields nodes) i ≡ Some f → IsIn g (fields (nodes_from_place (i + 1) nodes)) → f.number < g.number
later_number nodes i f g ok at j =
    let rest = subst AreFields (node_there nodes i f at) (fields_from_place nodes i ok) in
    (All-at (λ (other : Field). (f.number < other.number) × (f.name ≢ other.name)) (fields (nodes_from_place (i + 1) nodes)) g rest.3 j).0

-- ---- the field with a number

-- Where no field is found, none has the number.
pub none_numbered : (nodes : Nodes) (number : ℕ) (g : Field) → FindsNumber (fields nodes) number None → IsIn g (fields nodes) → g.number ≢ number
none_numbered nodes number g none i = let s = in_place (fields nodes) g i in none s.0 g s.1

-- The field that is found is the one with the number.
pub one_numbered : (nodes : Nodes) (number place : ℕ) (f g : Field) → AreFields nodes → FindsNumber (fields nodes) number (Some (place, f)) → IsIn g (fields nodes) → g.number ≡ number → g ≡ f
one_numbered nodes number place f g ok found i e = one_field nodes g f ok i (get_in (fields nodes) place f found.0) (e ∙ sym found.1)

-- ---- as the code has it

-- There is one at each place that is less than how many there are.
no_gap : (fs : List Field) (i : ℕ) → None ≡ slice_get fs i → i < length fs → ⊥
no_gap [] i e within = omega arith
no_gap (f ∷ fs) zero e within = cc
no_gap (f ∷ fs) (suc i) e within = no_gap fs i e (omega (arith, within))

-- The field as its parts are seen.
abbrev pub opened : Slot → Field
opened x = record { name = x.name; number = x.number; shape = shape_of x.shape }

-- What `get` answers is the field at the place.
abbrev pub Gets : Slots → ℕ → Option (Bor Slot) → Type 0
Gets slots i got = option_map (λ (found : Bor Slot). field_of found.now) got ≡ slice_get (fields (nodes_of slots)) i

pub field_at : (slots : Slots) (i : ℕ) (got : Option (Bor Slot)) (x : Bor Slot) → Gets slots i got → got ≡ Some x → slice_get (fields (nodes_of slots)) i ≡ Some (opened x.now)
field_at slots i got x gets is = sym gets ∙ ap (option_map (λ (found : Bor Slot). field_of found.now)) is ∙ ap Some (field_is x.now)

pub field_smaller : (slots : Slots) (i : ℕ) (got : Option (Bor Slot)) (x : Bor Slot) → Gets slots i got → got ≡ Some x → 1 + shape_size (shape_of x.now.shape) ≤ nodes_size (nodes_of slots)
field_smaller slots i got x gets is = size_at (nodes_of slots) i (opened x.now) (field_at slots i got x gets is)

pub field_there : (slots : Slots) (i : ℕ) (got : Option (Bor Slot)) → Gets slots i got → i < length (fields (nodes_of slots)) → IsSome got
field_there slots i (Some x) gets within = refl
field_there slots i None gets within = absurd (no_gap (fields (nodes_of slots)) i gets within)

-- What `find_number` answers is the field with the number.
pub found_open : (list : List Field) (asked number place : ℕ) (x : Slot) → asked ≡ number → FindsNumber list asked (Some (place, field_of x)) → FindsNumber list number (Some (place, opened x))
found_open list asked number place x e found =
    subst (λ (f : Field). FindsNumber list number (Some (place, f))) (field_is x) (subst (λ n. FindsNumber list n (Some (place, field_of x))) e found)

pub none_open : (list : List Field) (asked number : ℕ) → asked ≡ number → FindsNumber list asked None → FindsNumber list number None
none_open list asked number e none = subst (λ n. FindsNumber list n None) e none

-- The shape of what is found is one of a table.
pub found_shape : (nodes : Nodes) (number place : ℕ) (f : Field) → AreFields nodes → FindsNumber (fields nodes) number (Some (place, f)) → IsShape f.shape
found_shape nodes number place f ok found = (is_field nodes place f ok found.0).1

-- The slots of a table, and their shapes.
use Rattle.std.proofs.Common.{◌≡◌, ℕ, zero, suc, ◌<◌, List, [], ◌∷◌, ◌++◌, length, map, Some, refl, ap, ◌∙◌, subst, arith}
use Rattle.std.specs.List.{slice_get, AllByRecursion}
use Rattle.std.specs.Option.{option_map}
use Rattle.bag_model.specs.Shapes.{Shape, Nodes, no_node, node}
use Rattle.bag_model.specs.Slots.{SlotAt, slots_of, slots_in, within}
use Rattle.bag_model.specs.SlotValues.{HasSlot}
use Rattle.bag_model.specs.Tables.{IsShape, AreFields}

-- The slot's shape is sound.
abbrev pub HasShape : SlotAt → Type 0
HasShape at = IsShape at.shape

shapes_within : (name : List ℕ) (number : ℕ) (slots : List SlotAt) → AllByRecursion HasShape slots → AllByRecursion HasShape (map (within name number) slots)
shapes_within name number [] all = tt
shapes_within name number (at ∷ slots) all = (all.0, shapes_within name number slots all.1)

shapes_both : (front back : List SlotAt) → AllByRecursion HasShape front → AllByRecursion HasShape back → AllByRecursion HasShape (front ++ back)
shapes_both [] back p q = q
shapes_both (at ∷ front) back p q = (p.0, shapes_both front back p.1 q)

mutual
  shapes_in : (shape : Shape) → IsShape shape → AllByRecursion HasShape (slots_in shape)
  shapes_in Shape.Taint s = (s, tt)
  shapes_in (Shape.Scalar pick kind) s = (s, tt)
  shapes_in (Shape.Set kind) s = (s, tt)
  shapes_in Shape.Counter s = (s, tt)
  shapes_in (Shape.Map key shape) s = (s, tt)
  shapes_in (Shape.Bag nodes) s = shapes_of nodes s

  shapes_of : (nodes : Nodes) → AreFields nodes → AllByRecursion HasShape (slots_of nodes)
  shapes_of no_node s = tt
  shapes_of (node name number shape nodes) s = shapes_both (map (within name number) (slots_in shape)) (slots_of nodes) (shapes_within name number (slots_in shape) (shapes_in shape s.2)) (shapes_of nodes s.4)

shape_at : (slots : List SlotAt) (place : ℕ) (at : SlotAt) → AllByRecursion HasShape slots → slice_get slots place ≡ Some at → IsShape at.shape
shape_at [] place at all is = absurd (cc is)
shape_at (own ∷ slots) zero at all is = let same : own ≡ at = cc is in subst HasShape same all.0
shape_at (own ∷ slots) (suc place) at all is = shape_at slots place at all.1 is

pub slot_shape : (nodes : Nodes) (place : ℕ) (at : SlotAt) → AreFields nodes → HasSlot nodes place at → IsShape at.shape
slot_shape nodes place at s there = shape_at (slots_of nodes) place at (shapes_of nodes s) there

-- ---- what is said of a slot by its number

pub found : {A : Type 0} (xs : List A) (place : ℕ) → place < length xs → (x : A) × (slice_get xs place ≡ Some x)
found [] place within = absurd (omega (arith, within))
found (x ∷ xs) zero within = (x, refl)
found (x ∷ xs) (suc place) within = found xs place (omega (arith, within))

-- There is a slot with a number below that of all slots.
pub slot_there : (nodes : Nodes) (slot : ℕ) → slot < length (slots_of nodes) → (at : SlotAt) × HasSlot nodes slot at
slot_there nodes slot within = found (slots_of nodes) slot within

-- What is said of the slot with a number is that of the slot that is found.
pub told : {B : Type 0} (part : SlotAt → B) (nodes : Nodes) (slot : ℕ) (at : SlotAt) (b : B) → HasSlot nodes slot at
    → Some b ≡ option_map part (slice_get (slots_of nodes) slot) → b ≡ part at
told part nodes slot at b there is = same b (part at) (is ∙ ap (option_map part) there)
  where
    same : {C : Type 0} (x y : C) → Some x ≡ Some y → x ≡ y
    same x y e = cc

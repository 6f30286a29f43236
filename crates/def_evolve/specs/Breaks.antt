-- Which fields of an old table may not become what a new table says, and which of them is the
-- first.
use Rattle.std.specs.Prelude.{◌≡◌, ◌≢◌, ℕ, ◌+◌, List, [], ◌∷◌, map, codes}
use Rattle.std.specs.Fmt.{decimal}
use Rattle.std.specs.declared.cmp.Ordering.{Ordering}
use Rattle.std.specs.declared.cmp.Ordering.TheVariants.{Greater}
use Rattle.std.specs.Ordering.{nat_cmp, on}
use Rattle.std.specs.Cmp.Lexicographic.{slice_cmp}
use Rattle.context_model.specs.Orders.{IsIn}
use Rattle.bag_model.specs.declared.Pick.TheVariants.{Least, Greatest}
use Rattle.bag_model.specs.Shapes.{Shape, Nodes, Field, Taint, Scalar, Set, Counter, Map, Bag, fields}
use Rattle.bag_model.specs.Slots.{dotted}
use Rattle.def_evolve.specs.declared.verdicts.Change.{Change}
use Rattle.def_evolve.specs.declared.verdicts.Change.TheVariants as changes
use Rattle.def_evolve.specs.declared.verdicts.Part.{Part}
use Rattle.def_evolve.specs.declared.verdicts.Part.TheVariants.{Number, MapValue}
use Rattle.def_evolve.specs.Widening.{Widens}

-- ---- ways

-- The values of a map come first, and then the fields of a bag by number.
abbrev pub part_rank : Part → ℕ
part_rank (Number number) = number + 1
part_rank MapValue = 0

-- Ways are compared part by part, and each comes before the longer ones that begin with it.
abbrev pub way_cmp : List Part → List Part → Ordering
way_cmp = slice_cmp (on part_rank nat_cmp)

-- A number in decimal, and a star for the values of a map.
abbrev pub part_text : Part → List ℕ
part_text (Number number) = decimal number
part_text MapValue = codes "*"

-- The parts joined by dots.
abbrev pub way_text : List Part → List ℕ
way_text way = dotted (map part_text way)

-- The step leads from a field of the first shape to one of the second: to a field of a bag, or to
-- the values of a map.
abbrev pub StepsTo : Shape → Part → Shape → Type 0
StepsTo (Bag nodes) (Number number) shape =
    (field : Field) × IsIn field (fields nodes) × (field.number ≡ number) × (field.shape ≡ shape)
StepsTo (Map key value) MapValue shape = value ≡ shape
StepsTo own part shape = ⊥

-- The way leads from a field of the first shape to one of the second.
abbrev pub LeadsAlong : Shape → List Part → Shape → Type 0
LeadsAlong own [] shape = own ≡ shape
LeadsAlong own (part ∷ way) shape =
    (next : Shape) × StepsTo own part next × LeadsAlong next way shape

-- ---- breaks

-- The variant of a shape.
abbrev pub variant_of : Shape → ℕ
variant_of Taint = 0
variant_of (Scalar Least kind) = 1
variant_of (Scalar Greatest kind) = 2
variant_of (Set kind) = 3
variant_of Counter = 4
variant_of (Map key value) = 5
variant_of (Bag nodes) = 6

-- Two shapes are maps, and the kind of the old keys may not become that of the new ones.
abbrev pub KeysDiffer : Shape → Shape → Type 0
KeysDiffer (Map key value) (Map other more) = ¬ (Widens key other)
KeysDiffer old new = ⊥

-- Two shapes are scalars of which the same value stays, or sets, and the old kind may not become
-- the new one.
abbrev pub KindsDiffer : Shape → Shape → Type 0
KindsDiffer (Scalar pick kind) (Scalar own other) = (own ≡ pick) × ¬ (Widens kind other)
KindsDiffer (Set kind) (Set other) = ¬ (Widens kind other)
KindsDiffer old new = ⊥

-- A field of the first shape may not become one of the second, for this reason. What is inside is
-- not looked at.
abbrev pub Differs : Change → Shape → Shape → Type 0
Differs changes.Shape old new = variant_of old ≢ variant_of new
Differs changes.Key old new = KeysDiffer old new
Differs changes.Kind old new = KindsDiffer old new

-- At the end of this way both have a field, and the old one may not become the new one. Names don't
-- matter.
abbrev pub IsBreak : Shape → Shape → List Part → Change → Type 0
IsBreak old new way change =
    (a b : Shape) × LeadsAlong old way a × LeadsAlong new way b × Differs change a b

-- The way leads to a break, and no break comes before it.
pub record IsFirstBreak (old new : Shape) (way : List Part) (change : Change) : Type 0 where
  pub breaks : IsBreak old new way change
  pub first : (other : List Part) (its : Change) → IsBreak old new other its
      → way_cmp way other ≢ Greater

-- The field and each one inside it that both have may become what the new one says.
abbrev pub Fits : Shape → Shape → Type 0
Fits old new = (way : List Part) (change : Change) → IsBreak old new way change → ⊥

-- Each field that both tables have may become what the new one says.
abbrev pub IsFitting : Nodes → Nodes → Type 0
IsFitting old new = Fits (Bag old) (Bag new)

-- All fields of an old table that may not become what a new table says, each with what both tables
-- have there.
use Rattle.std.specs.Prelude.{◌≡◌, ℕ, List, [], ◌∷◌, ◌++◌, map, codes}
use Rattle.std.specs.declared.cmp.Ordering.{Ordering}
use Rattle.std.specs.Ordering.{on}
use Rattle.context_model.specs.Orders.{IsIn, Rises}
use Rattle.bag_model.specs.declared.Pick.TheVariants.{Least, Greatest}
use Rattle.bag_model.specs.Scalars as scalars
use Rattle.bag_model.specs.Shapes.{Shape, Taint, Scalar, Set, Counter, Map, Bag, fields}
use Rattle.bag_model.specs.Slots.{dotted}
use Rattle.bag_model.specs.Words.{word_text}
use Rattle.field_table.specs.Plain.{shape_of}
use Rattle.def_evolve.specs.declared.all_breaks.Break.{Break}
use Rattle.def_evolve.specs.declared.sides.Side.{Side}
use Rattle.def_evolve.specs.declared.verdicts.Change.{Change}
use Rattle.def_evolve.specs.declared.verdicts.Part.{Part}
use Rattle.def_evolve.specs.declared.verdicts.Part.TheVariants.{Number, MapValue}
use Rattle.def_evolve.specs.Breaks.{way_cmp, IsBreak}

-- What one table has at the end of a way: the names on the way, and the shape of the last field.
pub record SideAt : Type 0 where
  pub names : List (List ℕ)
  pub shape : Shape

-- A break: the way to it, the reason, and what the old table and the new one have there.
pub record BreakAt : Type 0 where
  pub way : List Part
  pub change : Change
  pub old : SideAt
  pub new : SideAt

-- ---- what the code has

-- What a side of the code says.
abbrev pub side_of : Side → SideAt
side_of side =
    record { names = map (λ name. name.now) side.names.items; shape = shape_of side.shape.now }

-- What a break of the code says.
abbrev pub break_of : Break → BreakAt
break_of found =
    record { way = found.way.items; change = found.change; old = side_of found.old; new = side_of found.new }

-- The side of a field itself.
abbrev pub own_side : Shape → SideAt
own_side shape = record { names = []; shape = shape }

-- A side seen from the field around, in which the side's field has this name.
abbrev pub side_behind : List ℕ → SideAt → SideAt
side_behind name side = record { names = name ∷ side.names; shape = side.shape }

-- The break at two fields themselves.
abbrev pub own_break : Change → Shape → Shape → BreakAt
own_break change old new =
    record { way = []; change = change; old = own_side old; new = own_side new }

-- A break seen from the fields around, in which the next ones have these names.
abbrev pub break_behind : Part → List ℕ → List ℕ → BreakAt → BreakAt
break_behind part name other told =
    record { way = part ∷ told.way; change = told.change; old = side_behind name told.old; new = side_behind other told.new }

-- ---- what is reported

-- The values of a map have this name.
abbrev pub values_name : List ℕ
values_name = codes "*"

-- The step leads from a field of the first shape by this name to the second shape: to a field of a
-- bag, or to the values of a map.
abbrev pub StepsBy : Shape → Part → List ℕ → Shape → Type 0
StepsBy (Bag nodes) (Number number) name shape =
    IsIn (record { name = name; number = number; shape = shape }) (fields nodes)
StepsBy (Map key value) MapValue name shape = (name ≡ values_name) × (value ≡ shape)
StepsBy own part name shape = ⊥

-- The way leads from a field of the first shape by these names to the second shape.
abbrev pub LeadsBy : Shape → List Part → List (List ℕ) → Shape → Type 0
LeadsBy own [] [] shape = own ≡ shape
LeadsBy own (part ∷ way) (name ∷ names) shape =
    (next : Shape) × StepsBy own part name next × LeadsBy next way names shape
LeadsBy own [] (name ∷ names) shape = ⊥
LeadsBy own (part ∷ way) [] shape = ⊥

-- What is reported of a break is true: it is one, and at its end both tables have what their sides
-- say.
pub record IsToldBreak (old new : Shape) (told : BreakAt) : Type 0 where
  pub breaks : IsBreak old new told.way told.change
  pub before : LeadsBy old told.way told.old.names told.old.shape
  pub behind : LeadsBy new told.way told.new.names told.new.shape

-- A break of the list has this way and this reason.
abbrev pub IsTold : List BreakAt → List Part → Change → Type 0
IsTold list way change =
    (told : BreakAt) × IsIn told list × (told.way ≡ way) × (told.change ≡ change)

-- Breaks are compared by their ways.
abbrev pub break_cmp : BreakAt → BreakAt → Ordering
break_cmp = on (λ told. told.way) way_cmp

-- The list has all breaks, each once, in the order of their ways.
pub record AreBreaks (old new : Shape) (list : List BreakAt) : Type 0 where
  pub rises : Rises break_cmp list
  pub each : (told : BreakAt) → IsIn told list → IsToldBreak old new told
  pub all : (way : List Part) (change : Change) → IsBreak old new way change
      → IsTold list way change

-- ---- its text

-- Each word after a space.
abbrev pub spaced : List scalars.Word → List ℕ
spaced [] = []
spaced (word ∷ words) = 32 ∷ word_text word ++ spaced words

-- A scalar word, or `struct` and the words of its fields.
abbrev pub kind_words : scalars.ScalarKind → List ℕ
kind_words (scalars.ScalarKind.One word) = word_text word
kind_words (scalars.ScalarKind.Packed words) = codes "struct" ++ spaced words

-- The type of a field as a definition spells it, except structs and bags.
abbrev pub type_text : Shape → List ℕ
type_text Taint = codes "taint"
type_text (Scalar Least kind) = kind_words kind
type_text (Scalar Greatest kind) = codes "greatest<" ++ (kind_words kind ++ codes ">")
type_text (Set kind) = codes "set<" ++ (kind_words kind ++ codes ">")
type_text Counter = codes "counter"
type_text (Map key value) =
    codes "map<" ++ (kind_words key ++ (codes ", " ++ (type_text value ++ codes ">")))
type_text (Bag nodes) = codes "bag"

-- The names joined by dots, and the type.
abbrev pub side_text : SideAt → List ℕ
side_text side = dotted side.names ++ (codes ": " ++ type_text side.shape)

-- What the old table has, and what the new one has.
abbrev pub sides_text : BreakAt → List ℕ
sides_text told = side_text told.old ++ (codes " to " ++ side_text told.new)

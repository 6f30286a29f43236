-- Two versions of a table at once, each of which may take the place of the other.
use Rattle.std.specs.Prelude.{◌⊎◌, ◌↔◌, List, [], ◌∷◌}
use Rattle.std.specs.List.{AllByRecursion}
use Rattle.context_model.specs.Atoms.{Atom}
use Rattle.context_model.specs.Orders.{Path, IsIn}
use Rattle.context_model.specs.Merged.{IsMerged}
use Rattle.context_model.specs.Ended.{IsEnded, field_path}
use Rattle.bag_model.specs.Shapes.{Nodes}
use Rattle.bag_model.specs.Values.{Values}
use Rattle.bag_model.specs.Joins.{join_values}
use Rattle.bag_model.specs.Slots.{SlotAt, slots_of}
use Rattle.bag_model.specs.Views.{View}
use Rattle.bag_model.specs.Readings.{SaysValues}
use Rattle.bag_model.specs.Encodings.{IsForeign}
use Rattle.bag_model.specs.NormalForm.{IsNormalOf}
use Rattle.trace_model.specs.Graphs.{IsTypedContext}

-- The list is typed under the table, which names each of its paths, those of markers aside.
pub record IsWrittenUnder (nodes : Nodes) (list : List Atom) : Type 0 where
  pub context : IsTypedContext nodes list
  pub named : (p : Path) → IsForeign nodes list p → ⊥

-- The list is typed under both tables.
pub record IsOfBoth (old new : Nodes) (list : List Atom) : Type 0 where
  pub before : IsTypedContext old list
  pub behind : IsTypedContext new list

-- Under the table the merge of two lists says the join of what they say.
abbrev pub SaysJoin : Nodes → List Atom → List Atom → List Atom → Type 0
SaysJoin nodes a b merged =
    (v w : Values) → SaysValues nodes a v → SaysValues nodes b w
    → SaysValues nodes merged (join_values v w)

-- Under the table the second list says what the first says, and the same slots are ended in both.
pub record SaysAlike (nodes : Nodes) (list other : List Atom) : Type 0 where
  pub says : (vs : Values) → SaysValues nodes other vs ↔ SaysValues nodes list vs
  pub ended : (slot : SlotAt) → IsIn slot (slots_of nodes)
      → IsEnded other (field_path slot.numbers) ↔ IsEnded list (field_path slot.numbers)

-- What is written under one of the tables is typed under both. A merge of lists that are typed
-- under both is such a list, and a merge of two says under each table the join of what they say.
-- The normal form for a view of one of the tables is such a list too, and says under each table
-- what the list says.
pub record LiveTogether (old new : Nodes) : Type 0 where
  pub written : (list : List Atom) → IsWrittenUnder old list ⊎ IsWrittenUnder new list
      → IsOfBoth old new list
  pub merged : (lists : List (List Atom)) (merged : List Atom)
      → IsMerged lists merged → AllByRecursion (IsOfBoth old new) lists → IsOfBoth old new merged
  pub joined : (a b merged : List Atom) → IsMerged (a ∷ b ∷ []) merged
      → SaysJoin old a b merged × SaysJoin new a b merged
  pub kept : (view : View) (list normal : List Atom) → IsOfBoth old new list
      → IsNormalOf old view list normal ⊎ IsNormalOf new view list normal
      → IsOfBoth old new normal × SaysAlike old list normal × SaysAlike new list normal

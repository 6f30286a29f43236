-- What updates are in the model of steps.
use Rattle.std.specs.Prelude.{◌≡◌, ◌↔◌, ℕ, List, [], ◌∷◌, ◌++◌, map}
use Rattle.std.specs.List.{AllByRecursion}
use Rattle.context_model.specs.declared.Form.{Form}
use Rattle.context_model.specs.declared.Form.TheVariants.{One, Two}
use Rattle.context_model.specs.Atoms.{Atom}
use Rattle.context_model.specs.Merged.{IsMerged}
use Rattle.context_model.specs.Orders.{Path}
use Rattle.context_model.specs.WellFormed.{IsWellFormed}
use Rattle.context_model.specs.ContextFault.{IsContextOf}
use Rattle.context_model.specs.Ended.{HasMarker, IsEnded, AreHeaders, field_path}
use Rattle.context_model.specs.Framing.{bytes_of}
use Rattle.context_model.specs.Trimmed.{trimmed}
use Rattle.bag_model.specs.Encodings.{IsEncoding}
use Rattle.bag_model.specs.NormalForm.{IsNormalOf}
use Rattle.bag_model.specs.Readings.{PathsOf, SaysValues}
use Rattle.bag_model.specs.Shapes.{Nodes, no_node}
use Rattle.bag_model.specs.Slots.{SlotAt}
use Rattle.bag_model.specs.SlotValues.{HasSlot, HasSlotValue, SaysSlot, only}
use Rattle.bag_model.specs.Tables.{IsTable}
use Rattle.bag_model.specs.Typed.{AreTyped}
use Rattle.bag_model.specs.Values.{Value, Values, IsOfShape, bottoms}
use Rattle.bag_model.specs.Views.{View, All, Nothing}
use Rattle.trace_model.specs.Graphs.{Start, Recv, Set, Forward, Trim, Join, IsTypedContext, MayBeWritten}
use Rattle.trace_model.specs.Runs.{Lists, Gives, IsNormalMerge}
use Rattle.trace_model.specs.Truth.{join_all}
use Rattle.step_calls.specs.Excerpts.{AreLikeSlots, IsExcerpt}
use Rattle.step_calls.specs.Lines.{Write}
use Rattle.step_calls.specs.Updates.{IsUpdateOf}

-- ---- excerpts

-- Normal form for a view is normal form for all slots of an excerpt, of any list whatever.
abbrev pub ExcerptsAreViews : Type 0
ExcerptsAreViews =
    (nodes : Nodes) (view : View) (excerpt : Nodes) (list normal : List Atom)
    → IsExcerpt nodes view excerpt
    → IsNormalOf nodes view list normal ↔ IsNormalOf excerpt All list normal

-- A list that is typed under a table is typed under each excerpt of it.
abbrev pub ExcerptsAreTyped : Type 0
ExcerptsAreTyped =
    (nodes : Nodes) (view : View) (excerpt : Nodes) (list : List Atom)
    → IsExcerpt nodes view excerpt
    → AreTyped nodes (PathsOf list) [] → AreTyped excerpt (PathsOf list) []

-- The encoding of a value at a slot is that of the value at a slot of another table that is like
-- it.
abbrev pub ExcerptsWriteAlike : Type 0
ExcerptsWriteAlike =
    (nodes excerpt : Nodes) (slot other : ℕ) (at also : SlotAt) (v : Value) (list : List Atom)
    → IsTable nodes → IsTable excerpt → HasSlot nodes slot at → HasSlot excerpt other also
    → AreLikeSlots at also → IsOfShape at.shape v
    → IsEncoding nodes (only nodes slot v) list ↔ IsEncoding excerpt (only excerpt other v) list

-- ---- updates are steps

-- Under an excerpt for the view of a service, an update is what a step at the service gives: that
-- of no list and without a write what a start gives, that of one list what a receipt gives and what
-- a forward gives, and with one write what a set gives; that of several lists what a join gives.
-- The cut after it is what a trim gives. Under a table without slots it is a merge.
pub record UpdatesGiveSteps : Type 0 where
  pub start : (nodes : Nodes) (form : Form) (view : View) (excerpt : Nodes) (parents : Lists)
      (list : List Atom)
      → IsUpdateOf excerpt [] [] list → Gives nodes form view Start parents list
  pub receive : (nodes : Nodes) (form : Form) (view : View) (excerpt : Nodes)
      (received list : List Atom) (parents : Lists)
      → IsExcerpt nodes view excerpt → IsWellFormed received
      → IsUpdateOf excerpt (received ∷ []) [] list
      → Gives nodes form view (Recv received) parents list
  pub forward : (nodes : Nodes) (form : Form) (view : View) (excerpt : Nodes)
      (before list : List Atom) (parent : ℕ)
      → IsExcerpt nodes view excerpt → IsWellFormed before
      → IsUpdateOf excerpt (before ∷ []) [] list
      → Gives nodes form view (Forward parent) (before ∷ []) list
  pub set : (nodes : Nodes) (form : Form) (view : View) (excerpt : Nodes) (before list : List Atom)
      (parent slot other : ℕ) (at also : SlotAt) (v : Value)
      → IsExcerpt nodes view excerpt → IsTable nodes → IsTable excerpt
      → HasSlot nodes slot at → HasSlot excerpt other also → AreLikeSlots at also
      → IsOfShape at.shape v
      → IsUpdateOf excerpt (before ∷ []) ((other, v) ∷ []) list
      → Gives nodes form view (Set parent slot v) (before ∷ []) list
  pub join : (nodes : Nodes) (form : Form) (view : View) (excerpt : Nodes) (named : List ℕ)
      (parents : Lists) (list : List Atom)
      → IsExcerpt nodes view excerpt
      → IsUpdateOf excerpt parents [] list → Gives nodes form view (Join named) parents list
  pub trim : (nodes : Nodes) (form : Form) (view : View) (list : List Atom) (parent budget : ℕ)
      → Gives nodes form view (Trim parent budget) (list ∷ []) (trimmed form list budget)
  pub merge : (lists : Lists) (list : List Atom) → IsUpdateOf no_node lists [] list
      → IsMerged lists list

-- The value of a write is of the shape of its slot.
abbrev pub FitsSlot : Nodes → Write → Type 0
FitsSlot nodes write = (at : SlotAt) × HasSlot nodes write.0 at × IsOfShape at.shape write.1

-- An update of typed contexts by writes of the shapes of their slots is a typed context.
abbrev pub UpdatesAreContexts : Type 0
UpdatesAreContexts =
    (nodes : Nodes) (lists : Lists) (writes : List Write) (list : List Atom) → IsTable nodes
    → AllByRecursion (IsTypedContext nodes) lists → AllByRecursion (FitsSlot nodes) writes
    → IsUpdateOf nodes lists writes list → IsTypedContext nodes list

-- ---- what updates say

-- The lists say these values, one by one.
abbrev pub SayEach : Nodes → Lists → List Values → Type 0
SayEach nodes [] [] = Unit {0}
SayEach nodes (list ∷ lists) (vs ∷ said) = SaysValues nodes list vs × SayEach nodes lists said
SayEach nodes lists said = ⊥

-- The values of a table's fields that are bottom except that of the write at its slot.
abbrev pub written_values : Nodes → Write → Values
written_values nodes write = only nodes write.0 write.1

-- An update of typed contexts says the join of what these say and of the writes, and a slot is
-- ended in it exactly where it is ended in each of them.
pub record UpdatesReadAsJoins : Type 0 where
  pub says : (nodes : Nodes) (lists : Lists) (said : List Values) (writes : List Write)
      (list : List Atom) → IsTable nodes
      → AllByRecursion (IsTypedContext nodes) lists → AllByRecursion (FitsSlot nodes) writes
      → SayEach nodes lists said
      → IsUpdateOf nodes lists writes list
      → SaysValues nodes list (join_all nodes (said ++ map (written_values nodes) writes))
  pub ended : (nodes : Nodes) (lists : Lists) (writes : List Write) (list : List Atom) (slot : ℕ)
      (at : SlotAt) → IsTable nodes
      → AllByRecursion IsWellFormed lists → IsUpdateOf nodes lists writes list
      → HasSlot nodes slot at
      → IsEnded list (field_path at.numbers)
      ↔ AllByRecursion (λ l. IsEnded l (field_path at.numbers)) lists

-- An update that was cut, whatever the budget: a slot that is ended in it was ended in each of the
-- lists, and what is said there is the join of what the lists say and of the writes.
pub record CutUpdatesSayJoins : Type 0 where
  pub ended : (nodes : Nodes) (form : Form) (budget : ℕ) (lists : Lists) (writes : List Write)
      (list : List Atom) (slot : ℕ) (at : SlotAt) → IsTable nodes
      → AllByRecursion IsWellFormed lists → IsUpdateOf nodes lists writes list
      → HasSlot nodes slot at → IsEnded (trimmed form list budget) (field_path at.numbers)
      → AllByRecursion (λ l. IsEnded l (field_path at.numbers)) lists
  pub says : (nodes : Nodes) (form : Form) (budget : ℕ) (lists : Lists) (said : List Values)
      (writes : List Write) (list : List Atom) (slot : ℕ) (at : SlotAt) (v : Value)
      → IsTable nodes → AllByRecursion (IsTypedContext nodes) lists
      → AllByRecursion (FitsSlot nodes) writes → SayEach nodes lists said
      → IsUpdateOf nodes lists writes list → HasSlot nodes slot at
      → IsEnded (trimmed form list budget) (field_path at.numbers)
      → SaysSlot (trimmed form list budget) at v
      → HasSlotValue nodes (join_all nodes (said ++ map (written_values nodes) writes)) slot v

-- ---- merges are steps

-- A service that knows nothing gives by a merge alone what the model's step gives: by that of one
-- list what a receipt gives and what a forward gives, and by that of several lists what a join
-- gives. The cut after it is what a trim gives.
pub record MergesGiveSteps : Type 0 where
  pub receive : (nodes : Nodes) (form : Form) (received list : List Atom) (parents : Lists)
      → IsMerged (received ∷ []) list → IsWellFormed received
      → Gives nodes form Nothing (Recv received) parents list
  pub forward : (nodes : Nodes) (form : Form) (before list : List Atom) (parent : ℕ)
      → IsMerged (before ∷ []) list → IsWellFormed before
      → Gives nodes form Nothing (Forward parent) (before ∷ []) list
  pub join : (nodes : Nodes) (form : Form) (named : List ℕ) (parents : Lists) (list : List Atom)
      → IsMerged parents list → Gives nodes form Nothing (Join named) parents list
  pub trim : (nodes : Nodes) (form : Form) (list : List Atom) (parent budget : ℕ)
      → Gives nodes form Nothing (Trim parent budget) (list ∷ []) (trimmed form list budget)

-- ---- updates add up

-- The list is well formed and has no marker: nothing was cut from it.
pub record IsWhole (list : List Atom) : Type 0 where
  pub well_formed : IsWellFormed list
  pub unmarked : HasMarker list → ⊥

-- Where nothing was cut from the lists, two steps and one step give the same: to bring some lists
-- to normal form and then that with others, and to bring all of them to normal form at once. So an
-- update by several writes is that by one after another, in any order, and lists that come later
-- can come at once.
pub record StepsAddUp : Type 0 where
  pub merges : (nodes : Nodes) (view : View) (some others : Lists) (first later once : List Atom)
      → IsTable nodes
      → AllByRecursion IsWhole some → AllByRecursion IsWhole others
      → IsNormalMerge nodes view some first → IsNormalMerge nodes view (first ∷ others) later
      → IsNormalMerge nodes view (some ++ others) once → later ≡ once
  pub updates : (nodes : Nodes) (some others : Lists) (writes more : List Write)
      (first later once : List Atom) → IsTable nodes
      → AllByRecursion IsWhole some → AllByRecursion IsWhole others
      → IsUpdateOf nodes some writes first → IsUpdateOf nodes (first ∷ others) more later
      → IsUpdateOf nodes (some ++ others) (writes ++ more) once → later ≡ once

-- ---- the context of one marker

-- The context that says that all may be missing.
abbrev pub lost : List Atom
lost = [] ∷ []

-- The context that says that all may be missing is that of one byte, and of 13 in form two; no path
-- of headers is ended in it; and bottom is read of it.
pub record NothingIsEnded : Type 0 where
  pub one : IsContextOf lost (0 ∷ [])
  pub two : IsContextOf lost (255 ∷ 255 ∷ 255 ∷ 2 ∷ 0 ∷ 0 ∷ 0 ∷ 0 ∷ 0 ∷ 0 ∷ 0 ∷ 1 ∷ 0 ∷ [])
  pub ended : (s : Path) → AreHeaders s → IsEnded lost s → ⊥
  pub bottom : (nodes : Nodes) → SaysValues nodes lost (bottoms nodes)

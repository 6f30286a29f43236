-- The list of each step of a graph.
use Rattle.std.specs.Prelude.{◌≡◌, ℕ, suc, ◌<◌, List, [], ◌∷◌, ◌++◌, length, map, slice_index_or}
use Rattle.std.specs.List.{AllByRecursion}
use Rattle.context_model.specs.declared.Form.{Form}
use Rattle.context_model.specs.Atoms.{Atom}
use Rattle.context_model.specs.Merged.{IsMerged}
use Rattle.context_model.specs.Trimmed.{trimmed}
use Rattle.bag_model.specs.Shapes.{Nodes}
use Rattle.bag_model.specs.Values.{Value}
use Rattle.bag_model.specs.SlotValues.{only}
use Rattle.bag_model.specs.Tables.{IsTable}
use Rattle.bag_model.specs.Views.{View}
use Rattle.bag_model.specs.Encodings.{IsEncoding}
use Rattle.bag_model.specs.NormalForm.{IsNormalOf}
use Rattle.trace_model.specs.Graphs.{Act, Start, Recv, Set, Branch, Forward, Trim, Join, Step, Graph, parents_of, HasStep, form_at, view_at, IsTypedContext, IsActOf, IsRecorded}

-- Lists of atoms; those of steps are at the places of the steps' numbers.
abbrev pub Lists : Type 0
Lists = List (List Atom)

-- The list with this number, and the empty list where there is none.
abbrev pub list_at : Lists → ℕ → List Atom
list_at lists n = slice_index_or lists n []

-- The lists of the parents that an act names, in the order in which it names them.
abbrev pub parents_lists : Lists → Act → Lists
parents_lists lists act = map (list_at lists) (parents_of act)

-- The list is the normal form, for the view, of a merge of some lists.
pub record IsNormalMerge (nodes : Nodes) (view : View) (lists : Lists)
    (list : List Atom) : Type 0 where
  pub merged : List Atom
  pub merge : IsMerged lists merged
  pub normal : IsNormalOf nodes view merged list

-- The list is the normal form, for the view, of a list with the encoding of a value at a slot.
pub record IsNormalWrite (nodes : Nodes) (view : View) (slot : ℕ) (v : Value)
    (before list : List Atom) : Type 0 where
  pub written : List Atom
  pub encoding : IsEncoding nodes (only nodes slot v) written
  pub normal : IsNormalMerge nodes view (before ∷ written ∷ []) list

-- An act at a service with the form and the view gives the list, where these are the lists of its
-- parents.
abbrev pub Gives : Nodes → Form → View → Act → Lists → List Atom → Type 0
Gives nodes form view Start parents list = list ≡ []
Gives nodes form view (Recv received) parents list = IsNormalOf nodes view received list
Gives nodes form view (Set parent slot v) parents list =
    IsNormalWrite nodes view slot v (list_at parents 0) list
Gives nodes form view (Branch parent) parents list = list ≡ list_at parents 0
Gives nodes form view (Forward parent) parents list = IsNormalOf nodes view (list_at parents 0) list
Gives nodes form view (Trim parent budget) parents list =
    list ≡ trimmed form (list_at parents 0) budget
Gives nodes form view (Join named) parents list = IsNormalMerge nodes view parents list

-- What an act gives from typed contexts is a typed context.
abbrev pub GivesContexts : Type 0
GivesContexts =
    (nodes : Nodes) (form : Form) (view : View) (act : Act) (parents : Lists) (list : List Atom)
    → IsTable nodes → IsActOf nodes view act → AllByRecursion (IsTypedContext nodes) parents
    → Gives nodes form view act parents list → IsTypedContext nodes list

-- A step of the graph gives the list, where the other steps have these lists.
abbrev pub StepGives : Nodes → Graph → Lists → Step → List Atom → Type 0
StepGives nodes graph lists step list =
    Gives nodes (form_at graph step.service) (view_at graph step.service) step.act
    (parents_lists lists step.act) list

-- The lists are those of the first n steps: each is what its step gives.
pub record RunsTo (nodes : Nodes) (graph : Graph) (lists : Lists) (n : ℕ) : Type 0 where
  pub as_many : length lists ≡ n
  pub each : (m : ℕ) (step : Step)
      → m < n → HasStep graph m step → StepGives nodes graph lists step (list_at lists m)

-- The lists are those of all steps of the graph: its run.
abbrev pub IsRun : Nodes → Graph → Lists → Type 0
IsRun nodes graph lists = RunsTo nodes graph lists (length graph.steps)

-- A graph has at most one run.
abbrev pub HasOneRun : Type 0
HasOneRun = (nodes : Nodes) (graph : Graph) (lists others : Lists)
    → IsRecorded nodes graph → IsRun nodes graph lists → IsRun nodes graph others
    → lists ≡ others

-- A run grows by one list after another: no list is needed for no step, and what step n gives from
-- the lists of the first n steps follows these.
pub record RunsGrow : Type 0 where
  pub none : (nodes : Nodes) (graph : Graph) → RunsTo nodes graph [] 0
  pub more : (nodes : Nodes) (graph : Graph) (lists : Lists) (n : ℕ) (step : Step)
      → (list : List Atom) → IsRecorded nodes graph
      → RunsTo nodes graph lists n → HasStep graph n step
      → StepGives nodes graph lists step list
      → RunsTo nodes graph (lists ++ list ∷ []) (suc n)

-- Recorded graphs of steps.
use Rattle.std.specs.Prelude.{◌≡◌, ℕ, ◌<◌, ◌≤◌, List, [], ◌∷◌, length, Option, Some, None}
use Rattle.std.specs.List.{slice_get, AllByRecursion}
use Rattle.context_model.specs.declared.Form.{Form}
use Rattle.context_model.specs.declared.Form.TheVariants.{One}
use Rattle.context_model.specs.Atoms.{Atom}
use Rattle.context_model.specs.Framing.{least_budget}
use Rattle.context_model.specs.Orders.{IsIn}
use Rattle.context_model.specs.WellFormed.{IsWellFormed}
use Rattle.bag_model.specs.Shapes.{Nodes}
use Rattle.bag_model.specs.Values.{Value, IsOfShape}
use Rattle.bag_model.specs.Slots.{SlotAt, slots_of}
use Rattle.bag_model.specs.SlotValues.{HasSlot, only}
use Rattle.bag_model.specs.Tables.{IsTable}
use Rattle.bag_model.specs.Views.{View, All, Nothing, Only, Knows}
use Rattle.bag_model.specs.Readings.{PathsOf}
use Rattle.bag_model.specs.Typed.{AreTyped}
use Rattle.bag_model.specs.Encodings.{FitsAtoms}

-- What a step does. It starts with nothing; receives a list; writes a value at a slot after its
-- parent's list; goes on where its parent is, or at another service; is cut to a budget of bytes;
-- or joins its parents. Steps have numbers.
pub data Act : Type 0 where
  Start : Act
  Recv : List Atom → Act
  Set : ℕ → ℕ → Value → Act
  Branch : ℕ → Act
  Forward : ℕ → Act
  Trim : ℕ → ℕ → Act
  Join : List ℕ → Act

-- A service with its name, the form in which it writes lists, and the slots that it knows.
pub record Service : Type 0 where
  pub name : List ℕ
  pub form : Form
  pub view : View

-- A step: the number of the service where it is, and what it does.
pub record Step : Type 0 where
  pub service : ℕ
  pub act : Act

-- A graph: services and steps, each by its number, and the steps that are shown, in order.
pub record Graph : Type 0 where
  pub services : List Service
  pub steps : List Step
  pub shows : List ℕ

-- The parents that an act names, in order.
abbrev pub parents_of : Act → List ℕ
parents_of Start = []
parents_of (Recv received) = []
parents_of (Set parent slot v) = parent ∷ []
parents_of (Branch parent) = parent ∷ []
parents_of (Forward parent) = parent ∷ []
parents_of (Trim parent budget) = parent ∷ []
parents_of (Join parents) = parents

-- The graph has this step at this number.
abbrev pub HasStep : Graph → ℕ → Step → Type 0
HasStep graph n step = slice_get graph.steps n ≡ Some step

-- The graph has this service at this number.
abbrev pub HasService : Graph → ℕ → Service → Type 0
HasService graph n service = slice_get graph.services n ≡ Some service

-- The view of a service, and that of nothing where there is none.
abbrev pub view_of : Option Service → View
view_of None = Nothing
view_of (Some service) = service.view

-- The view of the service with this number.
abbrev pub view_at : Graph → ℕ → View
view_at graph n = view_of (slice_get graph.services n)

-- The form of a service, and form one where there is none.
abbrev pub form_of_service : Option Service → Form
form_of_service None = One
form_of_service (Some service) = service.form

-- The form of the service with this number.
abbrev pub form_at : Graph → ℕ → Form
form_at graph n = form_of_service (slice_get graph.services n)

-- The form of the service where a step is, and form one where there is none.
abbrev pub form_of_step : Graph → Option Step → Form
form_of_step graph None = One
form_of_step graph (Some step) = form_at graph step.service

-- The form of the service where the step with this number is.
abbrev pub step_form : Graph → ℕ → Form
step_form graph n = form_of_step graph (slice_get graph.steps n)

-- ---- sound graphs

-- At a service of the form a budget is at least the least that a list can be cut to, and a join has
-- at least one parent.
abbrev pub IsSoundAct : Form → Act → Type 0
IsSoundAct form Start = Unit {0}
IsSoundAct form (Recv received) = Unit {0}
IsSoundAct form (Set parent slot v) = Unit {0}
IsSoundAct form (Branch parent) = Unit {0}
IsSoundAct form (Forward parent) = Unit {0}
IsSoundAct form (Trim parent budget) = least_budget form ≤ budget
IsSoundAct form (Join parents) = 0 < length parents

-- A step that does this may be at the second service where a parent is at the first: only a forward
-- changes it.
abbrev pub StaysAt : Act → ℕ → ℕ → Type 0
StaysAt Start old new = Unit {0}
StaysAt (Recv received) old new = Unit {0}
StaysAt (Set parent slot v) old new = new ≡ old
StaysAt (Branch parent) old new = new ≡ old
StaysAt (Forward parent) old new = Unit {0}
StaysAt (Trim parent budget) old new = new ≡ old
StaysAt (Join parents) old new = new ≡ old

-- Each step is sound, names only earlier steps as parents, and is at a service of the graph, at
-- that of its parents where it must; and what is shown are steps of the graph.
pub record IsGraph (graph : Graph) : Type 0 where
  pub acts : (n : ℕ) (step : Step) → HasStep graph n step
      → IsSoundAct (form_at graph step.service) step.act
  pub earlier : (n parent : ℕ) (step : Step)
      → HasStep graph n step → IsIn parent (parents_of step.act) → parent < n
  pub services : (n : ℕ) (step : Step)
      → HasStep graph n step → step.service < length graph.services
  pub stays : (n parent : ℕ) (step own : Step)
      → HasStep graph n step → IsIn parent (parents_of step.act) → HasStep graph parent own
      → StaysAt step.act own.service step.service
  pub shows : (n : ℕ) → IsIn n graph.shows → n < length graph.steps

-- ---- graphs of a table

-- The list is well formed, and typed under the table.
pub record IsTypedContext (nodes : Nodes) (list : List Atom) : Type 0 where
  pub well_formed : IsWellFormed list
  pub typed : AreTyped nodes (PathsOf list) []

-- A service with the view may write the value at the slot: it knows the slot, which is one of the
-- table, and the value is of the slot's shape and fits the limit of bytes.
pub record MayBeWritten (nodes : Nodes) (view : View) (slot : ℕ) (v : Value) : Type 0 where
  pub at : SlotAt
  pub there : HasSlot nodes slot at
  pub shape : IsOfShape at.shape v
  pub fits : FitsAtoms nodes (only nodes slot v)
  pub known : Knows view slot

-- A service with the view may do this under the table: what it receives is a typed context, and it
-- may write what it writes.
abbrev pub IsActOf : Nodes → View → Act → Type 0
IsActOf nodes view Start = Unit {0}
IsActOf nodes view (Recv received) = IsTypedContext nodes received
IsActOf nodes view (Set parent slot v) = MayBeWritten nodes view slot v
IsActOf nodes view (Branch parent) = Unit {0}
IsActOf nodes view (Forward parent) = Unit {0}
IsActOf nodes view (Trim parent budget) = Unit {0}
IsActOf nodes view (Join parents) = Unit {0}

-- The slots that a view names are slots of the table.
abbrev pub IsViewOf : Nodes → View → Type 0
IsViewOf nodes All = Unit {0}
IsViewOf nodes Nothing = Unit {0}
IsViewOf nodes (Only slots) = AllByRecursion (λ slot. slot < length (slots_of nodes)) slots

-- The graph is of the table: each service knows slots of the table, and each step may do under it
-- what it does.
pub record IsOfTable (nodes : Nodes) (graph : Graph) : Type 0 where
  pub views : (n : ℕ) (service : Service)
      → HasService graph n service → IsViewOf nodes service.view
  pub acts : (n : ℕ) (step : Step)
      → HasStep graph n step → IsActOf nodes (view_at graph step.service) step.act

-- A sound graph of a table.
pub record IsRecorded (nodes : Nodes) (graph : Graph) : Type 0 where
  pub table : IsTable nodes
  pub sound : IsGraph graph
  pub fits : IsOfTable nodes graph

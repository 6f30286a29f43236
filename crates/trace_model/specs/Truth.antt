-- What was written and received on the way to a step of a graph.
use Rattle.std.specs.Prelude.{◌≡◌, ◌↔◌, ℕ, ◌<◌, List, [], ◌∷◌, length}
use Rattle.context_model.specs.declared.Form.{Form}
use Rattle.context_model.specs.Atoms.{Atom}
use Rattle.context_model.specs.Orders.{Path, IsIn}
use Rattle.context_model.specs.Framing.{size_of}
use Rattle.context_model.specs.Ended.{HasMarker}
use Rattle.bag_model.specs.Shapes.{Nodes}
use Rattle.bag_model.specs.Values.{Value, Values, bottoms, AreOfShapes}
use Rattle.bag_model.specs.Joins.{join_values}
use Rattle.bag_model.specs.SlotValues.{only, HasSlotValue}
use Rattle.bag_model.specs.Readings.{SaysValues}
use Rattle.bag_model.specs.Encodings.{IsForeign}
use Rattle.trace_model.specs.Graphs.{Act, Start, Recv, Set, Branch, Forward, Trim, Join, Step, Graph, parents_of, HasStep, form_at, IsRecorded}
use Rattle.trace_model.specs.Runs.{Lists, list_at}

-- The step with the first number reaches that with the second: they are one, or it reaches a
-- parent.
pub data Reaches (graph : Graph) (w : ℕ) : ℕ → Type 0 where
  itself : Reaches graph w w
  through : {parent n : ℕ} (step : Step)
      → HasStep graph n step → IsIn parent (parents_of step.act)
      → Reaches graph w parent → Reaches graph w n

-- Step n is reached by a step that does something of this kind.
pub record IsReachedBy (graph : Graph) (n : ℕ) (Does : Step → Type 0) : Type 0 where
  pub from : ℕ
  pub step : Step
  pub there : HasStep graph from step
  pub reaches : Reaches graph from n
  pub does : Does step

-- ---- the truth

-- An act adds these values: a write its value at its slot, and a received list what it says.
abbrev pub Adds : Nodes → Values → Act → Type 0
Adds nodes vs Start = ⊥
Adds nodes vs (Recv received) = SaysValues nodes received vs
Adds nodes vs (Set parent slot v) = vs ≡ only nodes slot v
Adds nodes vs (Branch parent) = ⊥
Adds nodes vs (Forward parent) = ⊥
Adds nodes vs (Trim parent budget) = ⊥
Adds nodes vs (Join parents) = ⊥

-- A step that reaches n adds these values.
abbrev pub IsAdded : Nodes → Graph → ℕ → Values → Type 0
IsAdded nodes graph n vs = IsReachedBy graph n (λ step. Adds nodes vs step.act)

-- All that the first values of a bag say the second say too.
abbrev pub AreValuesBelow : Values → Values → Type 0
AreValuesBelow vs ws = join_values vs ws ≡ ws

-- The values say all that is added by steps that reach n.
abbrev pub IsAboveAll : Nodes → Graph → ℕ → Values → Type 0
IsAboveAll nodes graph n ws = (vs : Values) → IsAdded nodes graph n vs → AreValuesBelow vs ws

-- The truth at step n: the join of all that is added by steps that reach it, whatever the services
-- knew. It says all of that, and nothing more.
pub record IsTruth (nodes : Nodes) (graph : Graph) (n : ℕ) (truth : Values) : Type 0 where
  pub shapes : AreOfShapes nodes truth
  pub all : IsAboveAll nodes graph n truth
  pub least : (ws : Values)
      → AreOfShapes nodes ws → IsAboveAll nodes graph n ws → AreValuesBelow truth ws

-- The value is the truth at step n of the slot with this place.
pub record IsTruthAt (nodes : Nodes) (graph : Graph) (n slot : ℕ) (v : Value) : Type 0 where
  pub truth : Values
  pub is : IsTruth nodes graph n truth
  pub there : HasSlotValue nodes truth slot v

-- There is one truth at each step.
pub record HasOneTruth : Type 0 where
  pub some : (nodes : Nodes) (graph : Graph) (n : ℕ)
      → IsRecorded nodes graph → n < length graph.steps
      → (truth : Values) × IsTruth nodes graph n truth
  pub one : (nodes : Nodes) (graph : Graph) (n : ℕ) (a b : Values)
      → IsTruth nodes graph n a → IsTruth nodes graph n b → a ≡ b

-- The join of some values of a table's fields, from bottom on.
abbrev pub join_all : Nodes → List Values → Values
join_all nodes [] = bottoms nodes
join_all nodes (vs ∷ rest) = join_values vs (join_all nodes rest)

-- The truth is the join of all additions, in whatever order they are listed and however often each.
abbrev pub TruthIsJoin : Type 0
TruthIsJoin = (nodes : Nodes) (graph : Graph) (n : ℕ) (truth : Values) (added : List Values)
    → IsRecorded nodes graph → IsTruth nodes graph n truth
    → ((vs : Values) → IsIn vs added ↔ IsAdded nodes graph n vs)
    → truth ≡ join_all nodes added

-- All additions on the way to a step can be listed, so that their join is one of a list.
abbrev pub AdditionsAreListed : Type 0
AdditionsAreListed =
    (nodes : Nodes) (graph : Graph) (n : ℕ) → IsRecorded nodes graph → n < length graph.steps
    → (added : List Values) × ((vs : Values) → IsIn vs added ↔ IsAdded nodes graph n vs)

-- ---- what was cut off, and what no table names

-- An act at a service of the form cuts something off, where the steps have these lists: it trims a
-- list that doesn't fit. A received list with a marker was cut before.
abbrev pub CutsIn : Form → Lists → Act → Type 0
CutsIn form lists Start = ⊥
CutsIn form lists (Recv received) = HasMarker received
CutsIn form lists (Set parent slot v) = ⊥
CutsIn form lists (Branch parent) = ⊥
CutsIn form lists (Forward parent) = ⊥
CutsIn form lists (Trim parent budget) = budget < size_of form (list_at lists parent)
CutsIn form lists (Join parents) = ⊥

-- A step cuts something off.
abbrev pub Cuts : Graph → Lists → Step → Type 0
Cuts graph lists step = CutsIn (form_at graph step.service) lists step.act

-- Something was cut off on the way to step n.
abbrev pub WasCut : Graph → Lists → ℕ → Type 0
WasCut graph lists n = IsReachedBy graph n (Cuts graph lists)

-- An act receives a path that the table doesn't name.
abbrev pub ReceivesForeign : Nodes → Path → Act → Type 0
ReceivesForeign nodes p Start = ⊥
ReceivesForeign nodes p (Recv received) = IsForeign nodes received p
ReceivesForeign nodes p (Set parent slot v) = ⊥
ReceivesForeign nodes p (Branch parent) = ⊥
ReceivesForeign nodes p (Forward parent) = ⊥
ReceivesForeign nodes p (Trim parent budget) = ⊥
ReceivesForeign nodes p (Join parents) = ⊥

-- A step that reaches n receives a path that the table doesn't name.
abbrev pub IsForeignOf : Nodes → Graph → ℕ → Path → Type 0
IsForeignOf nodes graph n p = IsReachedBy graph n (λ step. ReceivesForeign nodes p step.act)

-- ---- two steps

-- Two steps, of one graph or of two, are reached by the same additions.
abbrev pub AreReachedAlike : Nodes → Graph → ℕ → Graph → ℕ → Type 0
AreReachedAlike nodes graph n other m =
    (vs : Values) → IsAdded nodes graph n vs ↔ IsAdded nodes other m vs

-- An act writes the value at the slot.
abbrev pub Writes : ℕ → Value → Act → Type 0
Writes slot v Start = ⊥
Writes slot v (Recv received) = ⊥
Writes slot v (Set parent own w) = (own ≡ slot) × (w ≡ v)
Writes slot v (Branch parent) = ⊥
Writes slot v (Forward parent) = ⊥
Writes slot v (Trim parent budget) = ⊥
Writes slot v (Join parents) = ⊥

-- An act receives the list.
abbrev pub Receives : List Atom → Act → Type 0
Receives list Start = ⊥
Receives list (Recv received) = received ≡ list
Receives list (Set parent slot v) = ⊥
Receives list (Branch parent) = ⊥
Receives list (Forward parent) = ⊥
Receives list (Trim parent budget) = ⊥
Receives list (Join parents) = ⊥

-- Two steps are reached by the same writes and the same received lists.
pub record AreReachedBySame (graph : Graph) (n : ℕ) (other : Graph) (m : ℕ) : Type 0 where
  pub writes : (slot : ℕ) (v : Value)
      → IsReachedBy graph n (λ step. Writes slot v step.act)
      ↔ IsReachedBy other m (λ step. Writes slot v step.act)
  pub received : (list : List Atom)
      → IsReachedBy graph n (λ step. Receives list step.act)
      ↔ IsReachedBy other m (λ step. Receives list step.act)

-- Steps that the same writes and received lists reach are reached by the same additions.
abbrev pub SameWritesReachAlike : Type 0
SameWritesReachAlike = (nodes : Nodes) (graph : Graph) (n : ℕ) (other : Graph) (m : ℕ)
    → AreReachedBySame graph n other m → AreReachedAlike nodes graph n other m

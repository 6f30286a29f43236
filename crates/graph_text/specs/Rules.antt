-- The rules for a line that has a form, by what the lines before it said. Each may speak as if the
-- line kept those before it.
use Rattle.std.specs.Prelude.{◌≡◌, ◌≢◌, ◌⊎◌, ℕ, ◌<◌, ◌≤◌, List, [], ◌∷◌, length, None, Some}
use Rattle.context_model.specs.Framing.{least_budget}
use Rattle.context_model.specs.Orders.{IsIn}
use Rattle.bag_model.specs.Shapes.{Nodes}
use Rattle.bag_model.specs.Slots.{SlotAt, FindsSlot, FindsRange}
use Rattle.bag_model.specs.SlotValues.{HasSlot}
use Rattle.bag_model.specs.Values.{Value}
use Rattle.bag_model.specs.Views.{Knows}
use Rattle.text_lines.specs.HexLines.{hex_bytes}
use Rattle.text_lines.specs.declared.TheConstants.{DIGITS_MAX}
use Rattle.trace_model.specs.Graphs.{Graph, form_at, view_at}
use Rattle.field_writes.specs.Writes.{IsWrite}
use Rattle.recorded_graph.specs.declared.graphs.TheConstants.{STEPS_MAX}
use Rattle.graph_lines.specs.Statements.{NamedView, Statement, Only, Recv, Set, Trim, Join, Service, Step}
use Rattle.graph_text.specs.declared.TheConstants.{BUDGET_MAX, PARENTS_MAX}
use Rattle.graph_text.specs.declared.faults.GraphCode.{GraphCode}
use Rattle.graph_text.specs.declared.faults.GraphCode.TheVariants.{Form, StepNumber, NoSuchStep, NoSuchService, DuplicateService, WrongService, NoSuchPath, NotKnown, BadValue, BudgetRange, TooManySteps, TooManyParents, HexTooLong, BadHex}
use Rattle.graph_text.specs.Names.{service_named, service_at, steps_named, goes_to}

-- The number of a step isn't that of the steps before it.
abbrev pub IsMisnumbered : Graph → Statement → Type 0
IsMisnumbered graph (Step number act) = number ≢ length graph.steps
IsMisnumbered graph other = ⊥

-- A parent, or a step to be shown, is no step before the line.
abbrev pub NamesNoStep : Graph → Statement → Type 0
NamesNoStep graph line = (n : ℕ) × IsIn n (steps_named line) × (length graph.steps ≤ n)

-- A step goes to a service that isn't declared before it.
abbrev pub GoesNowhere : Graph → Statement → Type 0
GoesNowhere graph (Step number act) =
    (name : List ℕ) × (goes_to act ≡ Some name) × (service_named graph name ≡ None)
GoesNowhere graph other = ⊥

-- A service is declared that was declared before, in whatever form.
abbrev pub Redeclares : Graph → Statement → Type 0
Redeclares graph (Service form name view) = (n : ℕ) × (service_named graph name ≡ Some n)
Redeclares graph other = ⊥

-- The parents of a join aren't all at one service.
abbrev pub JoinsApart : Graph → Statement → Type 0
JoinsApart graph (Step number (Join parents)) =
    (a b : ℕ) × IsIn a parents × IsIn b parents × (service_at graph a ≢ service_at graph b)
JoinsApart graph other = ⊥

-- A path of a view is that of no field that is reached through bags.
abbrev pub MissesPath : Nodes → NamedView → Type 0
MissesPath table (Only paths) = (path : List ℕ) × IsIn path paths × FindsRange table path None
MissesPath table other = ⊥

-- A write's path is no slot's, or a view's path is that of no field that is reached through bags.
abbrev pub NamesNoPath : Nodes → Statement → Type 0
NamesNoPath table (Step number (Set parent path write)) = FindsSlot table path None
NamesNoPath table (Service form name view) = MissesPath table view
NamesNoPath table other = ⊥

-- A write is to a slot that the service doesn't know.
abbrev pub WritesUnknown : Nodes → Graph → Statement → Type 0
WritesUnknown table graph (Step number (Set parent path write)) =
    (slot service : ℕ) × FindsSlot table path (Some slot) × (service_at graph parent ≡ Some service)
    × ¬ (Knows (view_at graph service) slot)
WritesUnknown table graph other = ⊥

-- A write's text is no write of the slot's shape in the form of the step's service.
abbrev pub Miswrites : Nodes → Graph → Statement → Type 0
Miswrites table graph (Step number (Set parent path write)) =
    (slot service : ℕ) × (at : SlotAt) × FindsSlot table path (Some slot) × HasSlot table slot at
    × (service_at graph parent ≡ Some service)
    × ((v : Value) → ¬ (IsWrite (form_at graph service) at.shape v write))
Miswrites table graph other = ⊥

-- The budget of a trim is below the least that a list can be cut to in the form of the step's
-- service, or above the greatest.
abbrev pub HasNoBudget : Graph → Statement → Type 0
HasNoBudget graph (Step number (Trim parent budget)) =
    ((service : ℕ) × (service_at graph parent ≡ Some service)
    × (budget < least_budget (form_at graph service)))
    ⊎ (BUDGET_MAX < budget)
HasNoBudget graph other = ⊥

-- A step comes after as many steps as there may be.
abbrev pub IsOneTooMany : Graph → Statement → Type 0
IsOneTooMany graph (Step number act) = STEPS_MAX ≤ length graph.steps
IsOneTooMany graph other = ⊥

-- A join has more parents than it may.
abbrev pub JoinsTooMany : Statement → Type 0
JoinsTooMany (Step number (Join parents)) = PARENTS_MAX < length parents
JoinsTooMany other = ⊥

-- What is received is too long a word.
abbrev pub ReceivesTooMuch : Statement → Type 0
ReceivesTooMuch (Step number (Recv name hex)) = DIGITS_MAX < length hex
ReceivesTooMuch other = ⊥

-- What is received is neither a dash nor pairs of hexadecimal digits.
abbrev pub ReceivesNoHex : Statement → Type 0
ReceivesNoHex (Step number (Recv name hex)) = hex_bytes hex ≡ None
ReceivesNoHex other = ⊥

-- The line breaks the rule of this code, after lines that said this graph.
abbrev pub StatementBreaks : Nodes → Graph → Statement → GraphCode → Type 0
StatementBreaks table graph line Form = ⊥
StatementBreaks table graph line StepNumber = IsMisnumbered graph line
StatementBreaks table graph line NoSuchStep = NamesNoStep graph line
StatementBreaks table graph line NoSuchService = GoesNowhere graph line
StatementBreaks table graph line DuplicateService = Redeclares graph line
StatementBreaks table graph line WrongService = JoinsApart graph line
StatementBreaks table graph line NoSuchPath = NamesNoPath table line
StatementBreaks table graph line NotKnown = WritesUnknown table graph line
StatementBreaks table graph line BadValue = Miswrites table graph line
StatementBreaks table graph line BudgetRange = HasNoBudget graph line
StatementBreaks table graph line TooManySteps = IsOneTooMany graph line
StatementBreaks table graph line TooManyParents = JoinsTooMany line
StatementBreaks table graph line HexTooLong = ReceivesTooMuch line
StatementBreaks table graph line BadHex = ReceivesNoHex line

-- The rules in the order in which they count.
abbrev pub graph_rules : List GraphCode
graph_rules =
    StepNumber ∷ NoSuchStep ∷ NoSuchService ∷ DuplicateService ∷ WrongService ∷ NoSuchPath
    ∷ NotKnown ∷ BadValue
    ∷ BudgetRange ∷ TooManySteps ∷ TooManyParents ∷ HexTooLong ∷ BadHex ∷ []

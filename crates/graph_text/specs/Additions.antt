-- What a good line adds to a graph.
use Rattle.std.specs.Prelude.{◌≡◌, ◌⊎◌, ◌↔◌, ℕ, List, [], ◌∷◌, length, None, Some}
use Rattle.std.specs.Ordering.{nat_cmp}
use Rattle.context_model.specs.declared.Form.{Form as WireForm}
use Rattle.context_model.specs.Atoms.{Atom}
use Rattle.context_model.specs.ContextFault.{IsContextOf, IsFirstContextFault}
use Rattle.context_model.specs.Framing.{form_of, offset_of}
use Rattle.context_model.specs.Orders.{IsIn, Rises}
use Rattle.bag_model.specs.Readings.{PathsOf}
use Rattle.bag_model.specs.Shapes.{Nodes}
use Rattle.bag_model.specs.Slots.{SlotAt, FindsSlot, FindsRange, IsInRange}
use Rattle.bag_model.specs.SlotValues.{HasSlot}
use Rattle.bag_model.specs.Typed.{AreTyped, IsFirstIllTyped}
use Rattle.bag_model.specs.Values.{Value}
use Rattle.bag_model.specs.Views as views
use Rattle.bag_model.specs.Views.{View, Knows}
use Rattle.text_lines.specs.declared.hex_lines.HexCode.{HexCode}
use Rattle.text_lines.specs.declared.hex_lines.HexCode.TheVariants as digits
use Rattle.text_lines.specs.HexLines.{hex_bytes, hex_codes, BreaksHex, IsHexFault}
use Rattle.text_lines.specs.Readings.{IsFirstOf, NoneOf}
use Rattle.trace_model.specs.Graphs as graphs
use Rattle.trace_model.specs.Graphs.{Act, Graph, form_at, view_at}
use Rattle.wire_bytes.specs.declared.contexts.ByteCode.{ByteCode}
use Rattle.wire_bytes.specs.Reading.{byte_code_of}
use Rattle.field_writes.specs.Writes.{IsWrite}
use Rattle.recorded_graph.specs.Graphs.{empty_graph, with_service, with_step, with_show}
use Rattle.graph_lines.specs.Statements.{NamedView, NamedAct, Statement, All, Nothing, Only, Start, Recv, Set, Branch, Forward, Trim, Join, Service, Step, Show}
use Rattle.graph_text.specs.declared.faults.GraphCode.{GraphCode}
use Rattle.graph_text.specs.declared.faults.GraphCode.TheVariants.{NoSuchPath, NotKnown, BadValue, HexTooLong, BadHex}
use Rattle.graph_text.specs.declared.faults.LineFault.{LineFault}
use Rattle.graph_text.specs.declared.faults.LineFault.TheVariants.{Code, Bytes, IllTyped}
use Rattle.outside.specs.declared.answers.OrMemory.{OrMemory}
use Rattle.outside.specs.declared.answers.OrMemory.TheVariants.{Fault, Memory}
use Rattle.graph_text.specs.Names.{service_named, service_at}
use Rattle.graph_text.specs.Rules.{MissesPath, StatementBreaks, graph_rules}

-- A service, a step, or a step that is shown.
pub data Addition : Type 0 where
  AddService : graphs.Service → Addition
  AddStep : graphs.Step → Addition
  AddShow : ℕ → Addition

-- The graph with one addition more.
abbrev pub with_addition : Graph → Addition → Graph
with_addition graph (AddService service) = with_service graph service
with_addition graph (AddStep step) = with_step graph step
with_addition graph (AddShow n) = with_show graph n

-- The graph with these additions, one after the other.
abbrev pub grown : Graph → List Addition → Graph
grown graph [] = graph
grown graph (addition ∷ more) = grown (with_addition graph addition) more

-- The graph of these additions.
abbrev pub graph_of : List Addition → Graph
graph_of every = grown empty_graph every

-- ---- what names stand for

-- The slots of all fields with these paths, each once, in rising order.
pub record AreSlotsOf (table : Nodes) (paths : List (List ℕ)) (slots : List ℕ) : Type 0 where
  pub rises : Rises nat_cmp slots
  pub each : (slot : ℕ)
      → IsIn slot slots ↔ ((path : List ℕ) × (range : ℕ × ℕ)
      × IsIn path paths × FindsRange table path (Some range) × IsInRange (Some range) slot)

-- Some of these ranges has the slot.
abbrev pub InSome : List (ℕ × ℕ) → ℕ → Type 0
InSome ranges slot = (range : ℕ × ℕ) × IsIn range ranges × IsInRange (Some range) slot

-- The ranges are those of the fields with these paths, one for each.
abbrev pub AreRangesOf : Nodes → List (List ℕ) → List (ℕ × ℕ) → Type 0
AreRangesOf table [] [] = Unit {0}
AreRangesOf table [] (range ∷ ranges) = ⊥
AreRangesOf table (path ∷ paths) [] = ⊥
AreRangesOf table (path ∷ paths) (range ∷ ranges) =
    FindsRange table path (Some range) × AreRangesOf table paths ranges

-- A view that names paths knows the slots of their fields.
abbrev pub MeansView : Nodes → NamedView → View → Type 0
MeansView table All view = view ≡ views.All
MeansView table Nothing view = view ≡ views.Nothing
MeansView table (Only paths) view =
    (slots : List ℕ) × AreSlotsOf table paths slots × (view ≡ views.Only slots)

-- The digits are those of a context that is typed under the table.
abbrev pub SaysTypedContext : Nodes → List ℕ → List Atom → Type 0
SaysTypedContext table hex list =
    (bytes : List ℕ) × (hex_bytes hex ≡ Some bytes) × IsContextOf list bytes
    × AreTyped table (PathsOf list) []

-- The path is that of this slot, which the service of this step knows.
abbrev pub FindsKnown : Nodes → Graph → ℕ → List ℕ → ℕ → Type 0
FindsKnown table graph step path slot =
    (service : ℕ) × FindsSlot table path (Some slot) × (service_at graph step ≡ Some service)
    × Knows (view_at graph service) slot

-- The text is a write of this value to this slot, in the form.
abbrev pub IsWriteAt : Nodes → WireForm → ℕ → Value → List ℕ → Type 0
IsWriteAt table form slot v write =
    (at : SlotAt) × HasSlot table slot at × IsWrite form at.shape v write

-- The text is a write of this value, in the form, to the slot that has this path and this number.
abbrev pub SaysWriteAt : Nodes → WireForm → List ℕ → List ℕ → ℕ → Value → Type 0
SaysWriteAt table form path write slot v =
    (at : SlotAt) × FindsSlot table path (Some slot) × HasSlot table slot at
    × IsWrite form at.shape v write

-- An act with its names is this act at a service of the form.
abbrev pub MeansAct : Nodes → WireForm → NamedAct → Act → Type 0
MeansAct table form (Start name) act = act ≡ graphs.Start
MeansAct table form (Recv name hex) act =
    (list : List Atom) × SaysTypedContext table hex list × (act ≡ graphs.Recv list)
MeansAct table form (Set parent path write) act =
    (slot : ℕ) × (v : Value) × SaysWriteAt table form path write slot v
    × (act ≡ graphs.Set parent slot v)
MeansAct table form (Branch parent) act = act ≡ graphs.Branch parent
MeansAct table form (Forward parent name) act = act ≡ graphs.Forward parent
MeansAct table form (Trim parent budget) act = act ≡ graphs.Trim parent budget
MeansAct table form (Join parents) act = act ≡ graphs.Join parents

-- The act is at the service with this number: the one that it goes to, or else that of its first
-- parent.
abbrev pub StandsAtService : Graph → NamedAct → ℕ → Type 0
StandsAtService graph (Start name) service = service_named graph name ≡ Some service
StandsAtService graph (Recv name hex) service = service_named graph name ≡ Some service
StandsAtService graph (Set parent path write) service = service_at graph parent ≡ Some service
StandsAtService graph (Branch parent) service = service_at graph parent ≡ Some service
StandsAtService graph (Forward parent name) service = service_named graph name ≡ Some service
StandsAtService graph (Trim parent budget) service = service_at graph parent ≡ Some service
StandsAtService graph (Join []) service = ⊥
StandsAtService graph (Join (parent ∷ parents)) service = service_at graph parent ≡ Some service

-- What a line adds, after lines that said this graph.
abbrev pub LineAdds : Nodes → Graph → Statement → Addition → Type 0
LineAdds table graph (Service form name named) addition =
    (view : View) × MeansView table named view
    × (addition ≡ AddService (record { name = name; form = form; view = view }))
LineAdds table graph (Step number named) addition =
    (service : ℕ) × (act : Act) × StandsAtService graph named service
    × MeansAct table (form_at graph service) named act
    × (addition ≡ AddStep (record { service = service; act = act }))
LineAdds table graph (Show n) addition = addition ≡ AddShow n

-- ---- good and bad lines

-- The line breaks no rule and adds this.
abbrev pub IsGoodStatement : Nodes → Graph → Statement → Addition → Type 0
IsGoodStatement table graph line addition =
    NoneOf (StatementBreaks table graph line) graph_rules × LineAdds table graph line addition

-- An act is good as the next step, and this is the step.
abbrev pub IsNextStep : Nodes → Graph → NamedAct → graphs.Step → Type 0
IsNextStep table graph named step =
    IsGoodStatement table graph (Step (length graph.steps) named) (AddStep step)

-- The graph grows to this one by what a good line adds.
abbrev pub GrowsTo : Nodes → Graph → Statement → Graph → Type 0
GrowsTo table graph line next =
    (addition : Addition) × IsGoodStatement table graph line addition
    × (next ≡ with_addition graph addition)

-- The digits are those of no context, or of one that isn't typed under the table: this is what is
-- first wrong with them.
abbrev pub HasBadBytes : Nodes → List ℕ → LineFault → Type 0
HasBadBytes table hex fault =
    (bytes : List ℕ) × (hex_bytes hex ≡ Some bytes)
    × (((offset : ℕ) × (code : ByteCode) × IsFirstContextFault bytes offset (byte_code_of code)
    × (fault ≡ Bytes offset code))
    ⊎ ((list : List Atom) × (place : ℕ) × IsContextOf list bytes × IsFirstIllTyped table list place
    × (fault ≡ IllTyped (offset_of (form_of bytes) list place))))

-- A fault of digits as that of a line.
abbrev pub hex_rule : HexCode → GraphCode
hex_rule digits.HexTooLong = HexTooLong
hex_rule digits.BadHex = BadHex

-- The digits are refused: they are none, or those of no typed context, or memory is wanting for
-- them.
abbrev pub IsRefusedHex : Nodes → List ℕ → OrMemory LineFault → Type 0
IsRefusedHex table hex (Fault fault) =
    ((code : HexCode) × IsHexFault hex code × (fault ≡ Code (hex_rule code)))
    ⊎ (NoneOf (BreaksHex hex) hex_codes × HasBadBytes table hex fault)
IsRefusedHex table hex Memory = Unit {0}

-- A path is refused for a write at a step: it is no slot's, or that of a slot that the service of
-- the step doesn't know.
abbrev pub IsRefusedPath : Nodes → Graph → ℕ → List ℕ → GraphCode → Type 0
IsRefusedPath table graph step path code =
    ((code ≡ NoSuchPath) × FindsSlot table path None)
    ⊎ ((code ≡ NotKnown)
    × ((slot service : ℕ) × FindsSlot table path (Some slot)
    × (service_at graph step ≡ Some service)
    × ¬ (Knows (view_at graph service) slot)))

-- A text is refused as a write to a slot: it is no write of its shape in the form, or memory is
-- wanting for it.
abbrev pub IsRefusedWrite : Nodes → WireForm → ℕ → List ℕ → OrMemory LineFault → Type 0
IsRefusedWrite table form slot write (Fault fault) =
    ((at : SlotAt) × HasSlot table slot at × ((v : Value) → ¬ (IsWrite form at.shape v write)))
    × (fault ≡ Code BadValue)
IsRefusedWrite table form slot write Memory = Unit {0}

-- A view is refused: a path of it finds no field, or memory is wanting for it.
abbrev pub IsRefusedView : Nodes → NamedView → OrMemory LineFault → Type 0
IsRefusedView table named (Fault fault) = MissesPath table named × (fault ≡ Code NoSuchPath)
IsRefusedView table named Memory = Unit {0}

-- What is first wrong with the context that a line receives.
abbrev pub ReceivesBad : Nodes → Statement → LineFault → Type 0
ReceivesBad table (Step number (Recv name hex)) fault = HasBadBytes table hex fault
ReceivesBad table other fault = ⊥

-- The line breaks this rule first, or it breaks none and this is wrong with the context that it
-- receives.
abbrev pub IsBadStatement : Nodes → Graph → Statement → LineFault → Type 0
IsBadStatement table graph line fault =
    ((code : GraphCode) × IsFirstOf (StatementBreaks table graph line) graph_rules code
    × (fault ≡ Code code))
    ⊎ (NoneOf (StatementBreaks table graph line) graph_rules × ReceivesBad table line fault)

-- The line is refused: it is bad, or memory is wanting for it.
abbrev pub IsRefusedStatement : Nodes → Graph → Statement → OrMemory LineFault → Type 0
IsRefusedStatement table graph line (Fault fault) = IsBadStatement table graph line fault
IsRefusedStatement table graph line Memory = Unit {0}

-- An act is refused as the next step.
abbrev pub IsRefusedNext : Nodes → Graph → NamedAct → OrMemory LineFault → Type 0
IsRefusedNext table graph named refusal =
    IsRefusedStatement table graph (Step (length graph.steps) named) refusal

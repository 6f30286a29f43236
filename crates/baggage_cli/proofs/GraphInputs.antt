-- Lines of a graph, as lines of an input.
use Rattle.std.proofs.Common.{◌≡◌, inl, inr, ℕ, List, [], ◌∷◌, ◌++◌, Result, Ok, Err, refl, sym, subst}
use Rattle.std.specs.Global.{Vec}
use Rattle.std.specs.Result.{IsErrAnd}
use Rattle.bag_model.specs.Shapes.{Nodes}
use Rattle.text_lines.specs.Lines.{Line, lines_of}
use Rattle.text_lines.specs.Readings.{AllSay, IsFirstBad}
use Rattle.trace_model.specs.Graphs.{Graph}
use Rattle.graph_text.specs.Additions.{Addition, graph_of}
use Rattle.graph_text.specs.Reading.{graph_lines, IsGraphOf, IsGraphRefusalOf}
use Rattle.graph_text.specs.declared.faults.GraphFault.{GraphFault}
use Rattle.graph_text.specs.declared.faults.GraphFault.TheVariants as graphs
use Rattle.graph_text.specs.declared.faults.LineFault.{LineFault}
use Rattle.graph_text.specs.declared.faults.LineFault.TheVariants as lines
use Rattle.baggage_cli.specs.declared.refusals.Refusal.{Refusal}
use Rattle.baggage_cli.specs.Outcomes.{Outcome, outcome_of, OrMemory}
use Rattle.baggage_cli.specs.Reading.{Within}
use Rattle.baggage_cli.specs.Refusals.{graph_refusal}
use Rattle.baggage_cli.specs.Run.{input_fault, graph_inputs, GraphGives, SaysGraph}

-- What lines add to a graph they say as an input.
pub inputs_say : (table : Nodes) (earlier : List Addition) (lines : List Line) (said : List Addition) → AllSay (graph_lines table) earlier lines said → AllSay (graph_inputs table) earlier lines said
inputs_say table earlier [] [] all = tt
inputs_say table earlier [] (a ∷ said) all = absurd all
inputs_say table earlier (line ∷ lines) [] all = absurd all
inputs_say table earlier (line ∷ lines) (a ∷ said) all = (all.0, inputs_say table (earlier ++ a ∷ []) lines said all.1)

-- What lines say as an input they add to a graph.
pub lines_say : (table : Nodes) (earlier : List Addition) (lines : List Line) (said : List Addition) → AllSay (graph_inputs table) earlier lines said → AllSay (graph_lines table) earlier lines said
lines_say table earlier [] [] all = tt
lines_say table earlier [] (a ∷ said) all = absurd all
lines_say table earlier (line ∷ lines) [] all = absurd all
lines_say table earlier (line ∷ lines) (a ∷ said) all = (all.0, lines_say table (earlier ++ a ∷ []) lines said all.1)

-- The first bad line of a graph is that of an input.
input_bad : (table : Nodes) (lines : List Line) (number : ℕ) (fault : LineFault) → IsFirstBad (graph_lines table) lines number fault → IsFirstBad (graph_inputs table) lines number (input_fault fault)
input_bad table lines number fault bad = record {
  before = bad.before;
  line = bad.line;
  after = bad.after;
  said = bad.said;
  split = bad.split;
  good = inputs_say table [] bad.before bad.said bad.good;
  bad = (fault, bad.bad, refl);
  number_is = bad.number_is;
}

refused_graph : (gives : Graph → List ℕ → Type 0) (table : Nodes) (text : List ℕ) (fault : GraphFault) → IsGraphRefusalOf table text fault → OrMemory (GraphGives table gives (lines_of text)) (Err (graph_refusal fault))
refused_graph gives table text (graphs.At number code) bad = inr (number, input_fault (lines.Code code), input_bad table (lines_of text) number (lines.Code code) bad, refl)
refused_graph gives table text (graphs.Bytes number offset code) bad =
    inr (number, input_fault (lines.Bytes offset code), input_bad table (lines_of text) number (lines.Bytes offset code) bad, refl)
refused_graph gives table text (graphs.IllTyped number offset) bad =
    inr (number, input_fault (lines.IllTyped offset), input_bad table (lines_of text) number (lines.IllTyped offset) bad, refl)
refused_graph gives table text graphs.Memory bad = inl refl

-- Why a text says no graph is the refusal of each command that reads one.
pub refused_text : (gives : Graph → List ℕ → Type 0) (table : Nodes) (text : List ℕ) (result : Result (Vec ℕ) Refusal) (fault : GraphFault) → IsErrAnd result (λ other. other ≡ graph_refusal fault)
    → IsGraphRefusalOf table text fault → OrMemory (GraphGives table gives (lines_of text)) (outcome_of result)
refused_text gives table text (Ok output) fault is bad = absurd is
refused_text gives table text (Err other) fault is bad = subst (λ r. OrMemory (GraphGives table gives (lines_of text)) (Err r)) (sym is) (refused_graph gives table text fault bad)

-- What a graph gives that a text says, is what the lines come to.
pub graph_gave : (gives : Graph → List ℕ → Type 0) (table : Nodes) (text : List ℕ) (graph : Graph) (output : List ℕ) → IsGraphOf table text graph → gives graph output
    → GraphGives table gives (lines_of text) (Ok output)
graph_gave gives table text graph output (every, all, is) gave = (every, inputs_say table [] (lines_of text) every all, subst (λ g. gives g output) is gave)

no_output : (output : List ℕ) (refusal : Refusal) → ◌≡◌ {A = Outcome} (Ok output) (Err refusal) → ⊥
no_output output refusal e = cc e

-- An output that lines give is one for a graph that they say.
pub said_graph : (gives : Graph → List ℕ → Type 0) (table : Nodes) (input output : List ℕ) → GraphGives table gives (lines_of input) (Ok output) → (graph : Graph) × IsGraphOf table input graph × gives graph output
said_graph gives table input output (every, all, gave) = (graph_of every, (every, lines_say table [] (lines_of input) every all, refl), gave)

pub given_graph : (gives : Graph → List ℕ → Type 0) (table : Nodes) (input output : List ℕ) → Within (GraphGives table gives) input (Ok output) → (graph : Graph) × SaysGraph table input graph × gives graph output
given_graph gives table input output (inl long) = absurd (no_output output _ long.1)
given_graph gives table input output (inr (short, gave)) = let (graph, says, given) = said_graph gives table input output gave in (graph, (short, says), given)

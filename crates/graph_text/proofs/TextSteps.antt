-- The steps of a reader over the lines of a text.
use Rattle.std.proofs.Common.{◌≡◌, ℕ, List, [], ◌∷◌, ◌++◌, map, sym, ◌∙◌, subst}
use Rattle.std.proofs.lemmas.List.{map-append}
use Rattle.bag_model.specs.Shapes.{Nodes}
use Rattle.text_lines.specs.Lines.{Line, line_value, lines_of}
use Rattle.text_lines.specs.declared.lines.Line.{Line as LineItem}
use Rattle.text_lines.specs.Readings.{AllSay}
use Rattle.text_lines.proofs.ReadingLaws.{all_say_more, next_bad}
use Rattle.trace_model.specs.Graphs.{Graph}
use Rattle.graph_text.specs.declared.faults.LineFault.{LineFault}
use Rattle.graph_text.specs.declared.faults.LineFault.TheVariants.{Code, Bytes, IllTyped}
use Rattle.outside.specs.declared.answers.OrMemory.{OrMemory}
use Rattle.outside.specs.declared.answers.OrMemory.TheVariants.{Fault, Memory}
use Rattle.graph_text.specs.Additions.{Addition, with_addition, graph_of}
use Rattle.graph_text.specs.Reading.{SaysAddition, HasFault, IsRefusedText, graph_lines, IsGraphRefusalOf, graph_fault_at}
use Rattle.graph_text.proofs.Grown.{graph_of_more}

-- The lines so far say the graph.
abbrev pub SaysSoFar : Nodes → List Line → Graph → Type 0
SaysSoFar table lines graph = (said : List Addition) × AllSay (graph_lines table) [] lines said × (graph ≡ graph_of said)

-- One line more says the graph with its addition.
pub says_more : (table : Nodes) (lines : List LineItem) (graph next : Graph) (line : LineItem)
    → SaysSoFar table (map line_value lines) graph → (addition : Addition) × SaysAddition table graph line.text.now addition × (next ≡ with_addition graph addition)
    → SaysSoFar table (map line_value (lines ++ line ∷ [])) next
says_more table lines graph next line (said, all, is) (addition, says, grows) = (
  said ++ addition ∷ [],
  subst (λ ls. AllSay (graph_lines table) [] ls (said ++ addition ∷ [])) (sym (map-append line_value lines (line ∷ [])))
      (all_say_more (graph_lines table) (map line_value lines) said (line_value line) addition all (subst (λ g. SaysAddition table g line.text.now addition) is says)),
  grows ∙ subst (λ g. with_addition g addition ≡ graph_of (said ++ addition ∷ [])) (sym is) (sym (graph_of_more said addition)),
)

-- A line that is refused is the first bad one.
pub refused_at : (table : Nodes) (text : List ℕ) (before : List Line) (line : Line) (after rest : List Line) (graph : Graph) (refusal : OrMemory LineFault)
    → lines_of text ≡ before ++ rest → rest ≡ line ∷ after → SaysSoFar table before graph → IsRefusedText table graph line.1 refusal
    → IsGraphRefusalOf table text (graph_fault_at line.0 refusal)
refused_at table text before line after rest graph (Fault (Code code)) split next (said, all, is) bad =
    next_bad (graph_lines table) (lines_of text) before line after rest said (Code code) split next all (subst (λ g. HasFault table g line.1 (Code code)) is bad)
refused_at table text before line after rest graph (Fault (Bytes offset code)) split next (said, all, is) bad =
    next_bad (graph_lines table) (lines_of text) before line after rest said (Bytes offset code) split next all (subst (λ g. HasFault table g line.1 (Bytes offset code)) is bad)
refused_at table text before line after rest graph (Fault (IllTyped offset)) split next (said, all, is) bad =
    next_bad (graph_lines table) (lines_of text) before line after rest said (IllTyped offset) split next all (subst (λ g. HasFault table g line.1 (IllTyped offset)) is bad)
refused_at table text before line after rest graph Memory split next so_far bad = tt

-- Graphs grow by one addition after the other.
use Rattle.std.proofs.Common.{◌≡◌, List, [], ◌∷◌, ◌++◌, refl}
use Rattle.trace_model.specs.Graphs.{Graph}
use Rattle.recorded_graph.specs.Graphs.{empty_graph}
use Rattle.graph_text.specs.Additions.{Addition, with_addition, grown, graph_of}

grown_more : (graph : Graph) (every : List Addition) (a : Addition) → grown graph (every ++ a ∷ []) ≡ with_addition (grown graph every) a
grown_more graph [] a = refl
grown_more graph (b ∷ every) a = grown_more (with_addition graph b) every a

-- The graph of one addition more is the graph with it.
pub graph_of_more : (every : List Addition) (a : Addition) → graph_of (every ++ a ∷ []) ≡ with_addition (graph_of every) a
graph_of_more every a = grown_more empty_graph every a

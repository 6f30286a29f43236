-- The text of the load says its graph.
use Rattle.std.proofs.Common.{◌≡◌, ℕ, ◌+◌, ◌*◌, ◌≤◌, List, [], ◌∷◌, ◌++◌, length, map, refl, sym, ◌∙◌, ap, subst, append_assoc}
use Rattle.std.proofs.lemmas.List.{append-nil}
use Rattle.text_lines.specs.Lines.{Line, numbered}
use Rattle.text_lines.specs.Readings.{AllSay}
use Rattle.trace_model.specs.Graphs.{Graph}
use Rattle.recorded_graph.specs.Graphs.{empty_graph}
use Rattle.graph_lines.specs.Statements.{Statement}
use Rattle.graph_text.specs.Additions.{Addition, with_addition, grown, graph_of}
use Rattle.graph_text.specs.Reading.{graph_lines, IsGraphOf}
use Rattle.load_maker.specs.Loads.{load_table, load_lines, load_text}
use Rattle.load_maker.proofs.CleanLines.{words_text, SayClean, clean_utf8, lines_said}
use Rattle.load_maker.proofs.GoodLines.{Grows}
use Rattle.load_maker.proofs.Rounds.{load_grows}

grown_more : (graph : Graph) (every : List Addition) (a : Addition) → grown graph (every ++ a ∷ []) ≡ with_addition (grown graph every) a
grown_more graph [] a = refl
grown_more graph (b ∷ every) a = grown_more (with_addition graph b) every a

-- The lines of statements that may be added say what they add.
all_say : (statements : List Statement) (earlier : List Addition) (number : ℕ) (after : Graph) → Grows (graph_of earlier) statements after
    → (every : List Addition) × AllSay (graph_lines load_table) earlier (numbered number (map words_text statements)) every × (after ≡ graph_of (earlier ++ every))
all_say [] earlier number after same = ([], tt, same ∙ ap graph_of (sym (append-nil earlier)))
all_say (line ∷ rest) earlier number after (addition, may, grows) =
    let one_more : with_addition (graph_of earlier) addition ≡ graph_of (earlier ++ addition ∷ []) = sym (grown_more empty_graph earlier addition) in
    let more = all_say rest (earlier ++ addition ∷ []) (number + 1) after (subst (λ (graph : Graph). Grows graph rest after) one_more grows) in (
      addition ∷ more.0,
      ((line, (clean_utf8 (words_text line) may.clean, may.sound, refl), may.good), more.1),
      more.2 ∙ ap graph_of (append_assoc earlier (addition ∷ []) more.0),
    )

clean_said : (graph after : Graph) (statements : List Statement) → Grows graph statements after → SayClean statements
clean_said graph after [] grows = tt
clean_said graph after (line ∷ rest) (addition, may, grows) = (may.clean, clean_said (with_addition graph addition) after rest grows)

pub load_is_accepted : (rounds : ℕ) → rounds ≤ 1000
    → (graph : Graph) × IsGraphOf load_table (load_text rounds) graph × (length graph.steps ≡ 42 * rounds + 1) × (graph.shows ≡ 42 * rounds ∷ [])
load_is_accepted rounds few =
    let load = load_grows rounds few in
    let said = all_say (load_lines rounds) [] 1 load.0 load.1 in
    let clean = clean_said empty_graph load.0 (load_lines rounds) load.1 in (
      load.0,
      (said.0, subst (λ (every : List Line). AllSay (graph_lines load_table) [] every said.0) (sym (lines_said (load_lines rounds) clean)) said.1, said.2),
      load.2,
      load.3,
    )

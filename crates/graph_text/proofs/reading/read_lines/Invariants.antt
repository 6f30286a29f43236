use Rattle.std.proofs.Common.{◌≡◌, List, [], map}
use Rattle.text_lines.specs.Lines.{line_value}
use Rattle.text_lines.specs.Readings.{AllSay}
use Rattle.graph_text.specs.Additions.{Addition, graph_of}
use Rattle.graph_text.specs.Reading.{graph_lines}
use Rattle.graph_text.proofs.reading.read_lines.Given as goal

abbrev pub invariant-loop-line : goal.invariant-loop-line
invariant-loop-line l =
    (said : List Addition) × AllSay (graph_lines l.table) [] (map line_value l.yielded) said × (l.reader ≡ graph_of said)

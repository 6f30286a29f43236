use Rattle.std.proofs.Common.{List, [], map}
use Rattle.text_lines.specs.Lines.{line_value}
use Rattle.text_lines.specs.Readings.{AllSay}
use Rattle.text_carrier.specs.Pieces.{Piece}
use Rattle.text_carrier.specs.Rules.{piece_lines}
use Rattle.text_carrier.specs.Views.{Keeps}
use Rattle.text_carrier.proofs.collecting.read_lines.Given as goal

abbrev pub invariant-loop-line : goal.invariant-loop-line
invariant-loop-line l = (said : List Piece) × AllSay piece_lines [] (map line_value l.yielded) said × Keeps said l.pieces

use Rattle.std.proofs.Common.{◌≡◌, ◌+◌, ◌<◌, ◌^◌, length}
use Rattle.std.specs.Str.Lines.{lines}
use Rattle.text_lines.specs.Lines.{numbered, kept}
use Rattle.text_lines.proofs.lines.LinesIterator.next.Given as goal

abbrev pub invariant-loop-text : goal.invariant-loop-text
invariant-loop-text l = record {
  skipped : kept (numbered l.self-inside.number (lines l.self-inside.rest.now)) ≡ kept (numbered l.initial.self-inside.number (lines l.initial.self-inside.rest.now));
  in_range : l.self-inside.number + length l.self-inside.rest.now < 2 ^ 64;
}

abbrev pub decreases-loop-text : goal.decreases-loop-text
decreases-loop-text l = length l.self-inside.rest.now

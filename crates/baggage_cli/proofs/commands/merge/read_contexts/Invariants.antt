use Rattle.std.proofs.Common.{map}
use Rattle.text_lines.specs.Lines.{line_value}
use Rattle.baggage_cli.specs.Merge.{AreContexts}
use Rattle.baggage_cli.proofs.commands.merge.read_contexts.Given as goal

abbrev pub invariant-loop-line : goal.invariant-loop-line
invariant-loop-line l = AreContexts (map line_value l.yielded) l.widest l.contexts.items

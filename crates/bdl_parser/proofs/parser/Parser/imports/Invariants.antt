use Rattle.std.proofs.Common.{length}
use Rattle.bdl_parser.specs.Grammar.{an_import}
use Rattle.grammar_model.specs.Grammars.{Repeats}
use Rattle.bdl_parser.proofs.parser.Parser.imports.Given as goal

abbrev pub invariant-imports : goal.invariant-imports
invariant-imports l = Repeats an_import l.fn.self l.imports l.self

abbrev pub decreases-imports : goal.decreases-imports
decreases-imports l = length l.self

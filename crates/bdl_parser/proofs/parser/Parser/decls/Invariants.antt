use Rattle.std.proofs.Common.{length}
use Rattle.std.specs.List.{AllByRecursion}
use Rattle.bdl_parser.specs.declared.TheConstants.{NESTING_MAX}
use Rattle.bdl_parser.specs.Grammar.{a_decl}
use Rattle.bdl_parser.specs.Decls.{IsSpelledDecl}
use Rattle.bdl_parser.proofs.Families.{TakenItems}
use Rattle.bdl_parser.proofs.parser.Parser.decls.Given as goal

abbrev pub invariant-decls : goal.invariant-decls
invariant-decls l = record {
  taken : TakenItems a_decl NESTING_MAX l.fn.self l.decls l.self;
  spelled : AllByRecursion IsSpelledDecl l.decls;
}

abbrev pub decreases-decls : goal.decreases-decls
decreases-decls l = length l.self

use Rattle.std.proofs.Common.{length}
use Rattle.std.specs.List.{AllByRecursion}
use Rattle.bdl_parser.specs.declared.TheConstants.{NESTING_MAX}
use Rattle.bdl_parser.specs.Grammar.{a_bag_field}
use Rattle.bdl_parser.specs.Decls.{IsSpelledField}
use Rattle.bdl_parser.proofs.Families.{TakenItems}
use Rattle.bdl_parser.proofs.parser.Parser.bag_fields.Given as goal

abbrev pub invariant-fields : goal.invariant-fields
invariant-fields l = record {
  taken : TakenItems a_bag_field NESTING_MAX l.fn.self l.fields l.self;
  spelled : AllByRecursion IsSpelledField l.fields;
}

abbrev pub decreases-fields : goal.decreases-fields
decreases-fields l = length l.self

use Rattle.std.proofs.Common.{length}
use Rattle.bdl_parser.specs.declared.TheConstants.{NESTING_MAX}
use Rattle.bdl_parser.specs.Grammar.{a_struct_field}
use Rattle.bdl_parser.proofs.Families.{TakenItems}
use Rattle.bdl_parser.proofs.parser.Parser.struct_fields.Given as goal

abbrev pub invariant-fields : goal.invariant-fields
invariant-fields l = TakenItems a_struct_field NESTING_MAX l.fn.self l.fields l.self

abbrev pub decreases-fields : goal.decreases-fields
decreases-fields l = length l.self

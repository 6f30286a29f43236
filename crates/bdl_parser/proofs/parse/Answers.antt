use Rattle.std.proofs.Common.{◌≡◌, ◌+◌, ◌-◌, List, length, subst, ap, arith}
use Rattle.std.proofs.lemmas.List.{length-map}
use Rattle.bdl_parser.specs.declared.TheConstants.{NESTING_MAX}
use Rattle.bdl_parser.specs.FirstFault.{IsModuleOf, FaultAt}
use Rattle.bdl_parser.specs.Lexemes.{Lexeme, lexeme_of}
use Rattle.bdl_parser.proofs.FirstFault.{fault_within, fault_at}
use Rattle.bdl_parser.proofs.parse.Goals as goal

pub overflow_sub-result : goal.overflow_sub-result
overflow_sub-result c =
    let within = fault_within c.in-Err-Fault.code c.new-parser.result c.module.new.self (rw c.in-Err-Fault.field-0-is at c.in-Err-Fault.ensures.err) in
    omega (arith, within, c.left.ensures, ap length c.new-parser.ensures, length-map c.args.tokens.now (lexeme_of c.args.source.now))

pub returns-in-Ok-clause-module : goal.returns-in-Ok-clause-module
returns-in-Ok-clause-module c =
    subst (λ (ts : List Lexeme). IsModuleOf ts c.in-Ok.module) c.new-parser.ensures (c.in-Ok.ensures.ok NESTING_MAX (omega arith))

pub returns-in-Err-Fault-clause-fault : goal.returns-in-Err-Fault-clause-fault
returns-in-Err-Fault-clause-fault c =
    let within = fault_within c.in-Err-Fault.code c.new-parser.result c.module.new.self (rw c.in-Err-Fault.field-0-is at c.in-Err-Fault.ensures.err) in
    let sum : (length c.args.tokens.now - c.left.result) + length c.module.new.self ≡ length c.new-parser.result =
    omega (arith, within, c.left.ensures, ap length c.new-parser.ensures, length-map c.args.tokens.now (lexeme_of c.args.source.now)) in
    subst (λ (ts : List Lexeme). FaultAt ts (length c.args.tokens.now - c.left.result) c.in-Err-Fault.code) c.new-parser.ensures
    (fault_at c.in-Err-Fault.code c.new-parser.result c.module.new.self (length c.args.tokens.now - c.left.result)
    (rw c.in-Err-Fault.field-0-is at c.in-Err-Fault.ensures.err) sum)

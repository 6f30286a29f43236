use Rattle.std.proofs.Common.{sym}
use Rattle.std.proofs.lemmas.Result.{MatchResult-weaker}
use Rattle.bdl_parser.specs.declared.TheConstants.{NESTING_MAX}
use Rattle.bdl_parser.proofs.DeclLaws.{decl_bag, decl_struct, no_decl}
use Rattle.bdl_parser.proofs.parser.Parser.decl.Goals as goal

pub returns-then-is_at_key-clause-err : goal.returns-then-is_at_key-clause-err
returns-then-is_at_key-clause-err c =
    MatchResult-weaker c.bag.result c.bag.ensures.err (λ decl taken. tt) (λ e refused. decl_bag NESTING_MAX e c.args.self.now c.bag.new.self (sym c.if-is_at_key.ensures) refused)

pub returns-then-is_at_key-2-clause-err : goal.returns-then-is_at_key-2-clause-err
returns-then-is_at_key-2-clause-err c =
    MatchResult-weaker c.structure.result c.structure.ensures.err (λ decl taken. tt) (λ e refused. decl_struct NESTING_MAX e c.args.self.now c.structure.new.self (sym c.if-is_at_key-2.ensures) refused)

pub returns-clause-err : goal.returns-clause-err
returns-clause-err c = no_decl NESTING_MAX c.args.self.now (sym c.if-is_at_key.ensures) (sym c.if-is_at_key-2.ensures)

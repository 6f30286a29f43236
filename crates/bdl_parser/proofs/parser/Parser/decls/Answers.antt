use Rattle.std.proofs.Common.{List, sym, subst, arith}
use Rattle.std.specs.List.{AllByRecursion}
use Rattle.bdl_parser.specs.declared.TheConstants.{NESTING_MAX}
use Rattle.outside.specs.declared.answers.OrMemory.{OrMemory}
use Rattle.bdl_parser.specs.declared.ParseCode.{ParseCode}
use Rattle.bdl_parser.specs.declared.trees.Decl.{Decl}
use Rattle.bdl_parser.specs.Grammar.{a_decl}
use Rattle.bdl_parser.specs.Decls.{IsSpelledDecl}
use Rattle.bdl_parser.proofs.DeclLaws.{read_shorter, decls_item, decls_taken}
use Rattle.bdl_parser.proofs.Exits.{exit_err}
use Rattle.bdl_parser.proofs.Families.{TakenItems, items_more, all_more}
use Rattle.bdl_parser.proofs.GrammarLaws.{is_decl_first, lawful_decl}
use Rattle.bdl_parser.proofs.parser.Parser.decls.Goals as goal

pub returns-in_err-decl-clause-err : goal.returns-in_err-decl-clause-err
returns-in_err-decl-clause-err c =
    exit_err {E = OrMemory ParseCode} _ _ c.in_err-decl.field-0.0 c.from_residual.ensures.1 (decls_item NESTING_MAX c.decls.decls c.in_err-decl.field-0.0 c.args.self.now c.decls.self c.decl.new.self c.decls.invariant.taken (omega (arith, c.left.ensures)) c.in_err-decl.ensures.err)

pub decls-smaller : goal.decls-smaller
decls-smaller c =
    read_shorter (a_decl NESTING_MAX) is_decl_first (lawful_decl NESTING_MAX) c.decls.self c.in_ok-decl.decl c.decl.new.self (c.in_ok-decl.ensures.ok NESTING_MAX (omega arith))

pub decls-preserved : goal.decls-preserved
decls-preserved c = record {
  taken = subst (λ (items : List Decl). TakenItems a_decl NESTING_MAX c.args.self.now items c.decl.new.self) (sym c.in_ok-push.ensures.pushed)
      (items_more a_decl NESTING_MAX c.decls.decls c.args.self.now c.decls.self c.decl.new.self c.in_ok-decl.decl c.decls.invariant.taken c.in_ok-decl.ensures.ok);
  spelled = subst (AllByRecursion IsSpelledDecl) (sym c.in_ok-push.ensures.pushed)
      (all_more IsSpelledDecl c.decls.decls c.in_ok-decl.decl c.decls.invariant.spelled c.in_ok-decl.ensures.spelled);
}

pub returns-clause-ok : goal.returns-clause-ok
returns-clause-ok c =
    decls_taken NESTING_MAX c.decls.decls c.args.self.now c.decls.self c.decls.invariant.taken (omega (arith, c.left.ensures))

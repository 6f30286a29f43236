use Rattle.std.proofs.Common.{List, sym, subst}
use Rattle.bdl_parser.specs.declared.TheConstants.{NESTING_MAX}
use Rattle.outside.specs.declared.answers.OrMemory.{OrMemory}
use Rattle.bdl_parser.specs.declared.ParseCode.{ParseCode}
use Rattle.bdl_parser.specs.declared.trees.Import.{Import}
use Rattle.bdl_parser.specs.Grammar.{an_import}
use Rattle.grammar_model.specs.Grammars.{Repeats}
use Rattle.bdl_parser.proofs.DeclLaws.{imports_item, imports_more}
use Rattle.bdl_parser.proofs.Exits.{exit_err}
use Rattle.bdl_parser.proofs.parser.Parser.imports.Goals as goal

pub returns-in_err-import-clause-err : goal.returns-in_err-import-clause-err
returns-in_err-import-clause-err c =
    exit_err {E = OrMemory ParseCode} _ _ c.in_err-import.field-0.0 c.from_residual.ensures.1 (imports_item NESTING_MAX c.imports.imports c.in_err-import.field-0.0 c.args.self.now c.imports.self c.import.new.self c.imports.invariant (sym c.imports-test.ensures) c.in_err-import.ensures.err)

pub imports-preserved : goal.imports-preserved
imports-preserved c =
    subst (λ (items : List Import). Repeats an_import c.args.self.now items c.import.new.self) (sym c.in_ok-push.ensures.pushed)
    (imports_more c.imports.imports c.args.self.now c.imports.self c.import.new.self c.in_ok-import.import c.imports.invariant c.in_ok-import.ensures.ok)

use Rattle.outside.specs.declared.answers.OrMemory.{OrMemory}
use Rattle.bdl_parser.specs.declared.ParseCode.{ParseCode}
use Rattle.bdl_parser.proofs.DeclLaws.{module_imports, module_decls, module_taken}
use Rattle.bdl_parser.proofs.Exits.{exit_err}
use Rattle.bdl_parser.proofs.parser.Parser.module.Goals as goal

pub returns-in_err-imports-clause-err : goal.returns-in_err-imports-clause-err
returns-in_err-imports-clause-err c =
    exit_err {E = OrMemory ParseCode} _ _ c.in_err-imports.field-0.0 c.from_residual.ensures.1 (module_imports c.in_err-imports.field-0.0 c.args.self.now c.imports.new.self c.in_err-imports.ensures.err)

pub returns-in_err-decls-clause-err : goal.returns-in_err-decls-clause-err
returns-in_err-decls-clause-err c =
    exit_err {E = OrMemory ParseCode} _ _ c.in_err-decls.field-0.0 c.from_residual-in_err-decls.ensures.1 (module_decls c.in_ok-imports.imports c.in_err-decls.field-0.0 c.args.self.now c.imports.new.self c.decls.new.self c.in_ok-imports.ensures.ok c.in_ok-imports.ensures.end c.in_err-decls.ensures.err)

pub returns-clause-ok : goal.returns-clause-ok
returns-clause-ok c =
    module_taken c.in_ok-imports.imports c.in_ok-decls.decls c.args.self.now c.imports.new.self c.in_ok-imports.ensures.ok c.in_ok-decls.ensures.ok

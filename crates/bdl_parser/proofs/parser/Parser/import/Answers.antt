use Rattle.outside.specs.declared.answers.OrMemory.{OrMemory}
use Rattle.bdl_parser.specs.declared.ParseCode.{ParseCode}
use Rattle.bdl_parser.proofs.Chains.{after_token, at_last, at_token, last_token, refused_by, taken_by, token_then}
use Rattle.bdl_parser.proofs.Exits.{exit_err}
use Rattle.bdl_parser.proofs.parser.Parser.import.Goals as goal

pub returns-in_err-file-clause-err : goal.returns-in_err-file-clause-err
returns-in_err-file-clause-err c =
    exit_err {E = OrMemory ParseCode} _ _ c.in_err-file.field-0.0 c.from_residual-in_err-file.ensures.1
    (refused_by _ _ 0 c.in_err-file.field-0.0 c.args.self.now c.quoted.new.self
    (after_token c.in_ok-key.ensures.ok (at_token _ _ c.in_err-file.ensures.err)))

pub returns-in_err-sign-clause-err : goal.returns-in_err-sign-clause-err
returns-in_err-sign-clause-err c =
    exit_err {E = OrMemory ParseCode} _ _ c.in_err-sign.field-0.0 c.from_residual-in_err-sign.ensures.1
    (refused_by _ _ 0 c.in_err-sign.field-0.0 c.args.self.now c.sign.new.self
    (after_token c.in_ok-key.ensures.ok (after_token c.in_ok-file.ensures.ok (at_last _ c.in_err-sign.ensures.err))))

pub returns-clause-ok : goal.returns-clause-ok
returns-clause-ok c =
    taken_by _ _ 0 c.args.self.now _ c.sign.new.self
    (token_then c.in_ok-key.ensures.ok (token_then c.in_ok-file.ensures.ok (last_token c.in_ok-sign.ensures.ok)))

use Rattle.bdl_parser.specs.declared.TheConstants.{NESTING_MAX}
use Rattle.outside.specs.declared.answers.OrMemory.{OrMemory}
use Rattle.bdl_parser.specs.declared.ParseCode.{ParseCode}
use Rattle.bdl_parser.proofs.Chains.{after_token, at_token, refused_by, taken_by, token_then}
use Rattle.bdl_parser.proofs.Exits.{exit_err}
use Rattle.bdl_parser.proofs.parser.Parser.bag.Goals as goal

pub returns-in_err-name-clause-err : goal.returns-in_err-name-clause-err
returns-in_err-name-clause-err c =
    exit_err {E = OrMemory ParseCode} _ _ c.in_err-name.field-0.0 c.from_residual-in_err-name.ensures.1
    (refused_by _ _ NESTING_MAX c.in_err-name.field-0.0 c.args.self.now c.name.new.self
    (after_token c.in_ok-key.ensures.ok (at_token _ _ c.in_err-name.ensures.err)))

pub returns-in_err-sign-clause-err : goal.returns-in_err-sign-clause-err
returns-in_err-sign-clause-err c =
    exit_err {E = OrMemory ParseCode} _ _ c.in_err-sign.field-0.0 c.from_residual-in_err-sign.ensures.1
    (refused_by _ _ NESTING_MAX c.in_err-sign.field-0.0 c.args.self.now c.sign.new.self
    (after_token c.in_ok-key.ensures.ok (after_token c.in_ok-name.ensures.ok (at_token _ _ c.in_err-sign.ensures.err))))

pub returns-in_err-fields-clause-err : goal.returns-in_err-fields-clause-err
returns-in_err-fields-clause-err c =
    exit_err {E = OrMemory ParseCode} _ _ c.in_err-fields.field-0.0 c.from_residual-in_err-fields.ensures.1
    (refused_by _ _ NESTING_MAX c.in_err-fields.field-0.0 c.args.self.now c.bag_fields.new.self
    (after_token c.in_ok-key.ensures.ok (after_token c.in_ok-name.ensures.ok (after_token c.in_ok-sign.ensures.ok (record { is = c.in_err-fields.ensures.err })))))

pub returns-clause-ok : goal.returns-clause-ok
returns-clause-ok c =
    taken_by _ _ NESTING_MAX c.args.self.now _ c.bag_fields.new.self
    (token_then c.in_ok-key.ensures.ok (token_then c.in_ok-name.ensures.ok (token_then c.in_ok-sign.ensures.ok (record { is = c.in_ok-fields.ensures.ok }))))

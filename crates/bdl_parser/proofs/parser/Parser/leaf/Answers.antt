use Rattle.std.proofs.Common.{refl}
use Rattle.bdl_parser.proofs.TypeLaws.{leaf_missing, leaf_read}
use Rattle.bdl_parser.proofs.parser.Parser.leaf.Goals as goal

pub returns-in_default-2-clause-err : goal.returns-in_default-2-clause-err
returns-in_default-2-clause-err c =
    let first = rw c.in-Some-Word-default.field-0-0-is at c.in-Some-Word-default.ensures.first in
    (refl, leaf_missing c.args.self.now c.in-Some-Word-default.bytes.now c.in-Some-Word-default.at c.in_ok-form-in-Some-Word-default.field-0 first c.in_ok-form-in-Some-Word-default.ensures c.in_default-2.is)

pub returns-in-Some-clause-ok : goal.returns-in-Some-clause-ok
returns-in-Some-clause-ok c =
    let first = rw c.in-Some-Word-default.field-0-0-is at c.in-Some-Word-default.ensures.first in
    leaf_read c.args.self.now c.advance.new.self c.in-Some-Word-default.bytes.now c.in-Some-Word-default.at c.in_ok-form-in-Some-Word-default.field-0 c.in-Some.form first c.in_ok-form-in-Some-Word-default.ensures c.in-Some.is c.advance.ensures

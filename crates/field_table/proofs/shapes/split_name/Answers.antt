use Rattle.std.proofs.Common.{sym, subst, arith}
use Rattle.bag_model.specs.Words.{HasNoDot}
use Rattle.field_table.proofs.Dots.{before_no_dot, all_no_dot}
use Rattle.field_table.proofs.shapes.split_name.Goals as goal

pub returns-in-Some-clause-name : goal.returns-in-Some-clause-name
returns-in-Some-clause-name c =
    let split = c.in-Some.ensures.byte (omega arith) (λ w o h. h) in
    subst HasNoDot (sym split.0) (before_no_dot c.args.path.now)

pub returns-in-None-clause-name : goal.returns-in-None-clause-name
returns-in-None-clause-name c = all_no_dot c.args.path.now (c.in-None.ensures.byte (omega arith) (λ w o h. h))

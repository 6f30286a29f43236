use Rattle.std.proofs.Common.{sym, subst}
use Rattle.std.proofs.lemmas.Result.{err_from_is_err_and}
use Rattle.trace_model.specs.Graphs as graphs
use Rattle.graph_lines.specs.Statements as lines
use Rattle.graph_text.specs.Additions.{IsNextStep}
use Rattle.graph_text.proofs.Refusals.{no_step, join_apart, join_too_late, join_too_many, join_good}
use Rattle.graph_text.proofs.reader.Reader.join.Goals as goal

pub returns-in_err-check_earlier-clause-err : goal.returns-in_err-check_earlier-clause-err
returns-in_err-check_earlier-clause-err c = λ table.
    let p = err_from_is_err_and c.from_residual.result c.from_residual.ensures.1 in
    let e = c.in_err-check_earlier.ensures.err in
    rw (p.1, p.2, e.0) (no_step table c.args.self.now (lines.Join c.args.parents.now) e.1.0 e.1.1 e.1.2)

pub returns-in_err-service-clause-err : goal.returns-in_err-service-clause-err
returns-in_err-service-clause-err c = λ table.
    let p = err_from_is_err_and c.from_residual-in_err-service.result c.from_residual-in_err-service.ensures.1 in
    let e = c.in_err-service.ensures.err in
    rw (p.1, p.2, e.0) (join_apart table c.args.self.now c.args.parents.now c.in_ok-check_earlier.ensures.ok e.1)

pub returns-in_err-check_room-clause-err : goal.returns-in_err-check_room-clause-err
returns-in_err-check_room-clause-err c = λ table.
    let p = err_from_is_err_and c.from_residual-in_err-check_room.result c.from_residual-in_err-check_room.ensures.1 in
    let e = c.in_err-check_room.ensures.err in
    rw (p.1, p.2, e.0) (join_too_late table c.args.self.now c.args.parents.now c.in_ok-check_earlier.ensures.ok c.in_ok-service.service c.in_ok-service.ensures.ok e.1)

pub returns-then-parents-gt-PARENTS_MAX-clause-err : goal.returns-then-parents-gt-PARENTS_MAX-clause-err
returns-then-parents-gt-PARENTS_MAX-clause-err c = λ table.
    rw c.into.ensures
    (join_too_many table c.args.self.now c.args.parents.now c.in_ok-check_earlier.ensures.ok c.in_ok-service.service c.in_ok-service.ensures.ok
    c.in_ok-check_room.ensures.ok c.if-parents-gt-PARENTS_MAX.true)

pub returns-clause-ok : goal.returns-clause-ok
returns-clause-ok c = λ table.
    let good = join_good table c.args.self.now c.args.parents.now c.in_ok-check_earlier.ensures.ok c.in_ok-service.service c.in_ok-service.ensures.ok
    c.in_ok-check_room.ensures.ok c.if-parents-gt-PARENTS_MAX.false c.requires in
    subst (λ parents. IsNextStep table c.args.self.now (lines.Join c.args.parents.now) (record { service = c.in_ok-service.service; act = graphs.Act.Join parents }))
    (sym c.in_ok-parents.ensures) good

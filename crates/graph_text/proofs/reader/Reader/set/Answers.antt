use Rattle.std.proofs.Common.{inl, refl, sym, subst}
use Rattle.std.proofs.lemmas.Result.{err_from_is_err_and}
use Rattle.bag_value.specs.Vals.{plain}
use Rattle.trace_model.specs.Graphs as graphs
use Rattle.graph_lines.specs.Statements as lines
use Rattle.graph_text.specs.declared.faults.LineFault.TheVariants.{Code}
use Rattle.outside.specs.declared.answers.OrMemory.TheVariants.{Fault}
use Rattle.graph_text.specs.Additions.{IsNextStep, IsRefusedNext}
use Rattle.graph_text.proofs.Refusals.{no_step, path_refused, write_refused, write_too_late, write_good}
use Rattle.graph_text.proofs.reader.Reader.set.Goals as goal

pub returns-in_err-parent-clause-err : goal.returns-in_err-parent-clause-err
returns-in_err-parent-clause-err c =
    let p = err_from_is_err_and c.from_residual.result c.from_residual.ensures.1 in
    let e = c.in_err-parent.ensures.err in
    rw (p.1, p.2, e.0) (no_step c.args.table.now c.args.self.now (lines.Set c.args.parent c.args.path.now c.args.write.now) c.args.parent (inl refl) e.1)

pub returns-in_err-slot-clause-err : goal.returns-in_err-slot-clause-err
returns-in_err-slot-clause-err c =
    let p = err_from_is_err_and c.from_residual-in_err-slot.result c.from_residual-in_err-slot.ensures.1 in
    let code = c.in_err-slot.field-0.0 in
    rw (p.1, p.2)
    (subst (λ n. IsRefusedNext c.args.table.now c.args.self.now (lines.Set n c.args.path.now c.args.write.now) (Fault (Code code))) c.in_ok-parent.ensures.ok.0
    (path_refused c.args.table.now c.nodes.ensures.table c.args.self.now c.in_ok-parent.parent c.args.path.now c.args.write.now c.in_ok-parent.ensures.ok.1 code c.in_err-slot.ensures.err))

pub returns-in_err-write-clause-err : goal.returns-in_err-write-clause-err
returns-in_err-write-clause-err c =
    let refusal = c.in_err-write.field-0.0 in
    let p = err_from_is_err_and c.from_residual-in_err-write.result c.from_residual-in_err-write.ensures.1 in
    rw (p.1, p.2)
    (subst (λ n. IsRefusedNext c.args.table.now c.args.self.now (lines.Set n c.args.path.now c.args.write.now) refusal) c.in_ok-parent.ensures.ok.0
    (write_refused c.args.table.now c.nodes.ensures.table c.args.self.now c.in_ok-parent.parent c.args.path.now c.args.write.now c.in_ok-parent.ensures.ok.1
    c.in_ok-slot.slot c.in_ok-slot.ensures.ok
    c.service_of-service.result c.service_of-service.ensures.at c.form_of-form.result (sym c.form_of-form.ensures)
    refusal c.in_err-write.ensures.err))

pub returns-in_err-check_room-clause-err : goal.returns-in_err-check_room-clause-err
returns-in_err-check_room-clause-err c =
    let p = err_from_is_err_and c.from_residual-in_err-check_room.result c.from_residual-in_err-check_room.ensures.1 in
    let e = c.in_err-check_room.ensures.err in
    let v = plain c.in_ok-write.write in
    rw (p.1, p.2, e.0)
    (subst (λ n. IsRefusedNext c.args.table.now c.args.self.now (lines.Set n c.args.path.now c.args.write.now) (Fault (Code _))) c.in_ok-parent.ensures.ok.0
    (write_too_late c.args.table.now c.nodes.ensures.table c.args.self.now c.in_ok-parent.parent c.args.path.now c.args.write.now c.in_ok-parent.ensures.ok.1
    c.in_ok-slot.slot c.in_ok-slot.ensures.ok
    c.service_of-service.result c.service_of-service.ensures.at c.form_of-form.result (sym c.form_of-form.ensures)
    v c.in_ok-write.ensures.ok e.1))

pub returns-clause-ok : goal.returns-clause-ok
returns-clause-ok c =
    let step : graphs.Step = record { service = c.service_of-service.result; act = graphs.Act.Set c.in_ok-parent.parent c.in_ok-slot.slot (plain c.in_ok-write.write) } in
    subst (λ n. IsNextStep c.args.table.now c.args.self.now (lines.Set n c.args.path.now c.args.write.now) step) c.in_ok-parent.ensures.ok.0
    (write_good c.args.table.now c.nodes.ensures.table c.args.self.now c.in_ok-parent.parent c.args.path.now c.args.write.now c.in_ok-parent.ensures.ok.1
    c.in_ok-slot.slot c.in_ok-slot.ensures.ok
    c.service_of-service.result c.service_of-service.ensures.at c.form_of-form.result (sym c.form_of-form.ensures)
    (plain c.in_ok-write.write) c.in_ok-write.ensures.ok c.in_ok-check_room.ensures.ok)

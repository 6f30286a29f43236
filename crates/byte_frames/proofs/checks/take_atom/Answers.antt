use Rattle.std.proofs.Common.{[], inr}
use Rattle.context_model.specs.Paths.{last_path_after}
use Rattle.atom_list.specs.Contexts.{shape_fault_code_of}
use Rattle.byte_frames.specs.OpenAtoms.{opened_by}
use Rattle.byte_frames.proofs.Taking.{cut_frame, reads_on, takes_none}
use Rattle.byte_frames.proofs.checks.take_atom.Goals as goal

pub returns-in_err-admit : goal.returns-in_err-admit
returns-in_err-admit c = λ list read.
    let found = c.in_ok-skip.ensures in
    let parts = c.split_at.ensures in
    let front = cut_frame c.args.form c.args.rest.now _ _ c.in_ok-skip.skip c.in_ok-skip.len found.within found.short found.code parts.front parts.back in
    takes_none c.args.form list c.args.rest.now (opened_by c.admit.new.self c.admit.new.datum) c.from_residual-in_err-admit.result (shape_fault_code_of c.in_err-admit.field-0.0) c.from_residual-in_err-admit.ensures.1
    (inr (_, _, front.fits, front.split, c.in_err-admit.ensures (last_path_after [] list) read.path))

pub returns : goal.returns
returns c = λ list read.
    let found = c.in_ok-skip.ensures in
    let parts = c.split_at.ensures in
    let front = cut_frame c.args.form c.args.rest.now _ _ c.in_ok-skip.skip c.in_ok-skip.len found.within found.short found.code parts.front parts.back in
    let admitted = c.in_ok-admit.ensures (last_path_after [] list) read.path in
    (_, front.long, front.split, reads_on c.args.form list (opened_by c.args.open.now c.args.datum.now) (opened_by c.admit.new.self c.admit.new.datum) _ read front.fits admitted.0 admitted.1)

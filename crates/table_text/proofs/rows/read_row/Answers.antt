use Rattle.std.proofs.lemmas.Result.{err_from_is_err_and}
use Rattle.field_table.specs.Plain.{shape_of}
use Rattle.table_text.proofs.RowReads.{no_number, no_name, no_told, no_depth, not_parts}
use Rattle.table_text.proofs.rows.read_row.Goals as goal

pub returns-in_default-clause-err : goal.returns-in_default-clause-err
returns-in_default-clause-err c = not_parts c.args.line.now c.in_default.ensures

pub returns-in_default-read_number-clause-err : goal.returns-in_default-read_number-clause-err
returns-in_default-read_number-clause-err c =
    let p = c.in-Some.parts in
    no_number c.args.line.now p.depth.now p.number.now p.name.now p.shape.now c.in-Some.ensures c.in_default-read_number.ensures

pub returns-in_default-read_name-clause-err : goal.returns-in_default-read_name-clause-err
returns-in_default-read_name-clause-err c =
    let p = c.in-Some.parts in
    no_name c.args.line.now p.depth.now p.number.now p.name.now p.shape.now c.in-Some.ensures c.in_default-read_name.ensures

pub returns-in_default-2-clause-err : goal.returns-in_default-2-clause-err
returns-in_default-2-clause-err c =
    let p = c.in-Some.parts in
    no_told c.args.line.now p.depth.now p.number.now p.name.now p.shape.now c.in-Some.ensures (rw c.in_default-2.is at c.in_ok-shape.ensures.shape)

pub returns-in_err-depth-clause-err : goal.returns-in_err-depth-clause-err
returns-in_err-depth-clause-err c =
    let p = c.in-Some.parts in
    let e = err_from_is_err_and c.from_residual-in_err-depth.result c.from_residual-in_err-depth.ensures.1 in
    rw (e.1, e.2)
    (no_depth c.args.line.now p.depth.now p.number.now p.name.now p.shape.now c.in-Some.ensures c.in-Some-read_number.number (shape_of c.in-Some-2.shape)
    c.in-Some-read_number.ensures c.in-Some-read_name.ensures.0 (rw c.in-Some-2.is at c.in_ok-shape.ensures.shape) c.in_err-depth.field-0.0 c.in_err-depth.ensures.err)

use Rattle.table_text.proofs.Parts.{no_second, no_third}
use Rattle.table_text.proofs.rows.cut_parts.Goals as goal

pub returns-in_err-number : goal.returns-in_err-number
returns-in_err-number c =
    rw c.from_residual-in_err-number.ensures
    (no_second c.args.line.now c.in_ok-text.text.now c.in_ok-depth.depth.now c.in_ok-depth.rest.now c.in_ok-text.ensures c.in_ok-depth.ensures.0 c.in_ok-depth.ensures.1 c.in_err-number.ensures)

pub returns-in_err-name : goal.returns-in_err-name
returns-in_err-name c =
    rw c.from_residual-in_err-name.ensures
    (no_third c.args.line.now c.in_ok-text.text.now c.in_ok-depth.depth.now c.in_ok-depth.rest.now c.in_ok-number.number.now c.in_ok-number.rest.now
    c.in_ok-text.ensures c.in_ok-depth.ensures.0 c.in_ok-depth.ensures.1 c.in_ok-number.ensures.0 c.in_ok-number.ensures.1 c.in_err-name.ensures)

use Rattle.std.proofs.Common.{inl, inr, Ok, refl}
use Rattle.baggage_cli.specs.Evolve.{IsVerdictLine}
use Rattle.baggage_cli.specs.Scene.{change, Halfway}
use Rattle.baggage_cli.specs.Tables.{compiled}
use Rattle.baggage_cli.proofs.Compared.{memory_came, second_unobtained, compared}
use Rattle.baggage_cli.proofs.commands.evolve.evolve.Goals as goal

pub returns-in_err-after : goal.returns-in_err-after
returns-in_err-after g c =
    let library = change g.L.Library.files g.L.Library.faults c.args.library.now c.obtain-2.new.library in
    let requests = change g.L.Library.asked g.L.Library.faults c.args.library.now c.obtain-2.new.library in
    let half : Halfway = record { files = g.L.Library.files c.obtain.new.library; asked = g.L.Library.asked c.obtain.new.library; faults = g.L.Library.faults c.obtain.new.library } in
    let result = c.from_residual-in_err-after.result in
    second_unobtained (compiled c.args.old.now c.args.bag.now) (compiled c.args.new.now c.args.bag.now) IsVerdictLine library requests half c.in_ok-before.before c.in_ok-before.ensures
    c.in_err-after.field-0.0 result c.from_residual-in_err-after.ensures.1 c.in_err-after.ensures

pub returns-in_err-compared_line : goal.returns-in_err-compared_line
returns-in_err-compared_line g c =
    let library = change g.L.Library.files g.L.Library.faults c.args.library.now c.obtain-2.new.library in
    let requests = change g.L.Library.asked g.L.Library.faults c.args.library.now c.obtain-2.new.library in
    let half : Halfway = record { files = g.L.Library.files c.obtain.new.library; asked = g.L.Library.asked c.obtain.new.library; faults = g.L.Library.faults c.obtain.new.library } in
    let result = c.from_residual-in_err-compared_line.result in
    compared (compiled c.args.old.now c.args.bag.now) (compiled c.args.new.now c.args.bag.now) IsVerdictLine library requests half c.in_ok-before.before c.in_ok-before.ensures
    c.in_ok-after.after result c.in_ok-after.ensures (inl (memory_came result c.from_residual-in_err-compared_line.ensures.1))

pub returns : goal.returns
returns g c =
    let library = change g.L.Library.files g.L.Library.faults c.args.library.now c.obtain-2.new.library in
    let requests = change g.L.Library.asked g.L.Library.faults c.args.library.now c.obtain-2.new.library in
    let half : Halfway = record { files = g.L.Library.files c.obtain.new.library; asked = g.L.Library.asked c.obtain.new.library; faults = g.L.Library.faults c.obtain.new.library } in
    let line = c.in_ok-compared_line.field-0 in
    compared (compiled c.args.old.now c.args.bag.now) (compiled c.args.new.now c.args.bag.now) IsVerdictLine library requests half c.in_ok-before.before c.in_ok-before.ensures
    c.in_ok-after.after (Ok line) c.in_ok-after.ensures (inr (line.items, c.in_ok-compared_line.ensures, refl))

use Rattle.std.proofs.Common.{Err, ap, subst, sym}
use Rattle.baggage_cli.specs.Scene.{change}
use Rattle.baggage_cli.specs.Tables.{origin_of, Obtains}
use Rattle.baggage_cli.proofs.Obtained.{uncompiled}
use Rattle.baggage_cli.proofs.tables.obtain.Goals as goal

pub returns-in_err-compile-in-Bag : goal.returns-in_err-compile-in-Bag
returns-in_err-compile-in-Bag g c =
    let library = change g.L.Library.files g.L.Library.faults c.args.library.now c.compile.new.library in
    let requests = change g.L.Library.asked g.L.Library.faults c.args.library.now c.compile.new.library in
    let failure = c.in_err-compile-in-Bag in
    subst (λ origin. Obtains (origin_of origin) library requests c.from_residual.result) (sym c.in-Bag.is)
    (uncompiled c.in-Bag.file.now c.in-Bag.bag.now library requests failure.field-0.0 c.from_residual.result c.from_residual.ensures.1
    failure.ensures.fault failure.ensures.blamed failure.ensures.asked (λ failed. failure.ensures.cause (ap Err failed)) failure.ensures.same failure.ensures.later)

use Rattle.std.proofs.Common.{inr, ℕ, Option, Some, None, Err, refl, ap, subst, ◌∙◌}
use Rattle.std.specs.Global.{Vec}
use Rattle.std.specs.Option.{option_map}
use Rattle.outside.specs.Transfers.{Fetches}
use Rattle.baggage_cli.specs.Outcomes.{outcome_of}
use Rattle.baggage_cli.specs.Scene.{change}
use Rattle.baggage_cli.proofs.Brought.{wanting_brought, brings_found, brings_nothing, brings_failed}
use Rattle.baggage_cli.proofs.tables.bring.Goals as goal

pub returns-in-Ok-Some : goal.returns-in-Ok-Some
returns-in-Ok-Some g c =
    let library = change g.L.Library.files g.L.Library.faults c.args.library.now c.fetch.new.self in
    let requests = change g.L.Library.asked g.L.Library.faults c.args.library.now c.fetch.new.self in
    let file = c.args.file.now in
    let some = c.in-Ok-Some in
    let fetches = subst (λ (found : Option (Vec ℕ)). Fetches library.before file (option_map (λ text. text.items) found)) some.field-0-is some.ensures.held in
    brings_found file library requests c.fetch.ensures.same c.fetch.ensures.cause.later c.fetch.ensures.asked (Some some.text.items) (outcome_of c.whole_file.result) (rw some.is at c.fetch.ensures.cause.steady) fetches c.whole_file.ensures

pub returns-in_err-refused_file-in-Ok-None : goal.returns-in_err-refused_file-in-Ok-None
returns-in_err-refused_file-in-Ok-None g c =
    let library = change g.L.Library.files g.L.Library.faults c.args.library.now c.fetch.new.self in
    let requests = change g.L.Library.asked g.L.Library.faults c.args.library.now c.fetch.new.self in
    brings_nothing c.args.file.now library requests c.fetch.ensures.same c.fetch.ensures.cause.later c.fetch.ensures.asked (outcome_of c.from_residual.result)
    (wanting_brought c.from_residual.result c.from_residual.ensures.1)

pub returns-in_ok-refused_file-in-Ok-None : goal.returns-in_ok-refused_file-in-Ok-None
returns-in_ok-refused_file-in-Ok-None g c =
    let library = change g.L.Library.files g.L.Library.faults c.args.library.now c.fetch.new.self in
    let requests = change g.L.Library.asked g.L.Library.faults c.args.library.now c.fetch.new.self in
    let file = c.args.file.now in
    let none = c.in-Ok-None in
    let fetches = subst (λ (found : Option (Vec ℕ)). Fetches library.before file (option_map (λ text. text.items) found)) none.field-0-is none.ensures.held in
    brings_found file library requests c.fetch.ensures.same c.fetch.ensures.cause.later c.fetch.ensures.asked None (Err c.in_ok-refused_file-in-Ok-None.field-0) (rw none.is at c.fetch.ensures.cause.steady) fetches (inr c.in_ok-refused_file-in-Ok-None.ensures)

pub returns-in-Err-Failed : goal.returns-in-Err-Failed
returns-in-Err-Failed g c =
    let library = change g.L.Library.files g.L.Library.faults c.args.library.now c.fetch.new.self in
    let requests = change g.L.Library.asked g.L.Library.faults c.args.library.now c.fetch.new.self in
    brings_failed c.args.file.now library requests c.fetch.ensures.same c.fetch.ensures.cause.later c.fetch.ensures.asked _ refl (c.fetch.ensures.cause.failed (c.in-Err-Failed.is ∙ ap Err c.in-Err-Failed.field-0-is))

pub returns-in-Err-Memory : goal.returns-in-Err-Memory
returns-in-Err-Memory g c =
    let library = change g.L.Library.files g.L.Library.faults c.args.library.now c.fetch.new.self in
    let requests = change g.L.Library.asked g.L.Library.faults c.args.library.now c.fetch.new.self in
    brings_nothing c.args.file.now library requests c.fetch.ensures.same c.fetch.ensures.cause.later c.fetch.ensures.asked _ refl

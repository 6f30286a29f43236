use Rattle.std.proofs.Common.{◌∙◌, ap, take}
use Rattle.std.specs.Option.{option_map}
use Rattle.outside.specs.declared.TheConstants.{FETCH_MAX}
use Rattle.baggage.proofs.Fronts.{front_read}
use Rattle.baggage.proofs.adapters.read_front.Goals as goal

pub returns-clause-front : goal.returns-clause-front
returns-clause-front g c =
    front_read (g.F.Read.remaining c.args.file) _ _ FETCH_MAX c.read_all.result
    (c.new-front.ensures.left
    ∙ ap (λ limit. option_map (take limit) (g.F.Read.remaining c.take.result.inner)) c.take.ensures.limit
    ∙ ap (λ file. option_map (take FETCH_MAX) (g.F.Read.remaining file)) c.take.ensures.inner)
    c.read_all.ensures.all c.read_all.ensures.end

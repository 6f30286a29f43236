use Rattle.std.proofs.Common.{◌<◌, length, map, subst, arith}
use Rattle.std.proofs.lemmas.List.{length-map}
use Rattle.trace_model.specs.Graphs.{Graph, HasStep}
use Rattle.recorded_graph.specs.Plain.{step_of}
use Rattle.recorded_graph.proofs.Parents.{step_at, stays_at}
use Rattle.recorded_graph.proofs.graphs.Graph.may_have_parent.Goals as goal

pub returns-else-not-stays : goal.returns-else-not-stays
returns-else-not-stays c =
    let graph = c.self.inside in
    let parent = c.args.parent in
    let own = c.index.result.now in
    let within : parent < length graph.steps.items = omega (arith, c.len.ensures, c.if-parent-len.true) in
    let has : HasStep c.args.self.now parent (step_of own) =
    subst (λ (g : Graph). HasStep g parent (step_of own)) c.self.view_is
    (step_at graph.services.items graph.steps.items graph.shows.items parent own within c.index.ensures) in
    let earlier : parent < length (map step_of graph.steps.items) = omega (arith, within, length-map graph.steps.items step_of) in
    stays_at c.args.self.now (step_of c.args.step.now) (step_of own) parent c.stays.result c.if-not-stays.false
    (subst (λ (g : Graph). parent < length g.steps) c.self.view_is earlier) has c.stays.ensures

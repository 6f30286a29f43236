use Rattle.recorded_graph.proofs.Growing.{service_kept}
use Rattle.recorded_graph.proofs.graphs.Graph.add_service.Goals as goal

pub invariant_of-self-2 : goal.invariant_of-self-2
invariant_of-self-2 c =
    let graph = c.self.inside in
    rw c.in_ok-push.ensures.items (service_kept graph.services.items graph.steps.items graph.shows.items c.args.service c.self.invariant)

use Rattle.std.proofs.Common.{◌<◌, length, sym, subst}
use Rattle.trace_model.specs.Graphs.{Graph}
use Rattle.recorded_graph.proofs.Growing.{show_kept}
use Rattle.recorded_graph.proofs.graphs.Graph.add_show.Goals as goal

pub invariant_of-self-2 : goal.invariant_of-self-2
invariant_of-self-2 c =
    let graph = c.self.inside in
    rw c.in_ok-push.ensures.items
    (show_kept graph.services.items graph.steps.items graph.shows.items c.args.number c.self.invariant
    (subst (λ (g : Graph). c.args.number < length g.steps) (sym c.self.view_is) c.requires))

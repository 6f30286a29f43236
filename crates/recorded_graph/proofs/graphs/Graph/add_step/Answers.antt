use Rattle.std.proofs.Common.{◌<◌, length, sym, subst}
use Rattle.trace_model.specs.Graphs.{Graph}
use Rattle.recorded_graph.specs.declared.graphs.TheConstants.{STEPS_MAX}
use Rattle.recorded_graph.specs.Plain.{step_of}
use Rattle.recorded_graph.specs.Graphs.{MayBeNext}
use Rattle.recorded_graph.proofs.Growing.{step_kept}
use Rattle.recorded_graph.proofs.graphs.Graph.add_step.Goals as goal

pub invariant_of-self-2 : goal.invariant_of-self-2
invariant_of-self-2 c =
    let graph = c.self.inside in
    rw c.in_ok-push.ensures.items
    (step_kept graph.services.items graph.steps.items graph.shows.items c.args.step c.self.invariant
    (subst (λ (g : Graph). length g.steps < STEPS_MAX) (sym c.self.view_is) c.requires.room)
    (subst (λ (g : Graph). MayBeNext g (step_of c.args.step)) (sym c.self.view_is) c.requires.follows))

use Rattle.std.proofs.Common.{arith}
use Rattle.recorded_graph.specs.Plain.{service_of, step_of}
use Rattle.recorded_graph.proofs.Growing.{may_follow}
use Rattle.recorded_graph.proofs.graphs.Graph.may_follow.Goals as goal

pub returns-then-is_sound : goal.returns-then-is_sound
returns-then-is_sound c = (
  λ all. may_follow c.args.self.now (step_of c.args.step.now) (service_of c.service.result.now) c.service.ensures
      (omega (arith, c.services.ensures, c.if-services-step.false)) (c.is_sound.ensures.0 c.if-is_sound.true) (c.may_have_parents.ensures.0 all),
  λ may. c.may_have_parents.ensures.1 may.parents,
)

use Rattle.recorded_graph.specs.Plain.{step_of}
use Rattle.run_tests.proofs.Places.{places_of}
use Rattle.run_tests.proofs.step_tests.gives.Goals as goal

pub run_step-requires-clause-places : goal.run_step-requires-clause-places
run_step-requires-clause-places g c κs lives =
    places_of c.args.graph.now c.args.step (step_of c.step-own.result.now) c.parents-parents.result.now c.args.places.now c.args.pool.now c.step-own.ensures c.parents-parents.ensures
    c.check_places.ensures.many c.check_places.ensures.within

pub run_step_alone-requires-clause-places : goal.run_step_alone-requires-clause-places
run_step_alone-requires-clause-places g c =
    places_of c.args.graph.now c.args.step (step_of c.step-own.result.now) c.parents-parents.result.now c.args.places.now c.args.pool.now c.step-own.ensures c.parents-parents.ensures
    c.check_places.ensures.many c.check_places.ensures.within

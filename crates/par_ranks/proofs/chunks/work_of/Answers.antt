use Rattle.std.proofs.Common.{length, arith}
use Rattle.recorded_graph.specs.Plain.{step_of}
use Rattle.par_ranks.proofs.Giving.{parents_before}
use Rattle.par_ranks.proofs.chunks.work_of.Goals as goal

pub atoms_of-requires : goal.atoms_of-requires
atoms_of-requires c =
    let many = c.requires.lists in
    let here = c.requires.step in
    parents_before c.args.graph.now c.args.step (step_of c.step-own.result.now) c.parents.result.now (length c.args.lists.now) c.known.ensures.sound c.step-own.ensures c.parents.ensures
    (omega (arith, many, here))

use Rattle.std.proofs.Common.{refl, subst, sym}
use Rattle.command_line.specs.Commands.{task_of}
use Rattle.baggage_cli.specs.Outcomes.{outcome_of}
use Rattle.baggage_cli.specs.Scene.{change}
use Rattle.baggage_cli.specs.Top.{Comes}
use Rattle.baggage_cli.proofs.top.carry_out.Goals as goal

pub returns-in-Trim : goal.returns-in-Trim
returns-in-Trim g c =
    let library = change g.L.Library.files g.L.Library.faults c.args.library.now c.args.library.now in
    let requests = change g.L.Library.asked g.L.Library.faults c.args.library.now c.args.library.now in
    let source = change g.S.Source.left g.S.Source.faults c.args.source.now c.trim.new.source in
    subst (λ command. Comes (task_of command) library requests source (outcome_of c.trim.result)) (sym c.in-Trim.is) ((refl, refl), (refl, refl), c.trim.ensures)

pub returns-in-Merge : goal.returns-in-Merge
returns-in-Merge g c =
    let library = change g.L.Library.files g.L.Library.faults c.args.library.now c.args.library.now in
    let requests = change g.L.Library.asked g.L.Library.faults c.args.library.now c.args.library.now in
    let source = change g.S.Source.left g.S.Source.faults c.args.source.now c.merge.new.source in
    subst (λ command. Comes (task_of command) library requests source (outcome_of c.merge.result)) (sym c.in-Merge.is) ((refl, refl), (refl, refl), c.merge.ensures)

pub returns-in-Carry : goal.returns-in-Carry
returns-in-Carry g c =
    let library = change g.L.Library.files g.L.Library.faults c.args.library.now c.args.library.now in
    let requests = change g.L.Library.asked g.L.Library.faults c.args.library.now c.args.library.now in
    let source = change g.S.Source.left g.S.Source.faults c.args.source.now c.carry.new.source in
    subst (λ command. Comes (task_of command) library requests source (outcome_of c.carry.result)) (sym c.in-Carry.is) ((refl, refl), (refl, refl), c.carry.ensures)

pub returns-in-Collect : goal.returns-in-Collect
returns-in-Collect g c =
    let library = change g.L.Library.files g.L.Library.faults c.args.library.now c.args.library.now in
    let requests = change g.L.Library.asked g.L.Library.faults c.args.library.now c.args.library.now in
    let source = change g.S.Source.left g.S.Source.faults c.args.source.now c.collect.new.source in
    subst (λ command. Comes (task_of command) library requests source (outcome_of c.collect.result)) (sym c.in-Collect.is) ((refl, refl), (refl, refl), c.collect.ensures)

pub returns-in-Check : goal.returns-in-Check
returns-in-Check g c =
    let library = change g.L.Library.files g.L.Library.faults c.args.library.now c.check.new.library in
    let requests = change g.L.Library.asked g.L.Library.faults c.args.library.now c.check.new.library in
    let source = change g.S.Source.left g.S.Source.faults c.args.source.now c.args.source.now in
    subst (λ command. Comes (task_of command) library requests source (outcome_of c.check.result)) (sym c.in-Check.is) ((refl, refl), c.check.ensures)

pub returns-in-Table : goal.returns-in-Table
returns-in-Table g c =
    let library = change g.L.Library.files g.L.Library.faults c.args.library.now c.table.new.library in
    let requests = change g.L.Library.asked g.L.Library.faults c.args.library.now c.table.new.library in
    let source = change g.S.Source.left g.S.Source.faults c.args.source.now c.args.source.now in
    subst (λ command. Comes (task_of command) library requests source (outcome_of c.table.result)) (sym c.in-Table.is) ((refl, refl), c.table.ensures)

pub returns-in-Decode : goal.returns-in-Decode
returns-in-Decode g c =
    let library = change g.L.Library.files g.L.Library.faults c.args.library.now c.decode.new.library in
    let requests = change g.L.Library.asked g.L.Library.faults c.args.library.now c.decode.new.library in
    let source = change g.S.Source.left g.S.Source.faults c.args.source.now c.decode.new.source in
    subst (λ command. Comes (task_of command) library requests source (outcome_of c.decode.result)) (sym c.in-Decode.is) c.decode.ensures

pub returns-in-Run : goal.returns-in-Run
returns-in-Run g c =
    let library = change g.L.Library.files g.L.Library.faults c.args.library.now c.run.new.library in
    let requests = change g.L.Library.asked g.L.Library.faults c.args.library.now c.run.new.library in
    let source = change g.S.Source.left g.S.Source.faults c.args.source.now c.run.new.source in
    subst (λ command. Comes (task_of command) library requests source (outcome_of c.run.result)) (sym c.in-Run.is) c.run.ensures

pub returns-in-RunTable : goal.returns-in-RunTable
returns-in-RunTable g c =
    let library = change g.L.Library.files g.L.Library.faults c.args.library.now c.run-in-RunTable.new.library in
    let requests = change g.L.Library.asked g.L.Library.faults c.args.library.now c.run-in-RunTable.new.library in
    let source = change g.S.Source.left g.S.Source.faults c.args.source.now c.run-in-RunTable.new.source in
    subst (λ command. Comes (task_of command) library requests source (outcome_of c.run-in-RunTable.result)) (sym c.in-RunTable.is) c.run-in-RunTable.ensures

pub returns-in-RunJson : goal.returns-in-RunJson
returns-in-RunJson g c =
    let library = change g.L.Library.files g.L.Library.faults c.args.library.now c.run-in-RunJson.new.library in
    let requests = change g.L.Library.asked g.L.Library.faults c.args.library.now c.run-in-RunJson.new.library in
    let source = change g.S.Source.left g.S.Source.faults c.args.source.now c.run-in-RunJson.new.source in
    subst (λ command. Comes (task_of command) library requests source (outcome_of c.run-in-RunJson.result)) (sym c.in-RunJson.is) c.run-in-RunJson.ensures

pub returns-in-Load : goal.returns-in-Load
returns-in-Load g c =
    let library = change g.L.Library.files g.L.Library.faults c.args.library.now c.args.library.now in
    let requests = change g.L.Library.asked g.L.Library.faults c.args.library.now c.args.library.now in
    let source = change g.S.Source.left g.S.Source.faults c.args.source.now c.args.source.now in
    subst (λ command. Comes (task_of command) library requests source (outcome_of c.load.result)) (sym c.in-Load.is) ((refl, refl), (refl, refl), (refl, refl), c.load.ensures)

pub returns-in-Evolve : goal.returns-in-Evolve
returns-in-Evolve g c =
    let library = change g.L.Library.files g.L.Library.faults c.args.library.now c.evolve.new.library in
    let requests = change g.L.Library.asked g.L.Library.faults c.args.library.now c.evolve.new.library in
    let source = change g.S.Source.left g.S.Source.faults c.args.source.now c.args.source.now in
    subst (λ command. Comes (task_of command) library requests source (outcome_of c.evolve.result)) (sym c.in-Evolve.is) ((refl, refl), c.evolve.ensures)

pub returns-in-Why : goal.returns-in-Why
returns-in-Why g c =
    let library = change g.L.Library.files g.L.Library.faults c.args.library.now c.why.new.library in
    let requests = change g.L.Library.asked g.L.Library.faults c.args.library.now c.why.new.library in
    let source = change g.S.Source.left g.S.Source.faults c.args.source.now c.why.new.source in
    subst (λ command. Comes (task_of command) library requests source (outcome_of c.why.result)) (sym c.in-Why.is) c.why.ensures

pub returns-in-Verify : goal.returns-in-Verify
returns-in-Verify g c =
    let library = change g.L.Library.files g.L.Library.faults c.args.library.now c.verify.new.library in
    let requests = change g.L.Library.asked g.L.Library.faults c.args.library.now c.verify.new.library in
    let source = change g.S.Source.left g.S.Source.faults c.args.source.now c.verify.new.source in
    subst (λ command. Comes (task_of command) library requests source (outcome_of c.verify.result)) (sym c.in-Verify.is) c.verify.ensures

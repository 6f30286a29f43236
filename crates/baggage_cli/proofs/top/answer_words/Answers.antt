use Rattle.std.proofs.Common.{refl, subst}
use Rattle.command_line.specs.Commands.{task_of}
use Rattle.baggage_cli.specs.Scene.{change, scene_of}
use Rattle.baggage_cli.specs.Top.{Answers}
use Rattle.baggage_cli.proofs.Delivered.{refused}
use Rattle.baggage_cli.proofs.top.answer_words.Goals as goal

pub returns-in-Err : goal.returns-in-Err
returns-in-Err g c =
    let scene = scene_of
    (change g.L.Library.files g.L.Library.faults c.args.library.now c.carry_out.new.library)
    (change g.L.Library.asked g.L.Library.faults c.args.library.now c.carry_out.new.library)
    (change g.S.Source.left g.S.Source.faults c.args.source.now c.carry_out.new.source)
    (change g.K.Sink.written g.K.Sink.faults c.args.out.now c.args.out.now)
    (change g.E.Sink.written g.E.Sink.faults c.args.errs.now c.refuse.new.errs) in
    subst (λ asked. Answers asked scene c.refuse.result) c.in-Some.ensures.task
    (refused (task_of c.in-Some.command) scene c.in-Err.refusal c.refuse.result c.in-Err.ensures (refl, refl) c.refuse.ensures)

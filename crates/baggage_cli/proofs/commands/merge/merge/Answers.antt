use Rattle.baggage_cli.specs.Merge.{MergesLines}
use Rattle.baggage_cli.specs.Outcomes.{outcome_of}
use Rattle.baggage_cli.specs.Scene.{change}
use Rattle.baggage_cli.proofs.Inputs.{unread, read_gave}
use Rattle.baggage_cli.proofs.commands.merge.merge.Goals as goal

pub returns-in_err-input : goal.returns-in_err-input
returns-in_err-input g c =
    let source = change g.S.Source.left g.S.Source.faults c.args.source.now c.read_input.new.source in
    unread MergesLines source c.from_residual.result c.in_err-input.field-0.0 c.from_residual.ensures.1 c.in_err-input.ensures

pub returns : goal.returns
returns g c =
    let source = change g.S.Source.left g.S.Source.faults c.args.source.now c.read_input.new.source in
    read_gave MergesLines source c.in_ok-input.input _ (outcome_of c.merged_line.result) c.in_ok-input.ensures c.as_slice.ensures.value c.merged_line.ensures

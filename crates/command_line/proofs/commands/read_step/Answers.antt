use Rattle.command_line.proofs.Numbers.{step_read}
use Rattle.command_line.proofs.commands.read_step.Goals as goal

pub returns : goal.returns
returns c = step_read c.args.word.now c.read_number.result c.read_number.ensures

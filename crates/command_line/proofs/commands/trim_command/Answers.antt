use Rattle.std.proofs.Common.{arith}
use Rattle.command_line.proofs.Numbers.{positive_at}
use Rattle.command_line.proofs.commands.trim_command.Goals as goal

-- A number of that form isn't 0.
pub returns-in_err-budget : goal.returns-in_err-budget
returns-in_err-budget c =
    let some = positive_at c.args.word.now c.in_ok-read_number.field-0 c.in_ok-read_number.ensures in
    let none = c.in_err-budget.ensures in
    absurd (omega arith)

use Rattle.std.proofs.Common.{IfErr, sym, subst}
use Rattle.graph_lines.specs.Acts.{statement_of}
use Rattle.graph_text.specs.Additions.{IsRefusedStatement}
use Rattle.graph_text.proofs.reader.Reader.read.Goals as goal

pub returns-in-Show-clause-err : goal.returns-in-Show-clause-err
returns-in-Show-clause-err c =
    subst (λ line. IfErr c.read_show.result (IsRefusedStatement c.args.table.now c.args.self (statement_of line))) (sym c.in-Show.is) (c.read_show.ensures.err c.args.table.now)

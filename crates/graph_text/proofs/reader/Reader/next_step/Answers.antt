use Rattle.std.proofs.Common.{IfErr, sym, subst}
use Rattle.graph_lines.specs.Statements as lines
use Rattle.graph_lines.specs.Acts.{named_act_of}
use Rattle.graph_text.specs.Additions.{IsRefusedNext}
use Rattle.graph_text.proofs.reader.Reader.next_step.Goals as goal

pub returns-in-Start-clause-err : goal.returns-in-Start-clause-err
returns-in-Start-clause-err c =
    subst (λ act. IfErr c.start.result (IsRefusedNext c.args.table.now c.args.self.now (named_act_of act))) (sym c.in-Start.is) (c.start.ensures.err c.args.table.now)

pub returns-in-Branch-clause-err : goal.returns-in-Branch-clause-err
returns-in-Branch-clause-err c =
    subst (λ act. IfErr c.branch-self.result (IsRefusedNext c.args.table.now c.args.self.now (named_act_of act))) (sym c.in-Branch.is) (c.branch-self.ensures.err c.args.table.now)

pub returns-in-Forward-clause-err : goal.returns-in-Forward-clause-err
returns-in-Forward-clause-err c =
    subst (λ act. IfErr c.forward.result (IsRefusedNext c.args.table.now c.args.self.now (named_act_of act))) (sym c.in-Forward.is) (c.forward.ensures.err c.args.table.now)

pub returns-in-Trim-clause-err : goal.returns-in-Trim-clause-err
returns-in-Trim-clause-err c =
    subst (λ act. IfErr c.trim.result (IsRefusedNext c.args.table.now c.args.self.now (named_act_of act))) (sym c.in-Trim.is) (c.trim.ensures.err c.args.table.now)

pub returns-in-Join-clause-err : goal.returns-in-Join-clause-err
returns-in-Join-clause-err c =
    subst (λ act. IfErr c.join.result (IsRefusedNext c.args.table.now c.args.self.now (named_act_of act))) (sym c.in-Join.is)
    (subst (λ parents. IfErr c.join.result (IsRefusedNext c.args.table.now c.args.self.now (lines.Join parents))) c.as_slice.ensures.value (c.join.ensures.err c.args.table.now))

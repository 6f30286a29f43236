use Rattle.std.proofs.Common.{subst}
use Rattle.trace_model.specs.Graphs.{IsGraph}
use Rattle.recorded_graph.specs.Plain.{step_of}
use Rattle.graph_lines.specs.Acts.{named_act_of}
use Rattle.graph_text.specs.Additions.{AddStep}
use Rattle.graph_text.proofs.Follows.{may_follow}
use Rattle.graph_text.proofs.reader.Reader.read_numbered.Goals as goal

pub with_step-requires-clause-follows : goal.with_step-requires-clause-follows
with_step-requires-clause-follows c =
    may_follow c.args.table.now c.args.self c.args.number (named_act_of c.args.act.now) (step_of c.in_ok-step.step)
    (subst IsGraph c.graph.ensures c.known.ensures.sound) c.requires c.in_ok-step.ensures.ok

pub returns-clause-ok : goal.returns-clause-ok
returns-clause-ok c = (AddStep (step_of c.in_ok-step.step), c.in_ok-step.ensures.ok, c.in_ok-reader.ensures)

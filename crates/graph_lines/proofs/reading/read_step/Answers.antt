use Rattle.std.proofs.Common.{sym, ◌∙◌}
use Rattle.std.specs.Fmt.{decimal}
use Rattle.std.specs.List.{join_with_byte}
use Rattle.graph_lines.specs.Forms.{act_words}
use Rattle.graph_lines.proofs.OneForm.{joined_more, act_some}
use Rattle.graph_lines.proofs.reading.read_step.Goals as goal

pub returns-in_default : goal.returns-in_default
returns-in_default c = λ number act q. c.in_default.ensures number (join_with_byte 32 (act_words act)) (q.0.0, q.2 ∙ joined_more (decimal number) (act_words act) (act_some act q.0.1))

pub returns-in-None : goal.returns-in-None
returns-in-None c =
    λ number act q. (
    let cut = q.2 ∙ joined_more (decimal number) (act_words act) (act_some act q.0.1) in
    let same = c.in-Some.ensures.1 number (join_with_byte 32 (act_words act)) (q.0.0, cut) in
    let none = rw c.in-None.is at c.in_ok-act.ensures in
    none act (q.0.1, q.1, sym same.1))

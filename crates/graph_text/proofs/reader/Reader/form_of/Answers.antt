use Rattle.std.proofs.Common.{sym, ap, ◌∙◌}
use Rattle.trace_model.specs.Graphs.{Graph, form_of_service, form_at}
use Rattle.graph_text.proofs.reader.Reader.form_of.Goals as goal

pub returns : goal.returns
returns c = sym (ap form_of_service c.service.ensures) ∙ ap (λ (g : Graph). form_at g c.args.service) c.self.view_is

use Rattle.graph_text.proofs.Definite.{is_definite}
use Rattle.graph_text.proofs.laws.lines_are_definite.Goals as goal

pub returns : goal.returns
returns c = is_definite c.lines_have_one_form.ensures.one_form c.texts_are_one_write.ensures

use Rattle.graph_text.proofs.KeepsTable.{text_recorded}
use Rattle.graph_text.proofs.laws.texts_give_recorded_graphs.Goals as goal

pub returns : goal.returns
returns c =
    let writes = c.writes_are_of_their_shape.ensures in
    text_recorded (record { shape = writes.shape; fits = writes.fits })

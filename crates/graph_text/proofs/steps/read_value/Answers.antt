use Rattle.bag_walks.proofs.SlotShapes.{slot_has_shape}
use Rattle.graph_text.proofs.steps.read_value.Goals as goal

pub read_write-requires : goal.read_write-requires
read_write-requires c = slot_has_shape c.args.table.now c.args.slot _ c.nodes.ensures.table c.shape.ensures

use Rattle.bag_walks.proofs.SlotShapes.{slot_has_shape}
use Rattle.field_calls.proofs.writing.shape_at.Goals as goal

pub returns-clause-is : goal.returns-clause-is
returns-clause-is c = slot_has_shape c.args.table.now c.args.slot _ c.nodes.ensures.table c.shape.ensures

use Rattle.std.proofs.Common.{ℕ, List, Some, ap, ◌∙◌}
use Rattle.bag_walks.proofs.SlotShapes.{slot_has_shape}
use Rattle.field_table.specs.Plain.{shape_of}
use Rattle.place_calls.proofs.ChosenLaws.{slot_levels, place_there, gap_there}
use Rattle.place_calls.proofs.found.Searched.place_of.Goals as goal

pub place_behind-requires-clause-shape : goal.place_behind-requires-clause-shape
place_behind-requires-clause-shape c = slot_has_shape c.args.table.now c.args.slot _ c.nodes.ensures.table c.shape-shape.ensures

pub place_behind-requires-clause-room : goal.place_behind-requires-clause-room
place_behind-requires-clause-room c =
    slot_levels c.args.table.now c.args.slot c.as_slice-numbers.result.now (shape_of c.shape-shape.result.now)
    (ap (λ (numbers : List ℕ). Some numbers) c.as_slice-numbers.ensures.numbers ∙ c.numbers-path.ensures) c.shape-shape.ensures c.nodes.ensures.table

pub returns-in-Ok : goal.returns-in-Ok
returns-in-Ok c =
    place_there c.args.table.now c.args.slot c.as_slice-numbers.result.now (shape_of c.shape-shape.result.now)
    (ap (λ (numbers : List ℕ). Some numbers) c.as_slice-numbers.ensures.numbers ∙ c.numbers-path.ensures) c.shape-shape.ensures
    c.args.self.now.form c.args.self.now.list.now c.place_behind.result c.place_behind.ensures

pub returns-in-Err : goal.returns-in-Err
returns-in-Err c =
    gap_there c.args.table.now c.args.slot c.as_slice-numbers.result.now (shape_of c.shape-shape.result.now)
    (ap (λ (numbers : List ℕ). Some numbers) c.as_slice-numbers.ensures.numbers ∙ c.numbers-path.ensures) c.shape-shape.ensures
    c.args.self.now.form c.args.self.now.list.now c.in-Err.stop c.place_of_gap.result c.in-Err.ensures.missing c.place_of_gap.ensures

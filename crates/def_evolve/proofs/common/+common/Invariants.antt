use Rattle.std.proofs.Common.{◌≡◌, ◌+◌, length}
use Rattle.bag_model.specs.Sizes.{shape_size, nodes_size}
use Rattle.field_table.specs.Plain.{nodes_of, shape_of}
use Rattle.def_evolve.proofs.CommonPaths.{common_of}
use Rattle.def_evolve.proofs.FieldPlaces.{nodes_from_place}
use Rattle.def_evolve.proofs.common.+common.Given as goal

abbrev pub decreases-common_fields : goal.decreases-common_fields
decreases-common_fields l = nodes_size (nodes_of l.fields.now)

abbrev pub decreases-common_slots : goal.decreases-common_slots
decreases-common_slots l = shape_size (shape_of l.old.now)

abbrev pub invariant-common_fields-loop-at : goal.invariant-common_fields-loop-at
invariant-common_fields-loop-at l = length (common_of (nodes_of l.fields) (nodes_of l.others)) ≡ l.common + length (common_of (nodes_from_place l.at (nodes_of l.fields)) (nodes_of l.others))

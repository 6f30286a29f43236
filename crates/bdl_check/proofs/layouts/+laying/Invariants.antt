use Rattle.std.proofs.Common.{◌+◌, ◌*◌, map, take}
use Rattle.bag_model.specs.Shapes.{fields}
use Rattle.bdl_parser.specs.Views.{bag_field_of}
use Rattle.bdl_check.specs.Layouts.{AreFieldsOf, IsLaidOut}
use Rattle.field_table.specs.Plain.{nodes_of, IsIndexed}
use Rattle.bdl_check.proofs.layouts.+laying.Given as goal

abbrev pub decreases-lay_out : goal.decreases-lay_out
decreases-lay_out l = 4 * l.room

abbrev pub decreases-decl_shape : goal.decreases-decl_shape
decreases-decl_shape l = 4 * l.room + 1

abbrev pub decreases-type_shape : goal.decreases-type_shape
decreases-type_shape l = 4 * l.room + 2

abbrev pub decreases-slot : goal.decreases-slot
decreases-slot l = 4 * l.room + 3

abbrev pub invariant-lay_out-loop-field : goal.invariant-lay_out-loop-field
invariant-lay_out-loop-field l = record {
  each : AreFieldsOf l.declarations (IsLaidOut l.declarations) (map (λ field. bag_field_of field.now) (take l.field-index l.field-items))
      (fields (nodes_of l.slots));
  indexed : IsIndexed l.slots;
}

use Rattle.std.proofs.Common.{rules, sym, subst}
use Rattle.bag_model.specs.Shapes as shapes
use Rattle.bag_model.specs.Joins.{Alike}
use Rattle.bag_value.specs.Vals.{plain}
use Rattle.fixture_bags.proofs.join_of.Goals as goal

pub join-requires : goal.join-requires
join-requires c =
    subst (λ ours. Alike (plain ours) (plain c.args.theirs.now)) (sym c.in_ok-joined.ensures)
    (c.values_of_one_shape_are_joined.ensures.alike (shapes.Shape.Bag c.args.table.now) (plain c.args.ours.now) (plain c.args.theirs.now)
    (c.if-can_encode.ensures.0 (search rules)).0 (c.if-can_encode-2.ensures.0 (search rules)).0)

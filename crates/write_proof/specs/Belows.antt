-- Values that can be compared.
use Rattle.bag_model.specs.Shapes.{Shape, Nodes}
use Rattle.bag_model.specs.Values.{Value, Values, IsOfShape, AreOfShapes}

-- The values are of one shape.
abbrev pub AreOfOne : Value → Value → Type 0
AreOfOne v w = (shape : Shape) × IsOfShape shape v × IsOfShape shape w

-- Two lists of values are those of the fields of one bag.
abbrev pub AreOfOneBag : Values → Values → Type 0
AreOfOneBag vs ws = (nodes : Nodes) × AreOfShapes nodes vs × AreOfShapes nodes ws

use Rattle.std.proofs.Common.{◌≡◌, [], sym, ◌∙◌, subst}
use Rattle.context_model.specs.Ended.{field_path}
use Rattle.bag_model.specs.Readings.{PathsOf}
use Rattle.bag_model.specs.Shapes as shapes
use Rattle.bag_model.specs.Slots.{SlotAt}
use Rattle.bag_model.specs.Values.{IsOfShape}
use Rattle.bag_model.proofs.OfShape.{Reads-shape}
use Rattle.bag_decode.proofs.laws.what_is_read_is_of_its_shape.Goals as goal

pub returns-clause-bags : goal.returns-clause-bags
returns-clause-bags c = λ nodes list v says. Reads-shape (shapes.Shape.Bag nodes) (PathsOf list) [] v says

pub returns-clause-slots : goal.returns-clause-slots
returns-clause-slots c = λ nodes list slot at v says here.
    let there = says.0 in
    let same : there ≡ at = cc (sym says.1 ∙ here) in
    subst (λ (s : SlotAt). IsOfShape s.shape v) same (Reads-shape there.shape (PathsOf list) (field_path there.numbers) v says.2)

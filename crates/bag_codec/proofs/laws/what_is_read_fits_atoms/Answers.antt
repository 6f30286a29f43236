use Rattle.std.proofs.Common.{[]}
use Rattle.context_model.specs.Ended.{field_path}
use Rattle.context_model.specs.Orders.{Path}
use Rattle.bag_encode.specs.Encoding.{bag_values}
use Rattle.bag_model.specs.Encodings.{FitsAtoms}
use Rattle.bag_model.specs.Readings.{PathsOf, Reads}
use Rattle.bag_model.specs.Shapes as shapes
use Rattle.bag_model.specs.Shapes.{Nodes}
use Rattle.bag_model.specs.Values.{Value, Bag}
use Rattle.bag_walks.proofs.SlotFits.{only_fits}
use Rattle.bag_codec.proofs.Layouts.{Fits, layout_fits, layouts_fit}
use Rattle.bag_codec.proofs.ReadAgain.{paths_fit, read_encodable, read_each_encodable}
use Rattle.bag_codec.proofs.laws.what_is_read_fits_atoms.Goals as goal

bag_fits : (nodes : Nodes) (P : Path → Type 0) → ((p : Path) → P p → Fits p) → (v : Value) → Reads (shapes.Shape.Bag nodes) P [] v → FitsAtoms nodes (bag_values v)
bag_fits nodes P fits (Bag vs) says = layouts_fit nodes [] vs (read_each_encodable P fits nodes [] vs says)
bag_fits nodes P fits v says = absurd says

pub returns-clause-bags : goal.returns-clause-bags
returns-clause-bags c = λ nodes list v all says. bag_fits nodes (PathsOf list) (λ p i. paths_fit list p all i) v says

pub returns-clause-slots : goal.returns-clause-slots
returns-clause-slots c = λ nodes list slot v all says.
    let at = says.0 in
    let encodable = read_encodable (PathsOf list) (λ p i. paths_fit list p all i) at.shape (field_path at.numbers) v says.2 in
    only_fits nodes slot at v says.1 (λ q p laid. layout_fits at.shape q v encodable p laid)

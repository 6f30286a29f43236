use Rattle.bag_model.proofs.LayoutLaws.{encodings_read_back}
use Rattle.bag_value.proofs.laws.encodings_read_back.Goals as goal

pub returns : goal.returns
returns c = encodings_read_back

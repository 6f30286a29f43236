use Rattle.bag_encode.specs.Values.{field_atoms}
use Rattle.bag_encode.proofs.EncodingLaws.{IsEncoding-atoms}
use Rattle.bag_encode.proofs.laws.values_have_encodings.Goals as goal

pub returns : goal.returns
returns c = λ nodes vs table shapes. (field_atoms nodes 0 vs, IsEncoding-atoms nodes vs table shapes)

use Rattle.std.proofs.Common.{refl}
use Rattle.std.specs.List.{flat_map}
use Rattle.hex.specs.Hex.{encode_lower}
use Rattle.hex.proofs.HexLemmas.{decode_of-encode_lower}
use Rattle.bag_model.specs.Scalars.{ScalarValue, Text}
use Rattle.text_model.specs.ScalarTexts.{escaped}
use Rattle.piece_calls.proofs.ReadBack.{spells}
use Rattle.piece_calls.proofs.laws.quotes_read_back.Goals as goal

pub returns : goal.returns
returns c = record {
  text = λ form bytes utf8 few. (utf8, few, (flat_map escaped bytes, spells bytes, refl));
  octets = λ form bytes are few. (tt, few, (encode_lower bytes, refl, decode_of-encode_lower bytes are));
  write = λ form pick bytes utf8 few. (ScalarValue.One (Text bytes), (utf8, few, (flat_map escaped bytes, spells bytes, refl)), refl);
}

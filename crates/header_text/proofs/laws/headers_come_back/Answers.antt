use Rattle.std.proofs.Common.{Some, refl}
use Rattle.header_text.specs.Texts.{header_text}
use Rattle.header_text.proofs.Letters.{length_text}
use Rattle.header_text.proofs.Lost.{reads_one_way}
use Rattle.header_text.proofs.Cut.{text_alone}
use Rattle.header_text.proofs.laws.headers_come_back.Goals as goal

pub returns : goal.returns
returns c = record {
  read = λ bytes list reading are of reads. reads_one_way (header_text bytes) reading (Some list) reads (bytes, are, of, refl);
  alone = text_alone;
  size = length_text;
}

use Rattle.std.proofs.Common.{None, take}
use Rattle.header_text.specs.Texts.{header_text}
use Rattle.header_text.proofs.Lost.{reads_one_way}
use Rattle.header_text.proofs.Cut.{cut_is_none}
use Rattle.header_text.proofs.laws.damage_is_lost.Goals as goal

pub returns : goal.returns
returns c = record {
  other = λ part reading none reads. reads_one_way part reading None reads (λ list carries. none carries.0 list carries.1 carries.2 carries.3);
  cut = λ bytes n reading less reads. reads_one_way (take n (header_text bytes)) reading None reads (λ list carries. cut_is_none bytes carries.0 n less carries.3);
}

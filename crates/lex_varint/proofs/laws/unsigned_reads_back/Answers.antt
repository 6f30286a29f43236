use Rattle.std.proofs.Common.{refl}
use Rattle.lex_varint.proofs.laws.unsigned_reads_back.Goals as goal

pub returns : goal.returns
returns c = λ value rest h. record { fits = h; front = (rest, refl); whole = refl }

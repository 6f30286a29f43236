use Rattle.context_model.proofs.VarintLaws.{unsigned_varint-prefix}
use Rattle.lex_varint.proofs.laws.unsigned_codes_stand_apart.Goals as goal

pub returns : goal.returns
returns c = unsigned_varint-prefix

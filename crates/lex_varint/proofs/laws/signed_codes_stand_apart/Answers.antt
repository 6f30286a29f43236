use Rattle.context_model.proofs.VarintLaws.{signed_varint-prefix}
use Rattle.lex_varint.proofs.laws.signed_codes_stand_apart.Goals as goal

pub returns : goal.returns
returns c = signed_varint-prefix

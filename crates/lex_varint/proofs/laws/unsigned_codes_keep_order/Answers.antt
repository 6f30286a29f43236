use Rattle.context_model.proofs.VarintLaws.{unsigned_varint-order}
use Rattle.lex_varint.proofs.laws.unsigned_codes_keep_order.Goals as goal

pub returns : goal.returns
returns c = unsigned_varint-order

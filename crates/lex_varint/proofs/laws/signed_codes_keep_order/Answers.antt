use Rattle.context_model.proofs.VarintLaws.{signed_varint-order}
use Rattle.lex_varint.proofs.laws.signed_codes_keep_order.Goals as goal

pub returns : goal.returns
returns c = signed_varint-order

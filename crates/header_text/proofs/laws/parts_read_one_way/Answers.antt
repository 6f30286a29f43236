use Rattle.header_text.proofs.Letters.{one_text}
use Rattle.header_text.proofs.Lost.{reads_one_way}
use Rattle.header_text.proofs.laws.parts_read_one_way.Goals as goal

pub returns : goal.returns
returns c = record { read = reads_one_way; texts = one_text }

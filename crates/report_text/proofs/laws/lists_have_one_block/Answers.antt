use Rattle.report_text.proofs.OneBlock.{one_block}
use Rattle.report_text.proofs.laws.lists_have_one_block.Goals as goal

pub returns : goal.returns
returns c = one_block

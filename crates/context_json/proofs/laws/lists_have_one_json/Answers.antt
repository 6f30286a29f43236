use Rattle.context_json.proofs.OneObject.{one_context_json}
use Rattle.context_json.proofs.laws.lists_have_one_json.Goals as goal

pub returns : goal.returns
returns c = one_context_json

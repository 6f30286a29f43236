use Rattle.context_json.proofs.SameData.{same_data}
use Rattle.context_json.proofs.laws.blocks_have_the_same_data.Goals as goal

pub returns : goal.returns
returns c = same_data

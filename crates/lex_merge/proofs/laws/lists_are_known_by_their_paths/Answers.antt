use Rattle.context_model.proofs.MergedLaws.{paths_tell_lists}
use Rattle.lex_merge.proofs.laws.lists_are_known_by_their_paths.Goals as goal

pub returns : goal.returns
returns c = paths_tell_lists

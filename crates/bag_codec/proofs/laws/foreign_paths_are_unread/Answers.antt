use Rattle.bag_codec.proofs.Foreign.{foreign_is_unread}
use Rattle.bag_codec.proofs.laws.foreign_paths_are_unread.Goals as goal

pub returns : goal.returns
returns c = foreign_is_unread

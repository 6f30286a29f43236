use Rattle.std.proofs.Common.{ap, sym}
use Rattle.std.specs.Option.{is_some}
use Rattle.bdl_parser.proofs.NameLaws.{leaf_named}
use Rattle.bdl_parser.proofs.words.is_leaf.Goals as goal

pub returns-in-None : goal.returns-in-None
returns-in-None c =
    ap is_some (sym (leaf_named c.args.text.now c.reserved_word.result c.reserved_word.ensures c.in-None.is c.requires))

use Rattle.std.proofs.Common.{ap, sym, ◌∙◌, Some}
use Rattle.std.specs.Option.{option_map}
use Rattle.bdl_parser.specs.Trees.{leaf, name}
use Rattle.bdl_parser.proofs.NameLaws.{leaf_named}
use Rattle.bdl_parser.proofs.words.leaf_form.Goals as goal

pub returns-in_ok-text_with-in-None : goal.returns-in_ok-text_with-in-None
returns-in_ok-text_with-in-None c spot =
    ap (λ text. Some (leaf (name text) spot)) c.in_ok-text_with-in-None.ensures
    ∙ ap (option_map (λ found. leaf found spot)) (sym (leaf_named c.args.text.now c.reserved_word.result c.reserved_word.ensures c.in-None.is c.requires.word))

use Rattle.std.proofs.Common.{◌≡◌, ◌==◌, rules, tests}
use Rattle.std.specs.List.{list_all}
use Rattle.std.proofs.lemmas.Iterator.Search.{all_from_yields_List}
use Rattle.std.proofs.lemmas.Iterator.Splits.{YieldsList-from_slice_split}
use Rattle.bag_model.specs.Words.{is_word}
use Rattle.text_lines.proofs.Separated.{pieces}
use Rattle.graph_lines.proofs.Paths.{path_test}
use Rattle.graph_lines.proofs.words.is_path.Goals as goal

pub returns : goal.returns
returns c =
    let text = c.args.text.now in
    let all : c.all.result ≡ list_all is_word (pieces 46 text) =
    all_from_yields_List is_word _ _ c.all.result c.all.ensures.ran
    (YieldsList-from_slice_split _ (λ b. b == 46) text c.split.ensures.rest c.split.ensures.done c.split.ensures.closure (λ x b q k. search (rules, tests)))
    (λ x b q k. search (rules, tests))
    in
    path_test text c.all.result all

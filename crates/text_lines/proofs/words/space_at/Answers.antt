use Rattle.text_lines.proofs.Spaces.{space_found}
use Rattle.text_lines.proofs.words.space_at.Goals as goal

pub returns : goal.returns
returns c =
    let found = c.place_of.ensures in
    space_found c.args.text.now c.place_of.result found.none found.within found.first found.there

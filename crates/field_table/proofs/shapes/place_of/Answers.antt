use Rattle.std.proofs.Common.{map, [], Some, sym, ◌∙◌, ap, arith}
use Rattle.std.specs.Cmp.Lexicographic.{same_text, other_text}
use Rattle.std.specs.List.{slice_index}
use Rattle.std.proofs.lemmas.Option.{slice_get-get_or}
use Rattle.field_table.specs.Plain.{field_name}
use Rattle.field_table.proofs.Ranks.{none_left, none_there}
use Rattle.field_table.proofs.shapes.place_of.Goals as goal

pub returns-then-rank-by_name : goal.returns-then-rank-by_name
returns-then-rank-by_name c =
    none_left (map field_name c.args.items.now) c.args.by_name.now c.args.name.now c.rank_of-rank.result c.requires (c.rank_of-rank.ensures.rank c.requires) (omega arith)

pub returns-then-eq : goal.returns-then-eq
returns-then-eq c =
    let names = map field_name c.args.items.now in
    let place = slice_index c.args.by_name.now c.rank_of-rank.result in
    slice_get-get_or names place [] (c.requires.places_are.below c.rank_of-rank.result (omega arith)) ∙ ap Some (sym c.name_at.ensures ∙ same_text c.name_at.result.now c.args.name.now c.if-eq.ensures)

pub returns-else-eq : goal.returns-else-eq
returns-else-eq c =
    none_there (map field_name c.args.items.now) c.args.by_name.now c.args.name.now c.rank_of-rank.result c.requires (c.rank_of-rank.ensures.rank c.requires) (omega arith)
    (λ is. other_text c.name_at.result.now c.args.name.now c.if-eq.ensures (c.name_at.ensures ∙ is))

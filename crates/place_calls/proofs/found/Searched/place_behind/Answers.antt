use Rattle.std.proofs.Common.{length, sym, ap, ◌∙◌, subst}
use Rattle.context_model.specs.Ended.{field_path}
use Rattle.context_model.specs.Paths.{path_before}
use Rattle.context_model.proofs.FieldPaths.{length-field_path}
use Rattle.bag_walks.specs.Parts.{IsBehind}
use Rattle.field_table.specs.Plain.{shape_of}
use Rattle.place_calls.specs.Found.{IsPartAt}
use Rattle.place_calls.proofs.FoundLaws.{part_found, part_there}
use Rattle.place_calls.proofs.found.Searched.place_behind.Goals as goal

pub check_part-stop-requires-clause-behind : goal.check_part-stop-requires-clause-behind
check_part-stop-requires-clause-behind c = subst (λ p. IsBehind c.args.self.now.list.now p c.args.from) (sym c.requires.behind.path) c.requires.behind

pub check_part-stop-requires-clause-level : goal.check_part-stop-requires-clause-level
check_part-stop-requires-clause-level c = ap length c.requires.behind.path ∙ length-field_path 0 c.args.numbers.now

pub place_of_part-requires-clause-part : goal.place_of_part-requires-clause-part
place_of_part-requires-clause-part c =
    let list = c.args.self.now.list.now in
    let shape = shape_of c.args.shape.now in
    let behind = subst (λ p. IsBehind list p c.args.from) (sym c.requires.behind.path) c.requires.behind in
    let level = ap length c.requires.behind.path ∙ length-field_path 0 c.args.numbers.now in
    (path_before list c.args.from, shape, part_found list c.args.from (length c.args.numbers.now) c.check_part-stop.result.0 shape c.check_part-stop.result.1 behind level c.check_part-stop.ensures.stop c.check_part-stop.ensures.misspelled)

pub returns : goal.returns
returns c =
    let list = c.args.self.now.list.now in
    let shape = shape_of c.args.shape.now in
    let stop = c.check_part-stop.result.0 in
    let misspelled = c.check_part-stop.result.1 in
    let behind = subst (λ p. IsBehind list p c.args.from) (sym c.requires.behind.path) c.requires.behind in
    let level = ap length c.requires.behind.path ∙ length-field_path 0 c.args.numbers.now in
    let part = part_found list c.args.from (length c.args.numbers.now) stop shape misspelled behind level c.check_part-stop.ensures.stop c.check_part-stop.ensures.misspelled in
    part_there c.args.self.now (field_path c.args.numbers.now) shape c.args.from stop misspelled c.place_of_part.result (subst (λ p. IsPartAt list p shape c.args.from stop misspelled) c.requires.behind.path part) c.place_of_part.ensures

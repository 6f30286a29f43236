use Rattle.std.proofs.Common.{rules}
use Rattle.field_calls.specs.Fields.{IsPrintedTable}
use Rattle.place_calls.proofs.TextLaws.{chosen_by_text}
use Rattle.place_calls.proofs.chosen.chosen_places_into.Goals as goal

pub returns : goal.returns
returns c =
    let printed : IsPrintedTable c.in_ok-table.table c.args.table.now = search rules in
    chosen_by_text c.in_ok-table.table c.args.table.now printed c.args.chosen.now c.args.context.now c.args.places.now c.chosen_places_under.new.places _ c.chosen_places_under.ensures

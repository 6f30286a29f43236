use Rattle.std.proofs.Common.{rules}
use Rattle.field_calls.specs.Fields.{IsPrintedTable}
use Rattle.place_calls.proofs.TextLaws.{places_by_text}
use Rattle.place_calls.proofs.finding.places_into.Goals as goal

pub returns : goal.returns
returns c =
    let printed : IsPrintedTable c.in_ok-table.table c.args.table.now = search rules in
    places_by_text c.in_ok-table.table c.args.table.now printed c.args.context.now c.args.places.now c.places_under.new.places _ c.places_under.ensures

use Rattle.std.proofs.Common.{subst}
use Rattle.bag_model.specs.Slots.{slots_of}
use Rattle.place_calls.specs.Places.{HoldsPlaces}
use Rattle.place_calls.specs.declared.found.Searched.{Searched}
use Rattle.place_calls.proofs.FoundLaws.{puts_all}
use Rattle.place_calls.proofs.finding.put_places.Goals as goal

pub returns : goal.returns
returns c =
    let slots = slots_of c.args.table.now in
    let searched : Searched = record { form = c.args.form; list = c.list-list.result; marker = c.first_marker-marker.result } in
    subst (λ list. HoldsPlaces c.args.form list slots c.slots-size.result c.args.places.now c.put_table.new.places) c.list-list.ensures.list
    (puts_all searched slots c.slots-size.result c.args.places.now c.put_table.new.places c.slots-size.ensures c.if-places-size.false c.put_table.ensures)

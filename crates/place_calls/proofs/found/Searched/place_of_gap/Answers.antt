use Rattle.std.proofs.Common.{sym, subst}
use Rattle.context_model.specs.Ended.{field_path}
use Rattle.place_calls.specs.Places.{IsPlaceInBytes}
use Rattle.place_calls.proofs.SlotPlaces.{gap_span, gap_place}
use Rattle.place_calls.proofs.found.Searched.place_of_gap.Goals as goal

pub returns : goal.returns
returns c = λ at gap.
    let form = c.args.self.now.form in
    let list = c.args.self.now.list.now in
    subst (IsPlaceInBytes form list at) (sym c.new.ensures)
    (gap_place form list at c.args.stop c.bytes_before-start.result c.state.result gap c.bytes_before-start.ensures (c.state.ensures at (gap_span list (field_path at.numbers) c.args.stop gap)))

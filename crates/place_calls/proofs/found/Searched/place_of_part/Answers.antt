use Rattle.std.proofs.Common.{◌-◌, sym, subst, arith}
use Rattle.context_model.specs.Ended.{field_path}
use Rattle.place_calls.specs.Found.{IsPartAt}
use Rattle.place_calls.specs.Places.{IsPlaceInBytes}
use Rattle.place_calls.proofs.Offsets.{offset_rises}
use Rattle.place_calls.proofs.SlotPlaces.{typed_place}
use Rattle.place_calls.proofs.found.Searched.place_of_part.Goals as goal

pub overflow_sub-end : goal.overflow_sub-end
overflow_sub-end c =
    let (s, shape, part) = c.requires.part in
    let rises = offset_rises c.args.self.now.form c.args.self.now.list.now c.args.from c.args.stop part.span.1.part.rises in
    omega (arith, c.bytes_before-start.ensures, c.bytes_before-end.ensures, rises)

pub returns : goal.returns
returns c = λ at part.
    let form = c.args.self.now.form in
    let list = c.args.self.now.list.now in
    let typed = subst (IsPartAt list (field_path at.numbers) at.shape c.args.from c.args.stop) c.in_default.is part in
    let rises = offset_rises form list c.args.from c.args.stop part.span.1.part.rises in
    subst (IsPlaceInBytes form list at) (sym c.new-2.ensures)
    (typed_place form list at c.args.from c.args.stop c.bytes_before-start.result (c.bytes_before-end.result - c.bytes_before-start.result) c.state.result typed c.bytes_before-start.ensures
    (omega (arith, c.bytes_before-start.ensures, c.bytes_before-end.ensures, rises)) (c.state.ensures at typed.span))

use Rattle.context_model.specs.Ended.{field_path}
use Rattle.place_calls.proofs.SlotPlaces.{says_ended}
use Rattle.place_calls.proofs.found.Searched.state.Goals as goal

pub returns : goal.returns
returns c = λ at span.
    says_ended c.args.self.now.list.now at c.state.result c.place_state.result c.place_state.ensures
    (c.state.ensures c.args.self.now.list.now (field_path at.numbers) c.requires.well_formed c.requires.marker span)

use Rattle.bag_decode.proofs.SlotPlaces.{span_place}
use Rattle.bag_decode.proofs.slots.slot_value.Goals as goal

pub value_at-requires-clause-place : goal.value_at-requires-clause-place
value_at-requires-clause-place c = λ at here.
    span_place c.args.context.now at.numbers c.args.span.now.from c.args.span.now.stop (c.requires.span at here)

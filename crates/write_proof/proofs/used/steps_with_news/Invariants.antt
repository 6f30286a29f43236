use Rattle.std.proofs.Common.{map, take}
use Rattle.bag_value.specs.Vals.{plain}
use Rattle.write_proof.specs.Used.{ArePartsAt, AreNewsAt}
use Rattle.write_proof.proofs.used.steps_with_news.Given as goal

abbrev pub invariant-loop-step : goal.invariant-loop-step
invariant-loop-step l = record {
  parts : ArePartsAt l.table l.graph l.slot l.used.steps.items (map plain l.used.parts.items);
  news : AreNewsAt l.table l.graph l.slot (take l.step-index l.steps) l.used.steps.items;
}

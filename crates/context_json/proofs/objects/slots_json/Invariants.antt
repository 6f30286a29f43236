use Rattle.std.proofs.Common.{map}
use Rattle.serde_json.specs.View.{view}
use Rattle.context_json.specs.Objects.{AreInPlace, IsSlotObject}
use Rattle.context_json.proofs.objects.slots_json.Given as goal

abbrev pub invariant-loop-slot : goal.invariant-loop-slot
invariant-loop-slot l = AreInPlace l.slot (IsSlotObject l.table l.context) (map view l.fields.items)

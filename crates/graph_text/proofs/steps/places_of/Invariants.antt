use Rattle.std.proofs.Common.{◌≡◌, take}
use Rattle.graph_text.proofs.steps.places_of.Given as goal

abbrev pub invariant-loop-number : goal.invariant-loop-number
invariant-loop-number l = l.places ≡ take l.number-index l.numbers

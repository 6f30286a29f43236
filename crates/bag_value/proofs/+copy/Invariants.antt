use Rattle.std.proofs.Common.{◌≡◌, take}
use Rattle.bag_value.proofs.+copy.Given as goal

abbrev pub invariant-lists::Entries::copy-loop-entry : goal.invariant-lists::Entries::copy-loop-entry
invariant-lists::Entries::copy-loop-entry l = l.items.items ≡ take l.entry-index l.entry-items

abbrev pub invariant-lists::Vals::copy-loop-value : goal.invariant-lists::Vals::copy-loop-value
invariant-lists::Vals::copy-loop-value l = l.items.items ≡ take l.value-index l.value-items

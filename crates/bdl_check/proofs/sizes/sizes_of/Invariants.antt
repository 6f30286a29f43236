use Rattle.std.proofs.Common.{◌≡◌, length, take}
use Rattle.bdl_check.proofs.OrderSizes.{AreDone}
use Rattle.bdl_check.proofs.sizes.sizes_of.Given as goal

abbrev pub invariant-loop-number : goal.invariant-loop-number
invariant-loop-number l = record {
  count : length l.sizes.items ≡ length l.declarations;
  done : AreDone l.declarations l.sizes.items (take l.number-index l.order);
}

-- Bounds that ghost members cite.
use Rattle.std.specs.Prelude.{◌-◌, ◌^◌, ◌≤◌}
use Rattle.std.proofs.Common.{arith}

-- The count 0 is within a u64.
pub zero_in_range : 0 ≤ 2 ^ 64 - 1
zero_in_range = omega arith

-- Counts of faults, and their range.
use Rattle.std.specs.Prelude.{ℕ, ◌-◌, ◌^◌, ◌≤◌}
use Rattle.outside.specs.declared.faults.FaultCount.{FaultCount}

-- How many faults were counted.
abbrev pub faults_in : FaultCount → ℕ
faults_in faults = faults.count

-- A count of faults is at most the last value of a count.
pub faults_in_range : (faults : FaultCount) → faults_in faults ≤ 2 ^ 64 - 1
faults_in_range faults = faults.in_range

-- Counts of faults: an answer that blames the world outside has its cause in a count that rose.
use Rattle.std.specs.Prelude.{◌≡◌, ℕ, ◌+◌, ◌-◌, ◌^◌, ◌≤◌, min, OnOk, OnErr, IsErrOf, Result}

-- A count that rose: it is greater than before, or is at its last value, which it never leaves.
abbrev pub Rose : ℕ → ℕ → Type 0
Rose before now = min (before + 1) (2 ^ 64 - 1) ≤ now

-- The count never falls. It stays where the call succeeds, and a refusal comes only where it rose.
pub record HasCause {T E : Type 0} (before now : ℕ) (result : Result T E) : Type 0 where
  pub later : before ≤ now
  pub steady : OnOk result (now ≡ before)
  pub failed : OnErr result (Rose before now)

-- The count never falls. It stays where the call succeeds, and this refusal comes only where it
-- rose.
pub record HasCauseAt {T E : Type 0} (error : E) (before now : ℕ) (result : Result T E)
    : Type 0 where
  pub later : before ≤ now
  pub steady : OnOk result (now ≡ before)
  pub failed : IsErrOf result error → Rose before now

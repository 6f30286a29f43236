-- The first lines to which rules over all lines apply.
use Rattle.std.specs.Prelude.{ℕ, List, Option, Some, None}
use Rattle.bag_model.specs.Slots.{SlotAt}
use Rattle.trace_model.specs.Graphs.{Graph}
use Rattle.write_proof.specs.declared.verdicts.VerifyCode.{VerifyCode}
use Rattle.write_proof.specs.Entries.{Entry}
use Rattle.write_proof.specs.LineRules.{HasParent}
use Rattle.write_proof.specs.WholeRules.{SpeaksOf, AppliesSomewhere, IsFirstLine}

-- The first line to which the rule of this code applies, or none where it applies to no line.
abbrev pub FindsLine : Graph → ℕ → SlotAt → List Entry → VerifyCode → Option ℕ → Type 0
FindsLine graph slot at said code (Some line) = IsFirstLine graph slot at said code line
FindsLine graph slot at said code None = AppliesSomewhere graph slot at said code → ⊥

-- The step of which the entry speaks, or none where it speaks of none.
abbrev pub IsSpoken : Entry → Option ℕ → Type 0
IsSpoken entry (Some step) = SpeaksOf entry step
IsSpoken entry None = (step : ℕ) → SpeaksOf entry step → ⊥

-- The step has a parent that is none of those for which P holds.
abbrev pub MissesParent : Graph → ℕ → (ℕ → Type 0) → Type 0
MissesParent graph step P = (parent : ℕ) × HasParent graph step parent × (P parent → ⊥)

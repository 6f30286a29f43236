-- Several faults, and the first of them.
use Rattle.std.specs.Prelude.{Bool, List, [], ◌∷◌, Option, None, Some, if◌then◌else◌}
use Rattle.bdl_load.specs.declared.faults.Fault.{Fault}
use Rattle.bdl_load.specs.declared.faults.Finding.{Finding}
use Rattle.outside.specs.declared.answers.OrMemory.{OrMemory}
use Rattle.outside.specs.declared.answers.OrMemory.TheVariants as refusals

-- The fault where there is one.
abbrev pub when : Bool → Finding → List Finding
when holds finding = if holds then finding ∷ [] else []

-- The first of a list.
abbrev pub first : {A : Type 0} → List A → Option A
first [] = None
first (x ∷ xs) = Some x

-- What a refusal says: a fault of which this holds, or that there is no memory.
abbrev pub RefusesFor : (Fault → Type 0) → OrMemory Fault → Type 0
RefusesFor Holds (refusals.Fault fault) = Holds fault
RefusesFor Holds refusals.Memory = Unit {0}

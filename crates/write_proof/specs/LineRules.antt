-- The rules for each line of a certificate by itself.
use Rattle.std.specs.Prelude.{◌≡◌, ◌⊎◌, ℕ, ◌<◌, ◌≤◌, List, [], ◌∷◌, length, Option, Some, None}
use Rattle.context_model.specs.Orders.{IsIn}
use Rattle.bag_model.specs.Shapes.{Nodes}
use Rattle.bag_model.specs.Slots.{FindsSlot}
use Rattle.text_lines.specs.Readings.{Reading, IsFirstOf, NoneOf}
use Rattle.trace_model.specs.Graphs as model
use Rattle.trace_model.specs.Graphs.{Act, Graph, parents_of, HasStep}
use Rattle.write_proof.specs.declared.verdicts.VerifyCode.{VerifyCode}
use Rattle.write_proof.specs.declared.verdicts.VerifyCode.TheVariants.{Form, StepRange, NoSuchPath, Order, NotParent, NotWrite}
use Rattle.write_proof.specs.Entries.{Entry, Why, ValueText, Reach, Uses, HasEntryForm}

-- The last of some entries, if there is one.
abbrev pub last_of : List Entry → Option Entry
last_of [] = None
last_of (entry ∷ []) = Some entry
last_of (entry ∷ next ∷ more) = last_of (next ∷ more)

-- The step for which a certificate is, by its first entry.
abbrev pub certificate_step : List Entry → ℕ
certificate_step (Why n path ∷ more) = n
certificate_step other = 0

-- An entry of this kind may follow the last: first the step, then the value's text, then the steps
-- that reach, then those that are used.
abbrev pub MayFollow : Option Entry → Entry → Type 0
MayFollow None (Why n path) = Unit {0}
MayFollow (Some (Why m way)) (ValueText text) = Unit {0}
MayFollow (Some (ValueText before)) (Reach w child) = Unit {0}
MayFollow (Some (ValueText before)) (Uses w) = Unit {0}
MayFollow (Some (Reach v other)) (Reach w child) = Unit {0}
MayFollow (Some (Reach v other)) (Uses w) = Unit {0}
MayFollow (Some (Uses v)) (Uses w) = Unit {0}
MayFollow last entry = ⊥

-- The last is an entry of the same kind, and its step isn't less than this one.
abbrev pub IsNoMore : Option Entry → Entry → Type 0
IsNoMore (Some (Reach v other)) (Reach w child) = w ≤ v
IsNoMore (Some (Uses v)) (Uses w) = w ≤ v
IsNoMore last entry = ⊥

-- Step c names w as a parent.
abbrev pub HasParent : Graph → ℕ → ℕ → Type 0
HasParent graph c w = (step : model.Step) × HasStep graph c step × IsIn w (parents_of step.act)

-- An act brings values: it is a write, or receives a list.
abbrev pub BringsValues : Act → Type 0
BringsValues model.Act.Start = ⊥
BringsValues (model.Act.Recv received) = Unit {0}
BringsValues (model.Act.Set parent slot v) = Unit {0}
BringsValues (model.Act.Branch parent) = ⊥
BringsValues (model.Act.Forward parent) = ⊥
BringsValues (model.Act.Trim parent budget) = ⊥
BringsValues (model.Act.Join parents) = ⊥

-- Step w is a write, or receives a list.
abbrev pub IsWriteStep : Graph → ℕ → Type 0
IsWriteStep graph w = (step : model.Step) × HasStep graph w step × BringsValues step.act

-- After other entries one breaks the rule of this code. The step must be one of the graph and the
-- path that of a slot; the steps of one kind rise, and are less than the certificate's step, or for
-- a used one no greater; a child has the step as a parent, and a used step brings values.
abbrev pub BreaksAlone : Nodes → Graph → List Entry → Entry → VerifyCode → Type 0
BreaksAlone table graph earlier (Why n path) StepRange = length graph.steps ≤ n
BreaksAlone table graph earlier (Why n path) NoSuchPath = FindsSlot table path None
BreaksAlone table graph earlier (Reach w child) Order =
    IsNoMore (last_of earlier) (Reach w child) ⊎ (certificate_step earlier ≤ w)
BreaksAlone table graph earlier (Reach w child) NotParent = HasParent graph child w → ⊥
BreaksAlone table graph earlier (Uses w) Order =
    IsNoMore (last_of earlier) (Uses w) ⊎ (certificate_step earlier < w)
BreaksAlone table graph earlier (Uses w) NotWrite = IsWriteStep graph w → ⊥
BreaksAlone table graph earlier entry code = ⊥

-- The rules for a line by itself, in the order in which they count.
abbrev pub rules_alone : List VerifyCode
rules_alone = StepRange ∷ NoSuchPath ∷ Order ∷ NotParent ∷ NotWrite ∷ []

-- The line says this entry, which is allowed there and breaks no rule.
abbrev pub IsGoodEntry : Nodes → Graph → List Entry → List ℕ → Entry → Type 0
IsGoodEntry table graph earlier line entry =
    HasEntryForm line entry × MayFollow (last_of earlier) entry
    × NoneOf (BreaksAlone table graph earlier entry) rules_alone

-- The line says no entry that is allowed there, or this is the first rule that its entry breaks.
abbrev pub IsBadEntryLine : Nodes → Graph → List Entry → List ℕ → VerifyCode → Type 0
IsBadEntryLine table graph earlier line code =
    (((entry : Entry) → HasEntryForm line entry → MayFollow (last_of earlier) entry → ⊥)
    × (code ≡ Form))
    ⊎ ((entry : Entry) × HasEntryForm line entry × MayFollow (last_of earlier) entry
    × IsFirstOf (BreaksAlone table graph earlier entry) rules_alone code)

-- Lines say entries, each after those before it.
abbrev pub certificate_lines : Nodes → Graph → Reading Entry VerifyCode
certificate_lines table graph =
    record { says = IsGoodEntry table graph; faults = IsBadEntryLine table graph }

-- What the comparison of two tables comes to.
use Rattle.std.specs.Prelude.{◌≡◌, ℕ, zero, suc, List, [], ◌∷◌, ◌++◌, Result, Ok, Err}
use Rattle.bag_model.specs.Shapes.{Nodes}
use Rattle.table_text.specs.declared.faults.TableCode.{TableCode}
use Rattle.table_text.specs.Reading.{IsTableFault}
use Rattle.def_evolve.specs.Evolution.{IsSafe}
use Rattle.def_evolve.specs.Verdicts.{IsVerdict, verdict_text}
use Rattle.def_evolve.specs.declared.verdicts.Change.TheVariants as changes
use Rattle.def_evolve.specs.declared.verdicts.Verdict.{Verdict}
use Rattle.def_evolve.specs.declared.verdicts.Verdict.TheVariants as verdicts
use Rattle.byte_calls.specs.Room.{HoldsBytes, IsTooShortFor}
use Rattle.field_calls.specs.Fields.{IsPrintedTable}
use Rattle.table_calls.specs.declared.evolution.Change.{Change}
use Rattle.table_calls.specs.declared.evolution.Change.TheVariants.{Fits, Shape, Key, Kind}
use Rattle.table_calls.specs.declared.refusals.TableRefusal.{TableRefusal}
use Rattle.table_calls.specs.declared.refusals.TableRefusal.TheVariants.{Table, Memory, Room}

-- What a verdict says of the fields.
abbrev pub change_of : Verdict → Change
change_of (verdicts.Fits common) = Fits
change_of (verdicts.Breaks path changes.Shape) = Shape
change_of (verdicts.Breaks path changes.Key) = Key
change_of (verdicts.Breaks path changes.Kind) = Kind

-- The line of a verdict.
abbrev pub verdict_text_line : Verdict → List ℕ
verdict_text_line verdict = verdict_text verdict ++ 10 ∷ []

-- The change and the line are what the verdict on two tables says. Where the new table fits,
-- contexts of the old one are safe under it.
pub record IsCompared (old next : Nodes) (change : Change) (line : List ℕ) : Type 0 where
  pub verdict : Verdict
  pub right : IsVerdict old next verdict
  pub told : change ≡ change_of verdict
  pub written : line ≡ verdict_text_line verdict
  pub safe : change ≡ Fits → IsSafe old next

-- The first text has this first bad line; or it is that of a table, and the second one has it.
abbrev pub IsTableFaultOf : List ℕ → List ℕ → ℕ → ℕ → TableCode → Type 0
IsTableFaultOf old next zero line code = IsTableFault old line code
IsTableFaultOf old next (suc zero) line code =
    ((nodes : Nodes) × IsPrintedTable nodes old) × IsTableFault next line code
IsTableFaultOf old next which line code = ⊥

-- The texts are those of tables of which this is so.
abbrev pub OfTables : List ℕ → List ℕ → (Nodes → Nodes → Type 0) → Type 0
OfTables old next IsSo =
    (before after : Nodes) × IsPrintedTable before old × IsPrintedTable after next
    × IsSo before after

-- The line of the comparison is at the beginning of the buffer, and the answer has what it says and
-- its size; or the buffer is too short for it. Or one of the texts has this first fault, and the
-- buffer is as before.
abbrev pub ComparesInto : List ℕ → List ℕ → List ℕ → List ℕ → Result (Change × ℕ) TableRefusal
    → Type 0
ComparesInto old next before after (Ok answer) =
    OfTables old next (λ a b. (line : List ℕ) × IsCompared a b answer.0 line
    × HoldsBytes line answer.1 before after)
ComparesInto old next before after (Err (Room size)) =
    OfTables old next (λ a b. (change : Change) × (line : List ℕ) × IsCompared a b change line
    × IsTooShortFor line size before after)
ComparesInto old next before after (Err (Table which line code)) =
    IsTableFaultOf old next which line code × (after ≡ before)
ComparesInto old next before after (Err Memory) = after ≡ before
ComparesInto old next before after (Err refusal) = ⊥

-- The line of the comparison of these tables is at the beginning of the buffer, and the answer has
-- what it says and its size; or the buffer is too short for it; or there is no memory, and the
-- buffer is as before.
abbrev pub ComparesUnder : Nodes → Nodes → List ℕ → List ℕ → Result (Change × ℕ) TableRefusal
    → Type 0
ComparesUnder old next before after (Ok answer) =
    (line : List ℕ) × IsCompared old next answer.0 line × HoldsBytes line answer.1 before after
ComparesUnder old next before after (Err (Room size)) =
    (change : Change) × (line : List ℕ) × IsCompared old next change line
    × IsTooShortFor line size before after
ComparesUnder old next before after (Err Memory) = after ≡ before
ComparesUnder old next before after (Err refusal) = ⊥

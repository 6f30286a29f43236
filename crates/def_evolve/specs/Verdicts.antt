-- The verdict on two tables, and its text.
use Rattle.std.specs.Prelude.{◌≡◌, ℕ, ◌++◌, List, codes}
use Rattle.std.specs.Fmt.{decimal}
use Rattle.bag_model.specs.Shapes.{Nodes, Bag}
use Rattle.def_evolve.specs.declared.verdicts.Change.{Change}
use Rattle.def_evolve.specs.declared.verdicts.Change.TheVariants as changes
use Rattle.def_evolve.specs.declared.verdicts.Part.{Part}
use Rattle.def_evolve.specs.declared.verdicts.Verdict.{Verdict}
use Rattle.def_evolve.specs.declared.verdicts.Verdict.TheVariants as verdicts
use Rattle.def_evolve.specs.Breaks.{IsFirstBreak, IsFitting, way_text}
use Rattle.def_evolve.specs.Common.{IsCommonCount}

-- The verdict is right: that the new table fits, with the number of common slots, or the first
-- break.
abbrev pub IsVerdict : Nodes → Nodes → Verdict → Type 0
IsVerdict old new (verdicts.Fits common) =
    IsFitting old new × IsCommonCount (Bag old) (Bag new) common
IsVerdict old new (verdicts.Breaks path change) =
    (way : List Part) × IsFirstBreak (Bag old) (Bag new) way change × (path ≡ way_text way)

-- The name of a reason.
abbrev pub change_name : Change → List ℕ
change_name changes.Shape = codes "Shape"
change_name changes.Key = codes "Key"
change_name changes.Kind = codes "Kind"

-- `ok` and the number of common slots, or `breaks`, the path of the field, and the reason.
abbrev pub verdict_text : Verdict → List ℕ
verdict_text (verdicts.Fits common) = codes "ok " ++ decimal common
verdict_text (verdicts.Breaks path change) =
    codes "breaks " ++ (path ++ (codes " " ++ change_name change))

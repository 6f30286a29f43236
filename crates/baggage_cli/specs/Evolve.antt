-- What the comparison of two tables comes to.
use Rattle.std.specs.Prelude.{◌≡◌, ℕ, List, [], ◌∷◌, ◌++◌}
use Rattle.bag_model.specs.Shapes.{Nodes}
use Rattle.def_evolve.specs.Evolution.{IsSafe}
use Rattle.def_evolve.specs.Verdicts.{IsVerdict, verdict_text}
use Rattle.def_evolve.specs.declared.verdicts.Verdict.{Verdict}
use Rattle.def_evolve.specs.declared.verdicts.Verdict.TheVariants.{Fits}

-- The line of a verdict.
abbrev pub verdict_line : Verdict → List ℕ
verdict_line verdict = verdict_text verdict ++ 10 ∷ []

-- The line says whether the second table may take the place of the first, or which field is the
-- first that breaks, and why.
abbrev pub IsVerdictLine : Nodes → Nodes → List ℕ → Type 0
IsVerdictLine old new line =
    (verdict : Verdict) × IsVerdict old new verdict × (line ≡ verdict_line verdict)

-- Contexts that were written under the first table are safe under the second where the verdict is
-- that it fits.
abbrev pub SafeWhereItFits : Nodes → Nodes → Verdict → Type 0
SafeWhereItFits old new verdict = (common : ℕ) → verdict ≡ Fits common → IsSafe old new

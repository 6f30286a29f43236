-- One line and no other.
use Rattle.std.proofs.Common.{◌≡◌, ◌⊎◌, inl, inr, ℕ, List, [], ◌∷◌, Result, Ok, Err, refl, ap, ◌∙◌, arith}
use Rattle.std.specs.Global.{Vec}
use Rattle.std.specs.Result.{IsErrAnd}
use Rattle.text_lines.specs.Lines.{Line}
use Rattle.text_lines.specs.Readings.{Reading}
use Rattle.text_lines.proofs.ReadingLaws.{next_bad}
use Rattle.baggage_cli.specs.declared.refusals.InputCode.TheVariants.{Form}
use Rattle.baggage_cli.specs.declared.refusals.InputFault.{InputFault}
use Rattle.baggage_cli.specs.declared.refusals.InputFault.TheVariants.{Code}
use Rattle.baggage_cli.specs.declared.refusals.Notice.TheVariants.{Memory}
use Rattle.baggage_cli.specs.declared.refusals.Refusal.{Refusal}
use Rattle.baggage_cli.specs.declared.refusals.Refusal.TheVariants.{Plain}
use Rattle.baggage_cli.specs.Outcomes.{outcome_of, OrMemory}
use Rattle.baggage_cli.specs.Reading.{HasExcess, RefusesLine, only_one, RefusesOne, ReadsOne}

-- The first line is bad.
pub first_is_bad : {A : Type 0} (reading : Reading A InputFault) (lines : List Line) (line : Line) (rest : List Line) (refusal : Refusal) → lines ≡ line ∷ rest
    → RefusesLine reading line refusal → (refusal ≡ Plain Memory) ⊎ RefusesOne reading lines refusal
first_is_bad reading lines line rest refusal is (inl wanting) = inl wanting
first_is_bad reading lines line rest refusal is (inr (fault, bad, refused)) =
    inr (inr (line.0, fault, next_bad (only_one reading) lines [] line rest lines [] fault refl is tt (inl (omega arith, bad)), refused))

-- A second line is one too many.
pub second_is_bad : {A : Type 0} (reading : Reading A InputFault) (lines : List Line) (line : Line) (rest : List Line) (a : A) (refusal : Refusal) → lines ≡ line ∷ rest
    → HasExcess rest refusal → reading.says [] line.1 a → RefusesOne reading lines refusal
second_is_bad reading lines line rest a refusal is (second, after, next, refused) says =
    inr (second.0, Code Form, next_bad (only_one reading) lines (line ∷ []) second after rest (a ∷ []) (Code Form) is next ((omega arith, says), tt) (inr (omega arith, refl)), refused)

-- Why there is no one line is the refusal of a command that reads one.
pub refused_one : {A : Type 0} (reading : Reading A InputFault) (gives : A → List ℕ → Type 0) (lines : List Line) (result : Result (Vec ℕ) Refusal) (refusal : Refusal)
    → IsErrAnd result (λ other. other ≡ refusal) → (refusal ≡ Plain Memory) ⊎ RefusesOne reading lines refusal → OrMemory (ReadsOne reading gives lines) (outcome_of result)
refused_one reading gives lines (Ok output) refusal is why = absurd is
refused_one reading gives lines (Err other) refusal is (inl wanting) = inl (ap Err (is ∙ wanting))
refused_one reading gives lines (Err other) refusal is (inr (inl none)) = inr (inl (none.0, ap Err (is ∙ none.1)))
refused_one reading gives lines (Err other) refusal is (inr (inr (number, fault, bad, refused))) = inr (inr (number, fault, bad, is ∙ refused))

-- The rules over all lines of a certificate.
use Rattle.std.specs.Prelude.{◌≡◌, ◌≢◌, ◌⊎◌, ℕ, suc, ◌<◌, List, [], ◌∷◌, Some}
use Rattle.std.specs.List.{slice_get}
use Rattle.context_model.specs.Orders.{IsIn}
use Rattle.bag_model.specs.Joins.{IsValueBelow}
use Rattle.bag_model.specs.Slots.{SlotAt}
use Rattle.bag_model.specs.Values.{Value}
use Rattle.text_model.specs.ValueTexts.{value_text}
use Rattle.trace_model.specs.Contributions.{Contributes, IsLeastAbove}
use Rattle.trace_model.specs.Graphs as model
use Rattle.trace_model.specs.Graphs.{Graph, HasStep}
use Rattle.write_proof.specs.declared.verdicts.VerifyCode.{VerifyCode}
use Rattle.write_proof.specs.declared.verdicts.VerifyCode.TheVariants as codes
use Rattle.write_proof.specs.Entries.{Entry, Why, ValueText, Reach, Uses}
use Rattle.write_proof.specs.LineRules.{certificate_step, HasParent}

-- The steps of the lines that name a step that reaches.
abbrev pub reached : List Entry → List ℕ
reached [] = []
reached (Reach w child ∷ more) = w ∷ reached more
reached (other ∷ more) = reached more

-- The steps that are used.
abbrev pub used : List Entry → List ℕ
used [] = []
used (Uses w ∷ more) = w ∷ used more
used (other ∷ more) = used more

-- The step is that of the certificate, or on a line of a step that reaches it.
abbrev pub IsListed : List Entry → ℕ → Type 0
IsListed said w = (w ≡ certificate_step said) ⊎ IsIn w (reached said)

-- An entry speaks of a step that reaches: the first of the certificate's step, and others of their
-- own.
abbrev pub SpeaksOf : Entry → ℕ → Type 0
SpeaksOf (Why n path) w = w ≡ n
SpeaksOf (ValueText text) w = ⊥
SpeaksOf (Reach own child) w = w ≡ own
SpeaksOf (Uses own) w = ⊥

-- Step w contributes this value to the slot.
abbrev pub StepContributes : Graph → ℕ → SlotAt → ℕ → Value → Type 0
StepContributes graph slot at w x =
    (step : model.Step) × HasStep graph w step × Contributes slot at step.act x

-- One of some steps contributes it.
abbrev pub IsOfSteps : Graph → ℕ → SlotAt → List ℕ → Value → Type 0
IsOfSteps graph slot at steps x = (w : ℕ) × IsIn w steps × StepContributes graph slot at w x

-- The value is the join of what the used steps contribute.
abbrev pub IsJoinOfUsed : Graph → ℕ → SlotAt → List Entry → Value → Type 0
IsJoinOfUsed graph slot at said joined =
    IsLeastAbove at.shape (IsOfSteps graph slot at (used said)) joined

-- Among all entries the rule of this code applies to one. A child, or a used step, isn't listed; a
-- parent of a step that reaches is missing; the text isn't that of the join of what the used steps
-- contribute; or a step that reaches contributes more than that join says.
abbrev pub Applies : Graph → ℕ → SlotAt → List Entry → VerifyCode → Entry → Type 0
Applies graph slot at said codes.NotListed (Reach w child) = IsListed said child → ⊥
Applies graph slot at said codes.NotListed (Uses w) = IsListed said w → ⊥
Applies graph slot at said codes.Missing entry =
    (w parent : ℕ) × SpeaksOf entry w × HasParent graph w parent × (IsIn parent (reached said) → ⊥)
Applies graph slot at said codes.Value (ValueText text) =
    (joined : Value) × IsJoinOfUsed graph slot at said joined × (text ≢ value_text at.shape joined)
Applies graph slot at said codes.TooMuch entry =
    (w : ℕ) × (x joined : Value) × SpeaksOf entry w × StepContributes graph slot at w x
    × IsJoinOfUsed graph slot at said joined × (IsValueBelow x joined → ⊥)
Applies graph slot at said other entry = ⊥

-- The rule applies to the entry at this place.
abbrev pub AppliesAt : Graph → ℕ → SlotAt → List Entry → VerifyCode → ℕ → Type 0
AppliesAt graph slot at said code place =
    (entry : Entry) × (slice_get said place ≡ Some entry) × Applies graph slot at said code entry

-- The rule applies to some entry.
abbrev pub AppliesSomewhere : Graph → ℕ → SlotAt → List Entry → VerifyCode → Type 0
AppliesSomewhere graph slot at said code = (place : ℕ) × AppliesAt graph slot at said code place

-- The line with this number is the first to which it applies.
pub record IsFirstLine (graph : Graph) (slot : ℕ) (at : SlotAt) (said : List Entry)
    (code : VerifyCode) (line : ℕ) : Type 0 where
  pub place : ℕ
  pub number : line ≡ suc place
  pub applies : AppliesAt graph slot at said code place
  pub first : (other : ℕ) → other < place → AppliesAt graph slot at said code other → ⊥

-- The rules over all lines, in the order in which they count.
abbrev pub rules_over_all : List VerifyCode
rules_over_all = codes.NotListed ∷ codes.Missing ∷ codes.Value ∷ codes.TooMuch ∷ []

-- The verdict on a certificate, and what one that is accepted tells.
use Rattle.std.specs.Prelude.{◌≡◌, ◌⊎◌, ◌↔◌, ℕ, suc, ◌<◌, ◌≤◌, List, [], length, Some}
use Rattle.std.specs.List.{flat_map, slice_get}
use Rattle.std.specs.Ordering.{nat_cmp}
use Rattle.context_model.specs.KeyedMerge.{keys_of, EachPair}
use Rattle.context_model.specs.Orders.{IsIn, Rises}
use Rattle.bag_model.specs.Shapes.{Nodes}
use Rattle.bag_model.specs.Slots.{SlotAt, FindsSlot}
use Rattle.bag_model.specs.SlotValues.{HasSlot}
use Rattle.bag_model.specs.Tables.{IsTable}
use Rattle.bag_model.specs.Values.{Value}
use Rattle.text_model.specs.ValueTexts.{value_text}
use Rattle.text_lines.specs.Readings.{AllSay, IsFirstBad, IsFirstOf, NoneOf}
use Rattle.trace_model.specs.Contributions.{IsLeastAbove}
use Rattle.trace_model.specs.Graphs.{Graph}
use Rattle.trace_model.specs.Truth.{Reaches, IsTruthAt}
use Rattle.write_proof.specs.declared.verdicts.VerifyCode.{VerifyCode}
use Rattle.write_proof.specs.declared.verdicts.VerifyCode.TheVariants.{Form}
use Rattle.write_proof.specs.declared.verdicts.Verified.{Verified}
use Rattle.write_proof.specs.declared.verdicts.Verified.TheVariants.{Yes, No}
use Rattle.write_proof.specs.Entries.{Entry, Why, entry_line, entries_of, lines_in}
use Rattle.write_proof.specs.LineRules.{HasParent, IsWriteStep, certificate_lines}
use Rattle.write_proof.specs.WholeRules.{IsOfSteps, AppliesSomewhere, IsFirstLine, rules_over_all}

-- The lines of the certificate say these entries.
abbrev pub SaysAll : Nodes → Graph → List ℕ → List Entry → Type 0
SaysAll table graph certificate said =
    AllSay (certificate_lines table graph) [] (lines_in certificate) said

-- The certificate is about this slot: its first entry has the slot's path.
abbrev pub IsAbout : Nodes → List Entry → ℕ → SlotAt → Type 0
IsAbout table said slot at =
    (n : ℕ) × (path : List ℕ) × (slice_get said 0 ≡ Some (Why n path))
    × FindsSlot table path (Some slot) × HasSlot table slot at

-- No line is bad by itself, and the lines say these entries about this slot, the first two among
-- them.
pub record IsCertificateRead (table : Nodes) (graph : Graph) (certificate : List ℕ)
    (said : List Entry) (slot : ℕ) (at : SlotAt) : Type 0 where
  pub all : SaysAll table graph certificate said
  pub enough : 2 ≤ length said
  pub about : IsAbout table said slot at

-- The lines are all good, but there is no second or not even a first.
abbrev pub IsCutShort : Nodes → Graph → List ℕ → ℕ → VerifyCode → Type 0
IsCutShort table graph certificate line code =
    (said : List Entry) × SaysAll table graph certificate said × (length said < 2)
    × (line ≡ suc (length said)) × (code ≡ Form)

-- No rule over all lines applies.
abbrev pub IsAccepted : Nodes → Graph → List ℕ → Type 0
IsAccepted table graph certificate =
    (said : List Entry) × (slot : ℕ) × (at : SlotAt)
    × IsCertificateRead table graph certificate said slot at
    × NoneOf (AppliesSomewhere graph slot at said) rules_over_all

-- The code is that of the first rule over all lines that applies, and the line is the first to
-- which it does.
abbrev pub IsRejected : Nodes → Graph → List ℕ → ℕ → VerifyCode → Type 0
IsRejected table graph certificate line code =
    (said : List Entry) × (slot : ℕ) × (at : SlotAt)
    × IsCertificateRead table graph certificate said slot at
    × IsFirstOf (AppliesSomewhere graph slot at said) rules_over_all code
    × IsFirstLine graph slot at said code line

-- The verdict on a certificate: no where a line is bad by itself, the first of them, or where a
-- rule over all lines applies; else yes.
abbrev pub IsVerdictOf : Nodes → Graph → List ℕ → Verified → Type 0
IsVerdictOf table graph certificate Yes = IsAccepted table graph certificate
IsVerdictOf table graph certificate (No line code) =
    IsFirstBad (certificate_lines table graph) (lines_in certificate) line code
    ⊎ (IsCutShort table graph certificate line code ⊎ IsRejected table graph certificate line code)

-- A certificate tells the truth. It is the lines of a step n, of a slot's path and of a text, of
-- steps with a child each, and of used steps. The text is that of the slot's truth at n. The steps
-- that it lists are exactly those that reach n, and each of the children has its step as a parent
-- and reaches n. The used steps reach n and write or receive, and the truth is the join of what
-- they contribute.
pub record TellsTruth (table : Nodes) (graph : Graph) (certificate : List ℕ) : Type 0 where
  pub n : ℕ
  pub path : List ℕ
  pub text : List ℕ
  pub pairs : List (ℕ × ℕ)
  pub used : List ℕ
  pub says : certificate ≡ flat_map entry_line (entries_of n path text pairs used)
  pub within : n < length graph.steps
  pub slot : ℕ
  pub at : SlotAt
  pub finds : FindsSlot table path (Some slot)
  pub there : HasSlot table slot at
  pub value : Value
  pub truth : IsTruthAt table graph n slot value
  pub is : text ≡ value_text at.shape value
  pub rises : Rises nat_cmp (keys_of pairs)
  pub steps : (w : ℕ) → ((w ≡ n) ⊎ IsIn w (keys_of pairs)) ↔ Reaches graph w n
  pub ways : EachPair (λ w child. HasParent graph child w × Reaches graph child n) pairs
  pub used_rise : Rises nat_cmp used
  pub uses : (w : ℕ) → IsIn w used → Reaches graph w n × IsWriteStep graph w
  pub joined : IsLeastAbove at.shape (IsOfSteps graph slot at used) value

-- A certificate has one verdict.
abbrev pub VerdictsAreOne : Type 0
VerdictsAreOne =
    (table : Nodes) (graph : Graph) (certificate : List ℕ) (a b : Verified) → IsTable table
    → IsVerdictOf table graph certificate a → IsVerdictOf table graph certificate b → a ≡ b

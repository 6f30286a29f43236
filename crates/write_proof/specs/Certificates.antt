-- The certificate for the value of a slot at a step.
use Rattle.std.specs.Prelude.{◌≡◌, ◌≢◌, ◌↔◌, ℕ, ◌<◌, ◌≤◌, List, ◌++◌, length}
use Rattle.std.specs.List.{flat_map}
use Rattle.std.specs.Ordering.{nat_cmp}
use Rattle.context_model.specs.Atoms.{Atom}
use Rattle.context_model.specs.Ended.{IsEnded, field_path}
use Rattle.context_model.specs.KeyedMerge.{keys_of, EachPair}
use Rattle.context_model.specs.Orders.{IsIn, Rises}
use Rattle.bag_model.specs.Joins.{IsValueBelow}
use Rattle.bag_model.specs.Shapes.{Nodes}
use Rattle.bag_model.specs.Slots.{SlotAt, name_path}
use Rattle.bag_model.specs.SlotValues.{HasSlot, SaysSlot}
use Rattle.bag_model.specs.Values.{Value}
use Rattle.recorded_graph.specs.declared.graphs.TheConstants.{STEPS_MAX}
use Rattle.text_model.specs.ValueTexts.{value_text}
use Rattle.trace_model.specs.Contributions.{IsLeastAbove}
use Rattle.trace_model.specs.Faithful.{IsRunStep}
use Rattle.trace_model.specs.Graphs.{Graph}
use Rattle.trace_model.specs.Runs.{Lists, list_at}
use Rattle.trace_model.specs.Truth.{Reaches}
use Rattle.write_proof.specs.declared.verdicts.Verified.TheVariants.{Yes}
use Rattle.write_proof.specs.Entries.{Why, ValueText, entry_line, entries_of}
use Rattle.write_proof.specs.LineRules.{HasParent, IsWriteStep}
use Rattle.write_proof.specs.WholeRules.{StepContributes}
use Rattle.write_proof.specs.Verdicts.{IsVerdictOf}

-- Of the steps that reach n and have w as a parent, this is the least.
pub record IsLeastChild (graph : Graph) (n w child : ℕ) : Type 0 where
  pub parent : HasParent graph child w
  pub reaches : Reaches graph child n
  pub least : (other : ℕ) → HasParent graph other w → Reaches graph other n → child ≤ other

-- The steps other than n that reach n, in order, each with its least child on the way.
pub record AreReachPairs (graph : Graph) (n : ℕ) (pairs : List (ℕ × ℕ)) : Type 0 where
  pub rises : Rises nat_cmp (keys_of pairs)
  pub all : (w : ℕ) → IsIn w (keys_of pairs) ↔ ((w ≢ n) × Reaches graph w n)
  pub each : EachPair (λ w child. IsLeastChild graph n w child) pairs

-- One of the steps before w contributes it.
abbrev pub IsOfEarlier : Graph → ℕ → SlotAt → List ℕ → ℕ → Value → Type 0
IsOfEarlier graph slot at steps w x =
    (v : ℕ) × IsIn v steps × (v < w) × StepContributes graph slot at v x

-- What w contributes isn't said by the join of what the used steps before it contribute.
pub record IsNews (graph : Graph) (slot : ℕ) (at : SlotAt) (steps : List ℕ) (w : ℕ) : Type 0 where
  pub own : Value
  pub contributes : StepContributes graph slot at w own
  pub joined : Value
  pub join : IsLeastAbove at.shape (IsOfEarlier graph slot at steps w) joined
  pub more : IsValueBelow own joined → ⊥

-- The steps that are used, in order: those on the way to n that bring values and are news after the
-- used ones before them.
pub record AreUsedSteps (graph : Graph) (n slot : ℕ) (at : SlotAt) (steps : List ℕ) : Type 0 where
  pub rises : Rises nat_cmp steps
  pub all : (w : ℕ) → IsIn w steps
      ↔ (Reaches graph w n × IsWriteStep graph w × IsNews graph slot at steps w)

-- The text is the certificate for what the list of step n says of a slot.
pub record IsCertificate (table : Nodes) (graph : Graph) (lists : Lists) (n slot : ℕ)
    (text : List ℕ) : Type 0 where
  pub at : SlotAt
  pub there : HasSlot table slot at
  pub value : Value
  pub says : SaysSlot (list_at lists n) at value
  pub pairs : List (ℕ × ℕ)
  pub reach : AreReachPairs graph n pairs
  pub steps : List ℕ
  pub uses : AreUsedSteps graph n slot at steps
  pub is : text ≡ flat_map entry_line
      (entries_of n (name_path at) (value_text at.shape value) pairs steps)

-- The slot is ended in the list of step n.
abbrev pub IsEndedAt : Nodes → Lists → ℕ → ℕ → Type 0
IsEndedAt table lists n slot =
    (at : SlotAt) → HasSlot table slot at → IsEnded (list_at lists n) (field_path at.numbers)

-- The certificate for a slot that is ended in the list of a step of a run verifies, in a graph with
-- no more steps than any has.
abbrev pub CertificatesVerify : Type 0
CertificatesVerify =
    (table : Nodes) (graph : Graph) (lists : Lists) (n slot : ℕ) (text : List ℕ)
    → IsRunStep table graph lists n
    → length graph.steps ≤ STEPS_MAX → IsEndedAt table lists n slot
    → IsCertificate table graph lists n slot text
    → IsVerdictOf table graph text Yes

-- ---- the parts of a certificate, as they are written one after another

-- The line of a step and of the path of a slot is appended.
abbrev pub AddsWhy : Nodes → ℕ → ℕ → List ℕ → List ℕ → Type 0
AddsWhy table n slot old new =
    (at : SlotAt) → HasSlot table slot at → new ≡ old ++ entry_line (Why n (name_path at))

-- The text is appended of what a list says of a slot.
abbrev pub AddsText : Nodes → List Atom → ℕ → List ℕ → List ℕ → Type 0
AddsText table list slot old new =
    (at : SlotAt) → HasSlot table slot at
    → (v : Value) × SaysSlot list at v × (new ≡ old ++ value_text at.shape v)

-- The line of that text is appended.
abbrev pub AddsValue : Nodes → List Atom → ℕ → List ℕ → List ℕ → Type 0
AddsValue table list slot old new =
    (at : SlotAt) → HasSlot table slot at
    → (v : Value) × SaysSlot list at v
    × (new ≡ old ++ entry_line (ValueText (value_text at.shape v)))

-- The steps that a certificate uses: those that say something new.
use Rattle.std.specs.Prelude.{◌≡◌, ◌⊎◌, ◌↔◌, ℕ, List, [], ◌∷◌, ◌++◌}
use Rattle.std.specs.Ordering.{nat_cmp}
use Rattle.context_model.specs.Orders.{IsIn, Rises}
use Rattle.bag_model.specs.Joins.{IsValueBelow}
use Rattle.bag_model.specs.Shapes.{Nodes}
use Rattle.bag_model.specs.Slots.{SlotAt}
use Rattle.bag_model.specs.SlotValues.{HasSlot}
use Rattle.bag_model.specs.Values.{Value}
use Rattle.trace_model.specs.Contributions.{IsLeastAbove}
use Rattle.trace_model.specs.Graphs.{Graph}
use Rattle.write_proof.specs.Certificates.{IsNews}
use Rattle.write_proof.specs.LineRules.{IsWriteStep}
use Rattle.write_proof.specs.Together.{IsSaidBy, HaveOneJoin, IsJoinOfAll}
use Rattle.write_proof.specs.WholeRules.{StepContributes, IsOfSteps}

-- A step that contributes this value is used exactly where the parts don't say it together, and
-- then it is one of those that they are joined of.
abbrev pub UsesValue : ℕ → Value → List ℕ → List Value → List ℕ → List Value → Type 0
UsesValue w own before parts steps next =
    ((IsSaidBy own parts → ⊥) × (steps ≡ before ++ w ∷ []) × HaveOneJoin (own ∷ parts) next)
    ⊎ (IsSaidBy own parts × (steps ≡ before) × (next ≡ parts))

-- The join of the parts is that of what the steps contribute to the slot with this place of the
-- table.
abbrev pub ArePartsAt : Nodes → Graph → ℕ → List ℕ → List Value → Type 0
ArePartsAt table graph slot steps parts = (at : SlotAt) → HasSlot table slot at
    → (joined : Value) × IsJoinOfAll at.shape parts joined
    × IsLeastAbove at.shape (IsOfSteps graph slot at steps) joined

-- Step w is used next, exactly where it contributes more than the join of what the steps before it
-- contribute.
pub record IsUsedNext (graph : Graph) (slot : ℕ) (at : SlotAt) (w : ℕ)
    (before steps : List ℕ) : Type 0 where
  pub own : Value
  pub contributes : StepContributes graph slot at w own
  pub joined : Value
  pub join : IsLeastAbove at.shape (IsOfSteps graph slot at before) joined
  pub is : ((IsValueBelow own joined → ⊥) × (steps ≡ before ++ w ∷ []))
      ⊎ (IsValueBelow own joined × (steps ≡ before))

-- Step w is used next at the slot with this place of the table, exactly where it contributes more
-- than the join of what the steps before it contribute.
abbrev pub IsNextAt : Nodes → Graph → ℕ → ℕ → List ℕ → List ℕ → Type 0
IsNextAt table graph slot w before steps =
    (at : SlotAt) → HasSlot table slot at → IsUsedNext graph slot at w before steps

-- Of the steps that were seen these say something that the used ones before them don't say.
pub record AreNewsOf (graph : Graph) (slot : ℕ) (at : SlotAt) (seen steps : List ℕ) : Type 0 where
  pub rises : Rises nat_cmp steps
  pub all : (w : ℕ) → IsIn w steps
      ↔ (IsIn w seen × IsWriteStep graph w × IsNews graph slot at steps w)

-- At the slot with this place of the table, these of the steps that were seen say something that
-- the used ones before them don't say.
abbrev pub AreNewsAt : Nodes → Graph → ℕ → List ℕ → List ℕ → Type 0
AreNewsAt table graph slot seen steps =
    (at : SlotAt) → HasSlot table slot at → AreNewsOf graph slot at seen steps

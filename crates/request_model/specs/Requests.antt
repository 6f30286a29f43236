-- What is read of the contexts of a request.
use Rattle.std.specs.Prelude.{◌≡◌, ℕ, List, [], ◌∷◌}
use Rattle.context_model.specs.Atoms.{Atom}
use Rattle.context_model.specs.Ended.{HasMarker, IsEnded, field_path}
use Rattle.context_model.specs.WellFormed.{IsWellFormed}
use Rattle.bag_model.specs.Joins.{IsValueBelow}
use Rattle.bag_model.specs.Readings.{SaysValues}
use Rattle.bag_model.specs.Shapes.{Nodes}
use Rattle.bag_model.specs.Slots.{SlotAt}
use Rattle.bag_model.specs.SlotValues.{HasSlot, HasSlotValue, SaysSlot}
use Rattle.bag_model.specs.Tables.{IsTable}
use Rattle.bag_model.specs.Values.{Value, Values}
use Rattle.trace_model.specs.Truth.{join_all}
use Rattle.request_model.specs.Contributions.{Contribution, ContributionsSay}
use Rattle.request_model.specs.Contexts.{ContextsHold}

-- The context is one of a request, and this is what the contributions on the ways to it say.
pub record IsMadeOf (nodes : Nodes) (list : List Atom) (said : List Values) : Type 0 where
  pub table : IsTable nodes
  pub contributions : List Contribution
  pub holds : ContextsHold nodes (list ∷ []) contributions
  pub says : ContributionsSay nodes contributions said

-- A context of a request is well formed. What it says of a slot that is ended is the join of what
-- all contributions say, of any other slot never more than that, and of all fields that join where
-- it has no marker. Contributions always say something.
pub record RequestsAreFaithful : Type 0 where
  pub well_formed : (nodes : Nodes) (list : List Atom) (said : List Values)
      → IsMadeOf nodes list said → IsWellFormed list
  pub exact : (nodes : Nodes) (list : List Atom) (said : List Values) (slot : ℕ) (at : SlotAt)
      (v : Value) → IsMadeOf nodes list said → HasSlot nodes slot at
      → IsEnded list (field_path at.numbers) → SaysSlot list at v
      → HasSlotValue nodes (join_all nodes said) slot v
  pub below : (nodes : Nodes) (list : List Atom) (said : List Values) (slot : ℕ) (at : SlotAt)
      (v : Value) → IsMadeOf nodes list said → HasSlot nodes slot at → SaysSlot list at v
      → (all : Value) × HasSlotValue nodes (join_all nodes said) slot all × IsValueBelow v all
  pub whole : (nodes : Nodes) (list : List Atom) (said : List Values) (vs : Values)
      → IsMadeOf nodes list said → ¬ (HasMarker list) → SaysValues nodes list vs
      → vs ≡ join_all nodes said
  pub says : (nodes : Nodes) (list : List Atom) (contributions : List Contribution)
      → IsTable nodes → ContextsHold nodes (list ∷ []) contributions
      → (said : List Values) × ContributionsSay nodes contributions said

-- A slot that may be written, and the form and the view of a step.
use Rattle.std.proofs.Common.{◌≡◌, ℕ, ◌<◌, length, List, Option, Some, sym, ap, ◌∙◌, subst}
use Rattle.std.proofs.lemmas.Option.{slice_get_within}
use Rattle.context_model.specs.Atoms.{Atom}
use Rattle.bag_model.specs.Shapes.{Nodes}
use Rattle.bag_model.specs.Slots.{SlotAt, slots_of}
use Rattle.bag_model.specs.SlotValues.{HasSlot}
use Rattle.bag_model.specs.Values.{Value, IsOfShape}
use Rattle.bag_model.specs.Views.{View}
use Rattle.trace_model.specs.Graphs.{Service, Step, Graph, HasStep, HasService, form_of_service, view_of, form_at, view_at, IsSoundAct, IsActOf, MayBeWritten}
use Rattle.trace_model.specs.Runs.{Lists, Gives}

pub slot_within : (nodes : Nodes) (view : View) (slot : ℕ) (v : Value) → MayBeWritten nodes view slot v → slot < length (slots_of nodes)
slot_within nodes view slot v may = slice_get_within (slots_of nodes) slot may.at may.there

one_slot : (a b : SlotAt) → Some a ≡ Some b → a ≡ b
one_slot a b e = cc

pub slot_shape : (nodes : Nodes) (view : View) (slot : ℕ) (v : Value) → MayBeWritten nodes view slot v → (at : SlotAt) → HasSlot nodes slot at → IsOfShape at.shape v
slot_shape nodes view slot v may at there = subst (λ (own : SlotAt). IsOfShape own.shape v) (one_slot may.at at (sym may.there ∙ there)) may.shape

-- The view of the service with this number.
view_is : (graph : Graph) (n : ℕ) (service : Service) → HasService graph n service → view_at graph n ≡ service.view
view_is graph n service has = ap view_of has

pub act_of_view : (nodes : Nodes) (graph : Graph) (step : Step) (service : Service) → HasService graph step.service service → IsActOf nodes (view_at graph step.service) step.act → IsActOf nodes service.view step.act
act_of_view nodes graph step service has may = subst (λ (v : View). IsActOf nodes v step.act) (view_is graph step.service service has) may

pub sound_at : (graph : Graph) (step : Step) (service : Service) → HasService graph step.service service → IsSoundAct (form_at graph step.service) step.act → IsSoundAct service.form step.act
sound_at graph step service has sound = subst (λ (s : Option Service). IsSoundAct (form_of_service s) step.act) has sound

one_step : (a b : Step) → Some a ≡ Some b → a ≡ b
one_step a b e = cc

-- What is given at the service is given by whatever step is at the number.
pub given_by : (nodes : Nodes) (graph : Graph) (n : ℕ) (own : Step) (service : Service) (parents : Lists) (list : List Atom) → HasStep graph n own → HasService graph own.service service
    → Gives nodes service.form service.view own.act parents list → (step : Step) → HasStep graph n step → Gives nodes (form_at graph step.service) (view_at graph step.service) step.act parents list
given_by nodes graph n own service parents list there has gives step also =
    subst (λ (s : Step). Gives nodes (form_at graph s.service) (view_at graph s.service) s.act parents list) (one_step own step (sym there ∙ also))
    (subst (λ (s : Option Service). Gives nodes (form_of_service s) (view_of s) own.act parents list) (sym has) gives)

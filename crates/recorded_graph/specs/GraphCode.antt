-- Codes of graphs, by which a proof tells two of them apart. They say nothing of a graph.
use Rattle.std.specs.Prelude.{◌≡◌, ℕ, List, ◌⊎◌, ◌==◌, if◌then◌else◌}
use Rattle.std.specs.Coded.{Coded, code_by, coded⊎, coded×, coded_ℕ, coded_list}
use Rattle.std.proofs.Common.{refl, inl, inr}
use Rattle.context_model.specs.declared.Form.{Form}
use Rattle.context_model.specs.declared.Form.TheVariants.{One, Two}
use Rattle.bag_model.specs.Values.{Value}
use Rattle.bag_model.specs.ValueCode.{value_code}
use Rattle.bag_model.specs.Views.{View, All, Nothing, Only}
use Rattle.trace_model.specs.Graphs.{Act, Start, Recv, Set, Branch, Forward, Trim, Join, Service, Step, Graph}

-- The parts of acts of each kind.
abbrev pub ActParts : Type 0
ActParts = ℕ ⊎ (List (List ℕ) ⊎ ((ℕ × (ℕ × Value)) ⊎ (ℕ ⊎ (ℕ ⊎ ((ℕ × ℕ) ⊎ List ℕ)))))

-- The parts of an act.
abbrev pub act_parts : Act → ActParts
act_parts Start = inl 0
act_parts (Recv received) = inr (inl received)
act_parts (Set parent slot v) = inr (inr (inl (parent, (slot, v))))
act_parts (Branch parent) = inr (inr (inr (inl parent)))
act_parts (Forward parent) = inr (inr (inr (inr (inl parent))))
act_parts (Trim parent budget) = inr (inr (inr (inr (inr (inl (parent, budget))))))
act_parts (Join parents) = inr (inr (inr (inr (inr (inr parents)))))

-- The act that has these parts.
abbrev pub act_back : ActParts → Act
act_back (inl n) = Start
act_back (inr (inl received)) = Recv received
act_back (inr (inr (inl (parent, (slot, v))))) = Set parent slot v
act_back (inr (inr (inr (inl parent)))) = Branch parent
act_back (inr (inr (inr (inr (inl parent))))) = Forward parent
act_back (inr (inr (inr (inr (inr (inl (parent, budget))))))) = Trim parent budget
act_back (inr (inr (inr (inr (inr (inr parents)))))) = Join parents

-- An act comes back from its parts.
pub act_undone : (act : Act) → act_back (act_parts act) ≡ act
act_undone Start = refl
act_undone (Recv received) = refl
act_undone (Set parent slot v) = refl
act_undone (Branch parent) = refl
act_undone (Forward parent) = refl
act_undone (Trim parent budget) = refl
act_undone (Join parents) = refl

-- The code of lists of numbers.
abbrev pub numbers_code : Coded (List ℕ)
numbers_code = coded_list coded_ℕ

-- The code of acts, by their parts.
abbrev pub act_code : Coded Act
act_code =
    code_by ActParts
    (coded⊎ coded_ℕ (coded⊎ (coded_list numbers_code)
    (coded⊎ (coded× coded_ℕ (coded× coded_ℕ value_code))
    (coded⊎ coded_ℕ (coded⊎ coded_ℕ (coded⊎ (coded× coded_ℕ coded_ℕ) numbers_code))))))
    act_parts act_back act_undone

-- The part of a view: all, nothing, or some slots.
abbrev pub view_parts : View → ℕ ⊎ (ℕ ⊎ List ℕ)
view_parts All = inl 0
view_parts Nothing = inr (inl 0)
view_parts (Only slots) = inr (inr slots)

-- The view that has this part.
abbrev pub view_back : ℕ ⊎ (ℕ ⊎ List ℕ) → View
view_back (inl n) = All
view_back (inr (inl n)) = Nothing
view_back (inr (inr slots)) = Only slots

-- A view comes back from its part.
pub view_undone : (view : View) → view_back (view_parts view) ≡ view
view_undone All = refl
view_undone Nothing = refl
view_undone (Only slots) = refl

-- The code of views, by their parts.
abbrev pub view_code : Coded View
view_code =
    code_by (ℕ ⊎ (ℕ ⊎ List ℕ)) (coded⊎ coded_ℕ (coded⊎ coded_ℕ numbers_code))
    view_parts view_back view_undone

-- The number that stands for a form.
abbrev pub form_number : Form → ℕ
form_number One = 0
form_number Two = 1

-- The form that a number stands for.
abbrev pub form_back : ℕ → Form
form_back n = if n == 0 then One else Two

-- A form comes back from its number.
pub form_undone : (form : Form) → form_back (form_number form) ≡ form
form_undone One = refl
form_undone Two = refl

-- The code of forms, by their numbers.
abbrev pub form_code : Coded Form
form_code = code_by ℕ coded_ℕ form_number form_back form_undone

-- The code of services, by their fields.
abbrev pub service_code : Coded Service
service_code =
    code_by (List ℕ × (Form × View)) (coded× numbers_code (coded× form_code view_code))
    (λ service. (service.name, (service.form, service.view)))
    (λ parts. record { name = parts.0; form = (parts.1).0; view = (parts.1).1 }) (λ _. refl)

-- The code of steps, by their fields.
abbrev pub step_code : Coded Step
step_code =
    code_by (ℕ × Act) (coded× coded_ℕ act_code)
    (λ step. (step.service, step.act)) (λ parts. record { service = parts.0; act = parts.1 })
    (λ _. refl)

-- The code of graphs, by their fields.
abbrev pub graph_code : Coded Graph
graph_code =
    code_by (List Service × (List Step × List ℕ))
    (coded× (coded_list service_code) (coded× (coded_list step_code) numbers_code))
    (λ graph. (graph.services, (graph.steps, graph.shows)))
    (λ parts. record { services = parts.0; steps = (parts.1).0; shows = (parts.1).1 }) (λ _. refl)

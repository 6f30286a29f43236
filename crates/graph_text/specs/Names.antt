-- Services by their names, and where steps are.
use Rattle.std.specs.Prelude.{◌≡◌, ℕ, List, [], ◌∷◌, map, position, Option, None, Some}
use Rattle.std.specs.Borrow.{Bor}
use Rattle.std.specs.BTreeMap.{BTreeMap, get_by}
use Rattle.std.specs.Cmp.Lexicographic.{slice_cmp}
use Rattle.std.specs.List.{slice_get}
use Rattle.std.specs.Option.{option_map}
use Rattle.std.specs.Ordering.{nat_cmp}
use Rattle.std.specs.Str.{bytes_eq}
use Rattle.trace_model.specs.Graphs.{Graph}
use Rattle.graph_lines.specs.Statements.{NamedAct, Statement, Start, Recv, Set, Branch, Forward, Trim, Join, Service, Step, Show}

-- The names of a graph's services, in the order of their numbers.
abbrev pub service_names : Graph → List (List ℕ)
service_names graph = map (λ service. service.name) graph.services

-- The place of a name among some names, the first where it is there twice.
abbrev pub place_of_name : List (List ℕ) → List ℕ → Option ℕ
place_of_name names name = position (bytes_eq name) names

-- The number of the service with this name.
abbrev pub service_named : Graph → List ℕ → Option ℕ
service_named graph name = place_of_name (service_names graph) name

-- The map has the number of each service by its name, and no other name.
abbrev pub NumbersServices : Graph → BTreeMap (Bor (List ℕ)) ℕ → Type 0
NumbersServices graph numbers =
    (name : List ℕ) → get_by (λ key. slice_cmp nat_cmp name key.now) numbers
    ≡ service_named graph name

-- The number of the service at which a step is.
abbrev pub service_at : Graph → ℕ → Option ℕ
service_at graph n = option_map (λ step. step.service) (slice_get graph.steps n)

-- The steps that an act names as its parents.
abbrev pub parents_named : NamedAct → List ℕ
parents_named (Start name) = []
parents_named (Recv name hex) = []
parents_named (Set parent path write) = parent ∷ []
parents_named (Branch parent) = parent ∷ []
parents_named (Forward parent name) = parent ∷ []
parents_named (Trim parent budget) = parent ∷ []
parents_named (Join parents) = parents

-- The steps that a line names, except its own.
abbrev pub steps_named : Statement → List ℕ
steps_named (Service form name view) = []
steps_named (Step number act) = parents_named act
steps_named (Show step) = step ∷ []

-- The name of the service to which an act goes; an act that stays where its parents are names none.
abbrev pub goes_to : NamedAct → Option (List ℕ)
goes_to (Start name) = Some name
goes_to (Recv name hex) = Some name
goes_to (Set parent path write) = None
goes_to (Branch parent) = None
goes_to (Forward parent name) = Some name
goes_to (Trim parent budget) = None
goes_to (Join parents) = None

-- Laws of extracts.
use Rattle.std.specs.Prelude.{◌≡◌, ◌↔◌, ℕ, zero, List, [], ◌∷◌, map}
use Rattle.std.specs.List.{AllByRecursion}
use Rattle.context_model.specs.Atoms.{Atom}
use Rattle.context_model.specs.Ended.{IsEnded}
use Rattle.context_model.specs.Orders.{Path}
use Rattle.bag_model.specs.Shapes.{Nodes}
use Rattle.bag_model.specs.Values.{Values}
use Rattle.bag_model.specs.Joins.{join_values}
use Rattle.bag_model.specs.Readings.{SaysValues}
use Rattle.header_text.specs.Reading.{counted_context}
use Rattle.header_calls.specs.declared.extracting.Absent.{Absent}
use Rattle.header_calls.specs.Extracting.{IsExtractOf}

-- The lists say these values, one by one.
abbrev pub SayValues : Nodes → List (List Atom) → List Values → Type 0
SayValues nodes [] [] = Unit {0}
SayValues nodes (list ∷ lists) (vs ∷ more) = SaysValues nodes list vs × SayValues nodes lists more
SayValues nodes lists more = ⊥

-- The join of one or more values of a table.
abbrev pub join_from : Values → List Values → Values
join_from vs [] = vs
join_from vs (ws ∷ more) = join_values vs (join_from ws more)

-- A field is ended in an extract exactly where it is ended in what each part carries. Where one is,
-- no part was lost. And what is read of an extract is the join of what is read of its parts, of
-- which there is at least one.
pub record ExtractsAreJoins : Type 0 where
  pub ended : (absent : Absent) (values : List (List ℕ)) (list : List Atom) (parts lost : ℕ)
      (s : Path) (extract : IsExtractOf absent values list parts lost)
      → IsEnded list s ↔ AllByRecursion (λ one. IsEnded one s) (map counted_context extract.readings)
  pub none_lost : (absent : Absent) (values : List (List ℕ)) (list : List Atom) (parts lost : ℕ)
      (s : Path) → IsExtractOf absent values list parts lost → IsEnded list s → lost ≡ zero
  pub joins : (absent : Absent) (values : List (List ℕ)) (list : List Atom) (parts lost : ℕ)
      (extract : IsExtractOf absent values list parts lost) (nodes : Nodes) (vs : Values)
      (more : List Values) → SayValues nodes (map counted_context extract.readings) (vs ∷ more)
      → SaysValues nodes list (join_from vs more)

-- Which declarations a declaration names, and the first bag that contains itself.
use Rattle.std.specs.Prelude.{◌≡◌, ℕ, List, [], ◌∷◌, ◌++◌, Some, map, slice_get}
use Rattle.std.specs.List.{flat_map, filter_map}
use Rattle.bdl_check.specs.Declarations.{Placed, decl_place, number_named}
use Rattle.bdl_load.specs.declared.faults.DefCode.TheVariants.{Recursive}
use Rattle.bdl_load.specs.declared.faults.Fault.{Fault}
use Rattle.bdl_load.specs.Faults.{found, fault_in}
use Rattle.bdl_parser.specs.declared.trees.Decl.{Decl}
use Rattle.bdl_parser.specs.declared.trees.Decl.TheVariants.{Bag, Struct}
use Rattle.bdl_parser.specs.Trees.{TypeTree, name, leaf, held, map as map_of}
use Rattle.topological_order.specs.Graphs.{EdgeLists, LeadsTo}
use Rattle.topological_order.specs.Orders.{IsFirstCyclic}

-- The names among the nodes of a type.
abbrev pub names_in : TypeTree → List (List ℕ)
names_in (leaf (name text) spot) = text ∷ []
names_in (leaf _ spot) = []
names_in (held holding element spot) = names_in element
names_in (map_of key value spot) = names_in key ++ names_in value

-- The names that the types of a bag's fields have; those of a struct's have none.
abbrev pub uses : Decl → List (List ℕ)
uses (Bag own spot fields) = flat_map (λ field. names_in field.kind) fields
uses (Struct own spot fields) = []

-- For each declaration, the numbers of the declarations that it names.
abbrev pub links : List Placed → EdgeLists
links ds = map (λ d. filter_map (number_named ds) (uses d.decl)) ds

-- No bag contains itself.
abbrev pub IsAcyclic : List Placed → Type 0
IsAcyclic ds = (number : ℕ) → LeadsTo (links ds) number number → ⊥

-- The fault of the first bag that contains itself, at its name.
pub record IsRecursive (ds : List Placed) (fault : Fault) : Type 0 where
  pub number : ℕ
  pub bag : Placed
  pub first : IsFirstCyclic (links ds) number
  pub is : slice_get ds number ≡ Some bag
  pub fault_is : fault ≡ fault_in bag.file (found (decl_place bag.decl) Recursive)

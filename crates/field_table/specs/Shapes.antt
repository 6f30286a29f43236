-- How a look-up goes along a name path.
use Rattle.std.specs.Prelude.{◌≡◌, ℕ, List, ◌∷◌, ◌++◌, Option, Some, None}
use Rattle.bag_model.specs.Shapes.{Shape, Nodes}
use Rattle.bag_model.specs.Slots.{dotted, IsReached}

-- A path is a name alone, or a name, a dot and the rest.
abbrev pub IsSplit : List ℕ → List ℕ → Option (List ℕ) → Type 0
IsSplit path name None = path ≡ name
IsSplit path name (Some rest) = path ≡ name ++ 46 ∷ rest

-- All fields with this name path have the shape of the one that was found.
abbrev pub IsOnly : Nodes → List ℕ → ℕ × Shape → Type 0
IsOnly nodes path found =
    (name : List ℕ) (names : List (List ℕ)) (before : ℕ) (shape : Shape)
    → IsReached nodes name names before shape → dotted (name ∷ names) ≡ path → shape ≡ found.1

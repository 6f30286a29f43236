-- The names of fields, in whatever order.
use Rattle.std.specs.Prelude.{◌≡◌, ℕ, List}
use Rattle.std.specs.List.{list_any}
use Rattle.std.specs.Str.{bytes_eq}

-- The first list has just the names of the second.
abbrev pub HaveNames : List (List ℕ) → List (List ℕ) → Type 0
HaveNames those names =
    (name : List ℕ) → list_any (bytes_eq name) those ≡ list_any (bytes_eq name) names

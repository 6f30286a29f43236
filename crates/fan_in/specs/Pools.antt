-- Contexts that are named by their places in a pool.
use Rattle.std.specs.Prelude.{ℕ, List, [], map, slice_index_or}
use Rattle.context_model.specs.Atoms.{Atom}

-- The lists of a pool that are at the places, in the order of the places.
abbrev pub lists_at_places : List (List Atom) → List ℕ → List (List Atom)
lists_at_places pool places = map (λ place. slice_index_or pool place []) places

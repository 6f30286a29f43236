-- What holds of the greedy merge of any lists, well formed or not.
use Rattle.std.specs.Prelude.{◌≡◌, List}
use Rattle.context_model.specs.Atoms.{Atom}
use Rattle.context_model.specs.Orders.{atom_cmp}
use Rattle.context_model.specs.GreedyMerge.{greedy_merge}

-- The merge doesn't know which list came first.
abbrev pub MergesInAnyOrder : Type 0
MergesInAnyOrder = (a b : List Atom) → greedy_merge atom_cmp a b ≡ greedy_merge atom_cmp b a

-- Three lists can be merged in either grouping.
abbrev pub MergesInAnyGrouping : Type 0
MergesInAnyGrouping =
    (a b c : List Atom) → greedy_merge atom_cmp (greedy_merge atom_cmp a b) c
    ≡ greedy_merge atom_cmp a (greedy_merge atom_cmp b c)

-- A list merged with itself is the list.
abbrev pub MergesOnce : Type 0
MergesOnce = (a : List Atom) → greedy_merge atom_cmp a a ≡ a

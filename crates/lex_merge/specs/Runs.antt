-- Runs: atoms that a merge takes from one of its lists, one after the other.
use Rattle.std.specs.Prelude.{◌≡◌, ℕ, ◌+◌, ◌<◌, ◌≤◌, List, ◌++◌, length, drop, slice_range}
use Rattle.std.specs.declared.cmp.Ordering.TheVariants.{Greater}
use Rattle.context_model.specs.Atoms.{Atom}
use Rattle.context_model.specs.Orders.{atom_cmp}
use Rattle.context_model.specs.Paths.{atom_at}
use Rattle.context_model.specs.GreedyMerge.{greedy_merge}
use Rattle.atom_list.specs.Builder.{Built, byte_room_for}

-- The merge of what two lists have from these places on.
abbrev pub merge_from : List Atom → ℕ → List Atom → ℕ → List Atom
merge_from a i b j = greedy_merge atom_cmp (drop i a) (drop j b)

-- From these places on the merge of two lists begins with the atoms of the first up to its next
-- place. They hold the atoms of the second up to its own, and the merge goes on with what is left
-- of both.
pub record IsMergeRun (a : List Atom) (i : ℕ) (b : List Atom) (j : ℕ)
    (next_a next_b : ℕ) : Type 0 where
  pub from_a : i ≤ next_a
  pub upto_a : next_a ≤ length a
  pub from_b : j ≤ next_b
  pub upto_b : next_b ≤ length b
  pub no_fewer : next_b + i ≤ next_a + j
  pub begins : merge_from a i b j ≡ slice_range a i next_a ++ merge_from a next_a b next_b

-- Where both lists go on at these places, the atom of the first comes later.
abbrev pub ComesLater : List Atom → ℕ → List Atom → ℕ → Type 0
ComesLater a i b j = i < length a → j < length b → atom_cmp (atom_at a i) (atom_at b j) ≡ Greater

-- There is room for what two lists have from these places on.
pub record HasMergeRoom (a : List Atom) (i : ℕ) (b : List Atom) (j : ℕ)
    (built : Built) : Type 0 where
  pub upto_a : i ≤ length a
  pub upto_b : j ≤ length b
  pub bytes : byte_room_for (drop i a) + byte_room_for (drop j b) ≤ built.byte_room
  pub atoms : length a + length b ≤ built.atom_room + (i + j)

-- What was built and then the merge of what is left is what it was before, and there is still room
-- for what is left.
pub record MergeGoesOn (a : List Atom) (i : ℕ) (b : List Atom) (j : ℕ) (old : Built)
    (next_a next_b : ℕ) (new : Built) : Type 0 where
  pub room : HasMergeRoom a next_a b next_b new
  pub same : new.atoms ++ merge_from a next_a b next_b ≡ old.atoms ++ merge_from a i b j
  pub from_a : i ≤ next_a
  pub from_b : j ≤ next_b

-- What is still to come of a merge that is cut to a budget.
use Rattle.std.specs.Prelude.{◌≡◌, ◌⊎◌, ◌+◌, ◌<◌, ◌≤◌, List, [], ◌++◌}
use Rattle.context_model.specs.Atoms.{Atom, AreAtoms}
use Rattle.context_model.specs.Framing.{least_budget, size_of, written_in}
use Rattle.context_model.specs.Trimmed.{trimmed}
use Rattle.byte_forward.specs.declared.cutting.Cut.{Cut}
use Rattle.byte_forward.specs.Merging.{IsToCome}

-- The first atoms are past, and the list is still to come. Where more of the merge is to come,
-- there is room for a marker.
pub record IsUnderWay (past : List Atom) (cut : Cut) (list : List Atom) : Type 0 where
  pub rest : List Atom
  pub come : IsToCome cut.merging rest
  pub atoms : AreAtoms (past ++ rest)
  pub some : least_budget cut.form ≤ cut.budget
  pub written : cut.written ≡ written_in cut.form past
  pub size : size_of cut.form past + cut.left ≡ cut.budget
  pub room : (rest ≡ []) ⊎ (0 < cut.left)
  pub whole : trimmed cut.form (past ++ rest) cut.budget ≡ past ++ list

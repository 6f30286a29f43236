-- Laws of merges.
use Rattle.std.specs.Prelude.{ℕ, ◌+◌, ◌≤◌, List, length, sum_by}
use Rattle.context_model.specs.declared.TheConstants.{HEAD_LEN}
use Rattle.context_model.specs.declared.Form.{Form}
use Rattle.context_model.specs.Atoms.{Atom}
use Rattle.context_model.specs.Framing.{least_budget, size_of}
use Rattle.context_model.specs.Trimmed.{trimmed}
use Rattle.byte_forward.specs.Contexts.{IsMergeOf}

-- A merge of contexts, cut to whatever budget, has at most as many bytes as their bytes together
-- and a head.
abbrev pub MergesFit : Type 0
MergesFit = (form : Form) (inputs : List (List ℕ)) (merged : List Atom) (budget : ℕ)
    → least_budget form ≤ budget → IsMergeOf inputs merged
    → size_of form (trimmed form merged budget) ≤ sum_by (λ bytes. length bytes) inputs + HEAD_LEN

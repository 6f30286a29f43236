-- What the calls make.
use Rattle.std.specs.Prelude.{◌≡◌, ℕ, List}
use Rattle.context_model.specs.declared.Form.{Form}
use Rattle.context_model.specs.Atoms.{Atom}
use Rattle.context_model.specs.ContextFault.{IsContextOf}
use Rattle.context_model.specs.Trimmed.{trimmed}
use Rattle.byte_forward.specs.Contexts.{IsMergeOf}

-- The bytes are those of a context, and this is what is left of it within the budget.
abbrev pub IsTrimOf : Form → ℕ → List ℕ → List Atom → Type 0
IsTrimOf form budget bytes cut =
    (list : List Atom) × IsContextOf list bytes × (cut ≡ trimmed form list budget)

-- The inputs are the bytes of contexts, and this is what is left of their merge within the budget.
abbrev pub IsCutMergeOf : Form → ℕ → List (List ℕ) → List Atom → Type 0
IsCutMergeOf form budget inputs cut =
    (merged : List Atom) × IsMergeOf inputs merged × (cut ≡ trimmed form merged budget)

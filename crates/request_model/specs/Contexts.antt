-- What the contexts of a request hold.
use Rattle.std.specs.Prelude.{ℕ, List, [], ◌∷◌, ◌++◌}
use Rattle.std.specs.List.{AllByRecursion}
use Rattle.context_model.specs.declared.Form.{Form}
use Rattle.context_model.specs.Atoms.{Atom}
use Rattle.context_model.specs.Merged.{IsMerged}
use Rattle.context_model.specs.Trimmed.{trimmed}
use Rattle.bag_model.specs.Shapes.{Nodes}
use Rattle.bag_model.specs.Tables.{IsTable}
use Rattle.bag_model.specs.Views.{View}
use Rattle.trace_model.specs.Graphs.{IsTypedContext}
use Rattle.trace_model.specs.Runs.{Lists}
use Rattle.keep_calls.specs.declared.others.Others.TheVariants.{Cut}
use Rattle.keep_calls.specs.Laws.{KeepsList}
use Rattle.step_calls.specs.Excerpts.{IsExcerpt}
use Rattle.step_calls.specs.Laws.{lost}
use Rattle.step_calls.specs.Lines.{Write}
use Rattle.step_calls.specs.Updates.{IsUpdateOf}
use Rattle.request_model.specs.Contributions.{Contribution, Received, IsContribution, AreWritesTo}

-- On the ways to some contexts, taken together, these were the contributions. A context that was
-- promised and didn't come, or came so damaged that it was noticed, is the one of a marker alone:
-- it stands for whatever was contributed to it. A context may be used again, at any time and place.
pub data ContextsHold (nodes : Nodes) : Lists → List Contribution → Type 0 where
  none : ContextsHold nodes [] []
  both : (list : List Atom) (lists : Lists) (contributions others : List Contribution)
      → ContextsHold nodes (list ∷ []) contributions → ContextsHold nodes lists others
      → ContextsHold nodes (list ∷ lists) (contributions ++ others)
  missing : (contributions : List Contribution)
      → AllByRecursion (IsContribution nodes) contributions → ContextsHold nodes (lost ∷ []) contributions
  received : (list : List Atom)
      → IsTypedContext nodes list → ContextsHold nodes (list ∷ []) (Received list ∷ [])
  joined : (form : Form) (budget : ℕ) (lists : Lists) (contributions : List Contribution) (list : List Atom)
      → ContextsHold nodes lists contributions → IsMerged lists list
      → ContextsHold nodes (trimmed form list budget ∷ []) contributions
  updated : (form : Form) (budget : ℕ) (view : View) (excerpt : Nodes) (lists : Lists)
      (contributions written : List Contribution) (writes : List Write) (list : List Atom)
      → ContextsHold nodes lists contributions → IsExcerpt nodes view excerpt → IsTable excerpt
      → AreWritesTo nodes excerpt writes written → IsUpdateOf excerpt lists writes list
      → ContextsHold nodes (trimmed form list budget ∷ []) (contributions ++ written)
  kept : (form : Form) (budget : ℕ) (own : Nodes) (contributions : List Contribution) (list left : List Atom)
      → ContextsHold nodes (list ∷ []) contributions → KeepsList own Cut list left
      → ContextsHold nodes (trimmed form left budget ∷ []) contributions

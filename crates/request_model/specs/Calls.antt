-- What the calls of the library do with contexts of a request.
use Rattle.std.specs.Prelude.{ℕ, List, [], ◌∷◌, ◌++◌}
use Rattle.context_model.specs.declared.Form.{Form}
use Rattle.context_model.specs.Atoms.{Atom}
use Rattle.context_model.specs.Trimmed.{trimmed}
use Rattle.bag_model.specs.Shapes.{Nodes}
use Rattle.bag_model.specs.Tables.{IsTable}
use Rattle.bag_model.specs.Views.{View}
use Rattle.trace_model.specs.Runs.{Lists}
use Rattle.byte_calls.specs.Contexts.{AreContextsOf, IsMergeOf}
use Rattle.keep_calls.specs.declared.others.Others.TheVariants.{Cut}
use Rattle.keep_calls.specs.Calls.{IsCutKeptOf}
use Rattle.step_calls.specs.Excerpts.{IsExcerpt}
use Rattle.step_calls.specs.Updates.{IsUpdateFor}
use Rattle.request_model.specs.Contributions.{Contribution, AreWritesTo}
use Rattle.request_model.specs.Contexts.{ContextsHold}

-- The inputs are the bytes of contexts of a request, with these contributions on the ways to them.
pub record InputsHold (nodes : Nodes) (inputs : List (List ℕ)) (contributions : List Contribution) : Type 0 where
  pub lists : Lists
  pub contexts : AreContextsOf lists inputs
  pub holds : ContextsHold nodes lists contributions

-- The list is a context of a request, with these contributions on the ways to it.
abbrev pub ContextHolds : Nodes → List Atom → List Contribution → Type 0
ContextHolds nodes list contributions = ContextsHold nodes (list ∷ []) contributions

-- What a service makes of contexts of a request by a join, by an update under a part of the table,
-- or by a keep that cuts, is a context of the request. Its contributions are those of the inputs,
-- and after an update the writes, each of the slot of the table that is like its own.
pub record CallsHold : Type 0 where
  pub join : (nodes : Nodes) (form : Form) (budget : ℕ) (inputs : List (List ℕ))
      (contributions : List Contribution) (merged : List Atom)
      → InputsHold nodes inputs contributions → IsMergeOf inputs merged
      → ContextHolds nodes (trimmed form merged budget) contributions
  pub update : (nodes : Nodes) (view : View) (form : Form) (budget : ℕ) (table : List ℕ)
      (inputs : List (List ℕ)) (writes : List ℕ) (contributions : List Contribution) (list : List Atom)
      → InputsHold nodes inputs contributions → (made : IsUpdateFor form table inputs writes list)
      → IsExcerpt nodes view made.nodes
      → (written : List Contribution) × AreWritesTo nodes made.nodes made.said written
      × ContextHolds nodes (trimmed form list budget) (contributions ++ written)
  pub keep : (nodes own : Nodes) (form : Form) (budget : ℕ) (inputs : List (List ℕ))
      (contributions : List Contribution) (list : List Atom)
      → InputsHold nodes inputs contributions → IsTable own → IsCutKeptOf form budget own Cut inputs list
      → ContextHolds nodes list contributions

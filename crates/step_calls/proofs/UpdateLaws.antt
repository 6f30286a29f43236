-- An update that is made of what was read, and that it is the one by the table's text.
use Rattle.std.proofs.Common.{◌≡◌, ℕ, List, Result, Ok, Err, sym, ◌∙◌, subst}
use Rattle.std.specs.Result.{IsErrAnd}
use Rattle.context_model.specs.declared.Form.{Form}
use Rattle.context_model.specs.Atoms.{Atom}
use Rattle.context_model.specs.Framing.{bytes_of}
use Rattle.context_model.specs.Trimmed.{trimmed}
use Rattle.bag_model.specs.Shapes.{Nodes}
use Rattle.bag_model.specs.Views.{All}
use Rattle.trace_model.specs.Runs.{Lists, IsNormalMerge}
use Rattle.byte_calls.specs.declared.refusals.Refusal.{Refusal}
use Rattle.byte_calls.specs.declared.refusals.Refusal.TheVariants as calls
use Rattle.byte_calls.specs.Room.{WritesList, IsTooShortFor}
use Rattle.field_calls.specs.Fields.{IsPrintedTable}
use Rattle.step_calls.specs.declared.refusals.StepRefusal.{StepRefusal}
use Rattle.step_calls.specs.declared.refusals.StepRefusal.TheVariants.{Table, Write as BadWrite, Fault, IllTyped, Memory, Room}
use Rattle.step_calls.specs.Refusals.{TellsBytes}
use Rattle.step_calls.specs.Updates.{AreRead, IsUpdateFor, IsUpdateUnder, Updates, UpdatesUnder}

-- What was read makes an update.
pub update_made : (form : Form) (nodes : Nodes) (inputs : List (List ℕ)) (writes : List ℕ) (all : Lists) (list : List Atom)
    → AreRead form nodes inputs writes all → IsNormalMerge nodes All all list → IsUpdateUnder form nodes inputs writes list
update_made form nodes inputs writes all list read normal = record {
  said = read.said;
  says = read.says;
  lists = read.lists;
  typed = read.typed;
  update = record {
    written = read.written;
    encodings = read.encodings;
    normal = subst (λ (ls : Lists). IsNormalMerge nodes All ls list) read.is normal;
  };
}

-- Its bytes don't fit the buffer, or there is no memory for them.
pub unwritten : (form : Form) (budget : ℕ) (nodes : Nodes) (inputs : List (List ℕ)) (writes old new : List ℕ) (list cut : List Atom) (refusal : Refusal) (result : Result ℕ StepRefusal)
    → IsUpdateUnder form nodes inputs writes list → cut ≡ trimmed form list budget → IsErrAnd result (TellsBytes refusal)
    → WritesList form (λ written. written ≡ cut) (λ _ _ _. ⊥) old new (Err refusal) → UpdatesUnder form budget nodes inputs writes old new result
unwritten form budget nodes inputs writes old new list cut refusal (Ok size) made is told left = absurd told
unwritten form budget nodes inputs writes old new list cut (calls.Fault context offset code) (Err other) made is told left = absurd left.0
unwritten form budget nodes inputs writes old new list cut calls.Memory (Err other) made is told left =
    subst (λ (r : StepRefusal). UpdatesUnder form budget nodes inputs writes old new (Err r)) (sym told) left
unwritten form budget nodes inputs writes old new list cut (calls.Room size) (Err other) made is told left =
    subst (λ (r : StepRefusal). UpdatesUnder form budget nodes inputs writes old new (Err r)) (sym told)
    (list, made, subst (λ (l : List Atom). IsTooShortFor (bytes_of form l) size old new) (left.1 ∙ is) left.2)

-- An update under a table is one by the table's text.
update_for : (form : Form) (nodes : Nodes) (table : List ℕ) (inputs : List (List ℕ)) (writes : List ℕ) (list : List Atom) → IsPrintedTable nodes table
    → IsUpdateUnder form nodes inputs writes list → IsUpdateFor form table inputs writes list
update_for form nodes table inputs writes list printed made =
    record { nodes = nodes; printed = printed; said = made.said; says = made.says; lists = made.lists; typed = made.typed; update = made.update }

-- What the call under the table does is what the call by its text does.
pub updates_by_text : (form : Form) (budget : ℕ) (nodes : Nodes) (table : List ℕ) (inputs : List (List ℕ)) (writes old new : List ℕ) (result : Result ℕ StepRefusal)
    → IsPrintedTable nodes table → UpdatesUnder form budget nodes inputs writes old new result → Updates form budget table inputs writes old new result
updates_by_text form budget nodes table inputs writes old new (Ok size) printed (list, made, holds) = (list, update_for form nodes table inputs writes list printed made, holds)
updates_by_text form budget nodes table inputs writes old new (Err (Room size)) printed (list, made, short) = (list, update_for form nodes table inputs writes list printed made, short)
updates_by_text form budget nodes table inputs writes old new (Err (Table line code)) printed none = absurd none
updates_by_text form budget nodes table inputs writes old new (Err Memory) printed same = same
updates_by_text form budget nodes table inputs writes old new (Err (BadWrite line code)) printed (unread, same) = (nodes, printed, unread, same)
updates_by_text form budget nodes table inputs writes old new (Err (Fault context offset code)) printed (unread, same) = (nodes, printed, unread, same)
updates_by_text form budget nodes table inputs writes old new (Err (IllTyped context offset)) printed (unread, same) = (nodes, printed, unread, same)

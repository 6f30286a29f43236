-- The step that a service takes which knows types: it receives or joins contexts, sets fields,
-- brings all to normal form, and cuts it.
use Rattle.std.specs.Prelude.{◌≡◌, ℕ, List, [], ◌++◌, Result, Ok, Err}
use Rattle.context_model.specs.declared.Form.{Form}
use Rattle.context_model.specs.Atoms.{Atom}
use Rattle.context_model.specs.Framing.{bytes_of}
use Rattle.context_model.specs.Trimmed.{trimmed}
use Rattle.bag_model.specs.Shapes.{Nodes}
use Rattle.bag_model.specs.Views.{All}
use Rattle.text_lines.specs.Readings.{AllSay, IsFirstBad}
use Rattle.table_text.specs.Reading.{IsTableFault}
use Rattle.trace_model.specs.Runs.{Lists, IsNormalMerge}
use Rattle.byte_calls.specs.Room.{HoldsBytes, IsTooShortFor}
use Rattle.field_calls.specs.Fields.{IsPrintedTable}
use Rattle.step_calls.specs.declared.refusals.StepRefusal.{StepRefusal}
use Rattle.step_calls.specs.declared.refusals.StepRefusal.TheVariants.{Table, Write as BadWrite, Fault, IllTyped, Memory, Room}
use Rattle.step_calls.specs.Inputs.{AreTypedContextsOf, IsMisreadOf}
use Rattle.step_calls.specs.Lines.{Write, write_lines, lines_from_one, AreEncodings}

-- The list is the normal form of the merge of some lists and the encodings of writes, for a service
-- that knows all slots of the table.
pub record IsUpdateOf (nodes : Nodes) (lists : Lists) (writes : List Write)
    (list : List Atom) : Type 0 where
  pub written : Lists
  pub encodings : AreEncodings nodes writes written
  pub normal : IsNormalMerge nodes All (lists ++ written) list

-- The lines of a text say writes to slots of the table.
abbrev pub SayWrites : Form → Nodes → List ℕ → List Write → Type 0
SayWrites form nodes text said = AllSay (write_lines form nodes) [] (lines_from_one text) said

-- The lists are all that was read under the table: the contexts of the inputs, typed, and after
-- them the encodings of the writes that the lines say.
pub record AreRead (form : Form) (nodes : Nodes) (inputs : List (List ℕ)) (writes : List ℕ)
    (all : Lists) : Type 0 where
  pub said : List Write
  pub says : SayWrites form nodes writes said
  pub lists : Lists
  pub typed : AreTypedContextsOf nodes lists inputs
  pub written : Lists
  pub encodings : AreEncodings nodes said written
  pub is : all ≡ lists ++ written

-- The table's text is that of a table, the lines say writes to its slots, the inputs are the bytes
-- of contexts that are typed under it, and the list is the update of these by the writes.
pub record IsUpdateFor (form : Form) (table : List ℕ) (inputs : List (List ℕ)) (writes : List ℕ)
    (list : List Atom) : Type 0 where
  pub nodes : Nodes
  pub printed : IsPrintedTable nodes table
  pub said : List Write
  pub says : SayWrites form nodes writes said
  pub lists : Lists
  pub typed : AreTypedContextsOf nodes lists inputs
  pub update : IsUpdateOf nodes lists said list

-- Why nothing can be made of the lines and the inputs under this table: a line is the first that
-- says no write; or all lines say writes, and an input is the first that isn't the bytes of a typed
-- context. Where memory ran out, nothing is claimed.
abbrev pub IsStepUnread : Form → Nodes → List (List ℕ) → List ℕ → StepRefusal → Type 0
IsStepUnread form nodes inputs writes (BadWrite line code) =
    IsFirstBad (write_lines form nodes) (lines_from_one writes) line code
IsStepUnread form nodes inputs writes (Fault context offset code) =
    ((said : List Write) × SayWrites form nodes writes said)
    × IsMisreadOf nodes inputs (Fault context offset code)
IsStepUnread form nodes inputs writes (IllTyped context offset) =
    ((said : List Write) × SayWrites form nodes writes said)
    × IsMisreadOf nodes inputs (IllTyped context offset)
IsStepUnread form nodes inputs writes Memory = Unit {0}
IsStepUnread form nodes inputs writes other = ⊥

-- The bytes of the update, cut to the budget, are at the beginning of the buffer, and the answer is
-- their size; or the buffer is too short for them. Or the table's text has this first fault, or it
-- is that of a table and nothing can be made of the lines and the inputs, and the buffer is as
-- before. It is as before where memory runs out too.
abbrev pub Updates : Form → ℕ → List ℕ → List (List ℕ) → List ℕ → List ℕ → List ℕ
    → Result ℕ StepRefusal → Type 0
Updates form budget table inputs writes old new (Ok size) =
    (list : List Atom) × IsUpdateFor form table inputs writes list
    × HoldsBytes (bytes_of form (trimmed form list budget)) size old new
Updates form budget table inputs writes old new (Err (Room size)) =
    (list : List Atom) × IsUpdateFor form table inputs writes list
    × IsTooShortFor (bytes_of form (trimmed form list budget)) size old new
Updates form budget table inputs writes old new (Err (Table line code)) =
    IsTableFault table line code × (new ≡ old)
Updates form budget table inputs writes old new (Err Memory) = new ≡ old
Updates form budget table inputs writes old new (Err refusal) =
    (nodes : Nodes) × IsPrintedTable nodes table × IsStepUnread form nodes inputs writes refusal
    × (new ≡ old)

-- The lines say writes to the slots of a table, the inputs are the bytes of contexts that are typed
-- under it, and the list is the update of these by the writes.
pub record IsUpdateUnder (form : Form) (nodes : Nodes) (inputs : List (List ℕ)) (writes : List ℕ)
    (list : List Atom) : Type 0 where
  pub said : List Write
  pub says : SayWrites form nodes writes said
  pub lists : Lists
  pub typed : AreTypedContextsOf nodes lists inputs
  pub update : IsUpdateOf nodes lists said list

-- The bytes of the update, cut to the budget, are at the beginning of the buffer, and the answer is
-- their size; or the buffer is too short for them. Or nothing can be made of the lines and the
-- inputs under this table, or memory runs out, and the buffer is as before.
abbrev pub UpdatesUnder : Form → ℕ → Nodes → List (List ℕ) → List ℕ → List ℕ → List ℕ
    → Result ℕ StepRefusal → Type 0
UpdatesUnder form budget nodes inputs writes old new (Ok size) =
    (list : List Atom) × IsUpdateUnder form nodes inputs writes list
    × HoldsBytes (bytes_of form (trimmed form list budget)) size old new
UpdatesUnder form budget nodes inputs writes old new (Err (Room size)) =
    (list : List Atom) × IsUpdateUnder form nodes inputs writes list
    × IsTooShortFor (bytes_of form (trimmed form list budget)) size old new
UpdatesUnder form budget nodes inputs writes old new (Err (Table line code)) = ⊥
UpdatesUnder form budget nodes inputs writes old new (Err Memory) = new ≡ old
UpdatesUnder form budget nodes inputs writes old new (Err refusal) =
    IsStepUnread form nodes inputs writes refusal × (new ≡ old)

-- What the call from bytes to bytes answers and writes.
use Rattle.std.specs.Prelude.{◌≡◌, ℕ, List, Result, Ok, Err}
use Rattle.context_model.specs.declared.Form.{Form}
use Rattle.context_model.specs.Atoms.{Atom}
use Rattle.context_model.specs.Framing.{bytes_of}
use Rattle.context_model.specs.Trimmed.{trimmed}
use Rattle.bag_model.specs.Shapes.{Nodes}
use Rattle.table_text.specs.Reading.{IsTableFault}
use Rattle.wire_bytes.specs.Reading.{byte_code_of}
use Rattle.byte_calls.specs.Contexts.{IsMergeOf, IsFaultAt}
use Rattle.byte_calls.specs.Room.{HoldsBytes, IsTooShortFor}
use Rattle.field_calls.specs.Fields.{IsPrintedTable}
use Rattle.keep_calls.specs.declared.others.Others.{Others}
use Rattle.keep_calls.specs.declared.refusals.KeepRefusal.{KeepRefusal}
use Rattle.keep_calls.specs.declared.refusals.KeepRefusal.TheVariants.{Table, Fault, Memory, Room}
use Rattle.keep_calls.specs.Kept.{IsKeptOf}

-- The inputs are the bytes of contexts, and this is what is kept of their merge and left of that
-- within the budget.
abbrev pub IsCutKeptOf : Form → ℕ → Nodes → Others → List (List ℕ) → List Atom → Type 0
IsCutKeptOf form budget nodes others inputs cut =
    (merged : List Atom) × IsMergeOf inputs merged × (kept : List Atom)
    × IsKeptOf nodes others merged kept × (cut ≡ trimmed form kept budget)

-- What is kept of the merge of the inputs, cut to the budget, is written into the buffer, and its
-- size is the answer. Otherwise nothing is written: the buffer is too short for it; or the table's
-- text has this first fault; or it is that of a table, and the inputs have this first fault; or
-- there is no memory.
abbrev pub KeepsInto : Form → Others → ℕ → List ℕ → List (List ℕ) → List ℕ → List ℕ
    → Result ℕ KeepRefusal → Type 0
KeepsInto form others budget table inputs old new (Ok size) =
    (nodes : Nodes) × IsPrintedTable nodes table × (list : List Atom)
    × IsCutKeptOf form budget nodes others inputs list
    × HoldsBytes (bytes_of form list) size old new
KeepsInto form others budget table inputs old new (Err (Room size)) =
    (nodes : Nodes) × IsPrintedTable nodes table × (list : List Atom)
    × IsCutKeptOf form budget nodes others inputs list
    × IsTooShortFor (bytes_of form list) size old new
KeepsInto form others budget table inputs old new (Err (Table line code)) =
    IsTableFault table line code × (new ≡ old)
KeepsInto form others budget table inputs old new (Err (Fault context offset code)) =
    (nodes : Nodes) × IsPrintedTable nodes table
    × IsFaultAt inputs context offset (byte_code_of code) × (new ≡ old)
KeepsInto form others budget table inputs old new (Err Memory) = new ≡ old

-- What is kept of the merge of the inputs under this table, cut to the budget, is written into the
-- buffer, and its size is the answer. Otherwise nothing is written: the buffer is too short for it;
-- or the inputs have this first fault; or there is no memory.
abbrev pub KeepsUnder : Form → Others → ℕ → Nodes → List (List ℕ) → List ℕ → List ℕ
    → Result ℕ KeepRefusal → Type 0
KeepsUnder form others budget nodes inputs old new (Ok size) =
    (list : List Atom) × IsCutKeptOf form budget nodes others inputs list
    × HoldsBytes (bytes_of form list) size old new
KeepsUnder form others budget nodes inputs old new (Err (Room size)) =
    (list : List Atom) × IsCutKeptOf form budget nodes others inputs list
    × IsTooShortFor (bytes_of form list) size old new
KeepsUnder form others budget nodes inputs old new (Err (Table line code)) = ⊥
KeepsUnder form others budget nodes inputs old new (Err (Fault context offset code)) =
    IsFaultAt inputs context offset (byte_code_of code) × (new ≡ old)
KeepsUnder form others budget nodes inputs old new (Err Memory) = new ≡ old

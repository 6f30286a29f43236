-- Outcomes as numbers.
use Rattle.std.specs.Prelude.{◌≡◌, ℕ, List, length, Result, Ok, Err}
use Rattle.context_model.specs.Atoms.{Atom}
use Rattle.context_model.specs.ContextFault.{IsContextOf, IsFirstContextFault}
use Rattle.wire_bytes.specs.declared.contexts.ByteCode.{ByteCode}
use Rattle.wire_bytes.specs.declared.contexts.ByteCode.TheVariants.{CutLength, BadCount, AtomTooLong, LongForm, CutBody, BadPrefix, BadIndex, LevelJump, OutOfOrder}
use Rattle.wire_bytes.specs.Reading.{byte_code_of}
use Rattle.byte_frames.specs.declared.checks.ByteFault.{ByteFault}
use Rattle.byte_calls.specs.declared.refusals.Refusal.{Refusal}
use Rattle.byte_calls.specs.declared.refusals.Refusal.TheVariants.{Fault, Memory, Room}
use Rattle.baggage_c.specs.declared.answers.Answer.{Answer}

-- The status of a call that is done, as the header has it.
abbrev pub ok : ℕ
ok = 0

-- The status of an input that isn't the bytes of a context.
abbrev pub fault : ℕ
fault = 1

-- The status of a buffer that is too short.
abbrev pub room : ℕ
room = 2

-- The status of a call that is out of memory.
abbrev pub memory : ℕ
memory = 3

-- The status of a number that no form has.
abbrev pub form : ℕ
form = 4

-- The status of a budget that is below the least one of its form.
abbrev pub budget : ℕ
budget = 5

-- The status of a text that isn't that of a table.
abbrev pub table : ℕ
table = 6

-- The status of a name path that no slot of the table has.
abbrev pub field : ℕ
field = 7

-- The status of a text that is no write to its field.
abbrev pub write : ℕ
write = 8

-- The status of a datum or a key that isn't spelled as the type of its field says.
abbrev pub typing : ℕ
typing = 9

-- The status of a choice for which the call offers no number.
abbrev pub choice : ℕ
choice = 10

-- The status of a number of bytes that no piece may have.
abbrev pub width : ℕ
width = 11

-- The status of bytes that are too many to be carried in pieces.
abbrev pub long : ℕ
long = 12

-- The status of lines that carry no bytes.
abbrev pub pieces : ℕ
pieces = 13

-- The number of a code, as the header has it.
abbrev pub code_number : ByteCode → ℕ
code_number CutLength = 1
code_number BadCount = 2
code_number AtomTooLong = 3
code_number LongForm = 4
code_number CutBody = 5
code_number BadPrefix = 6
code_number BadIndex = 7
code_number LevelJump = 8
code_number OutOfOrder = 9

-- The answer that has only a status and a size.
abbrev pub plain_answer : ℕ → ℕ → Answer
plain_answer status size =
    record { status = status; code = 0; context = 0; offset = 0; size = size }

-- The refusal that has only a status.
abbrev pub refused : ℕ → Answer
refused status = plain_answer status 0

-- The refusal of something at an offset, with a code.
abbrev pub refused_at : ℕ → ℕ → ℕ → Answer
refused_at status code offset =
    record { status = status; code = code; context = 0; offset = offset; size = 0 }

-- The refusal of one of several inputs, with a code.
abbrev pub refused_of : ℕ → ℕ → ℕ → ℕ → Answer
refused_of status code context offset =
    record { status = status; code = code; context = context; offset = offset; size = 0 }

-- The numbers of an outcome. What an outcome doesn't speak of is 0.
abbrev pub answer_of : Result ℕ Refusal → Answer
answer_of (Ok size) = plain_answer ok size
answer_of (Err (Fault context offset code)) = refused_of fault (code_number code) context offset
answer_of (Err Memory) = refused memory
answer_of (Err (Room size)) = plain_answer room size

-- The numbers of what a look at bytes came to.
abbrev pub check_answer : Result ℕ ByteFault → Answer
check_answer (Ok count) = plain_answer ok count
check_answer (Err wrong) = refused_at fault (code_number wrong.code) wrong.offset

-- The answer is the number of atoms of the context whose bytes these are, or tells their first
-- fault.
abbrev pub ChecksBytes : List ℕ → Result ℕ ByteFault → Type 0
ChecksBytes bytes (Ok count) = (list : List Atom) × IsContextOf list bytes × (count ≡ length list)
ChecksBytes bytes (Err wrong) = IsFirstContextFault bytes wrong.offset (byte_code_of wrong.code)

-- The numbers are those of an outcome for which this holds.
pub record TellsOutcome {O : Type 0} (numbers : O → Answer) (Holds : O → Type 0)
    (answer : Answer) : Type 0 where
  pub outcome : O
  pub holds : Holds outcome
  pub told : answer ≡ numbers outcome

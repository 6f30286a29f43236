-- Outcomes of calls on whole tables and on pieces as numbers.
use Rattle.std.specs.Prelude.{ℕ, Result, Ok, Err}
use Rattle.table_text.specs.declared.faults.TableFault.{TableFault}
use Rattle.table_text.specs.declared.faults.TableFault.TheVariants as faults
use Rattle.table_calls.specs.declared.evolution.Change.{Change}
use Rattle.table_calls.specs.declared.evolution.Change.TheVariants.{Fits, Shape, Key, Kind}
use Rattle.table_calls.specs.declared.refusals.TableRefusal.{TableRefusal}
use Rattle.table_calls.specs.declared.refusals.TableRefusal.TheVariants as tables
use Rattle.byte_calls.specs.declared.room.TooShort.{TooShort}
use Rattle.piece_calls.specs.declared.refusals.PieceCode.{PieceCode}
use Rattle.piece_calls.specs.declared.refusals.PieceCode.TheVariants.{Form, PieceRange, BadBase64, OtherCount, Clash, NoLine, Missing, TooManyBytes}
use Rattle.piece_calls.specs.declared.refusals.PieceRefusal.{PieceRefusal}
use Rattle.piece_calls.specs.declared.refusals.PieceRefusal.TheVariants as carried
use Rattle.baggage_c.specs.declared.answers.Answer.{Answer}
use Rattle.baggage_c.specs.Answers.{code_number, plain_answer, refused, refused_at, refused_of}
use Rattle.baggage_c.specs.Answers as status
use Rattle.baggage_c.specs.FieldAnswers.{table_number}

-- The numbers of a table's check.
abbrev pub slots_answer : Result ℕ TableFault → Answer
slots_answer (Ok count) = plain_answer status.ok count
slots_answer (Err (faults.At line code)) = refused_at status.table (table_number code) line
slots_answer (Err faults.Memory) = refused status.memory

-- The numbers of a refusal.
abbrev pub table_refusal : TableRefusal → Answer
table_refusal (tables.Table which line code) =
    refused_of status.table (table_number code) which line
table_refusal (tables.Fault offset code) = refused_at status.fault (code_number code) offset
table_refusal (tables.IllTyped offset) = refused_at status.typing 0 offset
table_refusal tables.Memory = refused status.memory
table_refusal (tables.Room size) = plain_answer status.room size

-- The numbers of a report.
abbrev pub report_answer : Result ℕ TableRefusal → Answer
report_answer (Ok size) = plain_answer status.ok size
report_answer (Err refusal) = table_refusal refusal

-- The number of a change, as the header has it.
abbrev pub change_number : Change → ℕ
change_number Fits = 0
change_number Shape = 1
change_number Key = 2
change_number Kind = 3

-- The numbers of a comparison: beside its size what it says.
abbrev pub evolve_answer : Result (Change × ℕ) TableRefusal → Answer
evolve_answer (Ok compared) =
    record { status = status.ok; code = change_number compared.0; context = 0; offset = 0; size = compared.1 }
evolve_answer (Err refusal) = table_refusal refusal

-- The number of what is wrong with lines of pieces, as the header has it.
abbrev pub piece_number : PieceCode → ℕ
piece_number Form = 1
piece_number PieceRange = 2
piece_number BadBase64 = 3
piece_number OtherCount = 4
piece_number Clash = 5
piece_number NoLine = 6
piece_number Missing = 7
piece_number TooManyBytes = 8

-- The numbers of what is carried or collected.
abbrev pub piece_answer : Result ℕ PieceRefusal → Answer
piece_answer (Ok size) = plain_answer status.ok size
piece_answer (Err carried.Width) = refused status.width
piece_answer (Err (carried.Pieces line code)) = refused_at status.pieces (piece_number code) line
piece_answer (Err (carried.Fault offset code)) = refused_at status.fault (code_number code) offset
piece_answer (Err (carried.Long size)) = plain_answer status.long size
piece_answer (Err carried.Memory) = refused status.memory
piece_answer (Err (carried.Room size)) = plain_answer status.room size

-- The numbers of a literal.
abbrev pub quote_answer : Result ℕ TooShort → Answer
quote_answer (Ok size) = plain_answer status.ok size
quote_answer (Err short) = plain_answer status.room short.size

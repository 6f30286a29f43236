-- Outcomes of steps and of what is kept as numbers.
use Rattle.std.specs.Prelude.{ℕ, Result, Ok, Err}
use Rattle.step_calls.specs.declared.refusals.WriteCode.{WriteCode}
use Rattle.step_calls.specs.declared.refusals.WriteCode.TheVariants.{NoField, NoWrite}
use Rattle.step_calls.specs.declared.refusals.StepRefusal.{StepRefusal}
use Rattle.step_calls.specs.declared.refusals.StepRefusal.TheVariants as steps
use Rattle.keep_calls.specs.declared.refusals.KeepRefusal.{KeepRefusal}
use Rattle.keep_calls.specs.declared.refusals.KeepRefusal.TheVariants as keeps
use Rattle.baggage_c.specs.declared.answers.Answer.{Answer}
use Rattle.baggage_c.specs.Answers.{code_number, plain_answer, refused, refused_at, refused_of}
use Rattle.baggage_c.specs.Answers as status
use Rattle.baggage_c.specs.FieldAnswers.{table_number}

-- The status of a line of writes that says none.
abbrev pub write_status : WriteCode → ℕ
write_status NoField = status.field
write_status NoWrite = status.write

-- The numbers of a step.
abbrev pub step_answer : Result ℕ StepRefusal → Answer
step_answer (Ok size) = plain_answer status.ok size
step_answer (Err (steps.Table line code)) = refused_at status.table (table_number code) line
step_answer (Err (steps.Write line code)) = refused_at (write_status code) 0 line
step_answer (Err (steps.Fault context offset code)) =
    refused_of status.fault (code_number code) context offset
step_answer (Err (steps.IllTyped context offset)) = refused_of status.typing 0 context offset
step_answer (Err steps.Memory) = refused status.memory
step_answer (Err (steps.Room size)) = plain_answer status.room size

-- The numbers of what is kept.
abbrev pub keep_answer : Result ℕ KeepRefusal → Answer
keep_answer (Ok size) = plain_answer status.ok size
keep_answer (Err (keeps.Table line code)) = refused_at status.table (table_number code) line
keep_answer (Err (keeps.Fault context offset code)) =
    refused_of status.fault (code_number code) context offset
keep_answer (Err keeps.Memory) = refused status.memory
keep_answer (Err (keeps.Room size)) = plain_answer status.room size

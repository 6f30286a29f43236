-- The status and the line of each refusal.
use Rattle.std.specs.Prelude.{ℕ, List, [], ◌∷◌, ◌++◌, codes}
use Rattle.std.specs.Fmt.{decimal}
use Rattle.context_model.specs.ByteCodes.{code_name}
use Rattle.text_lines.specs.HexLines.{hex_name}
use Rattle.wire_bytes.specs.declared.contexts.ContextFault.{ContextFault}
use Rattle.wire_bytes.specs.declared.contexts.ContextFault.TheVariants as contexts
use Rattle.wire_bytes.specs.Reading.{byte_code_of}
use Rattle.bdl_load.specs.CodeNames.{def_name}
use Rattle.bdl_load.specs.declared.faults.DefCode.{DefCode}
use Rattle.bdl_load.specs.declared.faults.DefFault.{DefFault}
use Rattle.bdl_load.specs.declared.faults.DefFault.TheVariants as defs
use Rattle.bdl_load.specs.declared.faults.Fault.{Fault}
use Rattle.table_text.specs.declared.faults.TableCode.{TableCode}
use Rattle.table_text.specs.Faults.{table_code_name}
use Rattle.graph_text.specs.Faults.{graph_code_name}
use Rattle.graph_text.specs.declared.faults.GraphFault.{GraphFault}
use Rattle.graph_text.specs.declared.faults.GraphFault.TheVariants as graphs
use Rattle.text_carrier.specs.Views.{carry_code_name}
use Rattle.text_carrier.specs.declared.faults.CarryFault.{CarryFault}
use Rattle.text_carrier.specs.declared.faults.CarryFault.TheVariants as pieces
use Rattle.baggage_cli.specs.declared.refusals.InputCode.{InputCode}
use Rattle.baggage_cli.specs.declared.refusals.InputCode.TheVariants.{TooLong, NoLine, Form, TooManyLines, TooManyBytes, BudgetRange, StepRange, NoSuchPath, Partial}
use Rattle.baggage_cli.specs.declared.refusals.InputFault.{InputFault}
use Rattle.baggage_cli.specs.declared.refusals.InputFault.TheVariants.{Code, Hex, Graph, Piece, Missing, Bytes, IllTyped}
use Rattle.baggage_cli.specs.declared.refusals.Notice.{Notice}
use Rattle.baggage_cli.specs.declared.refusals.Notice.TheVariants.{LibraryFailed, SourceFailed, SinkFailed, Memory, WordsRefused}
use Rattle.baggage_cli.specs.declared.refusals.Refusal.{Refusal}
use Rattle.baggage_cli.specs.declared.refusals.Refusal.TheVariants.{Input, Definition, Table, Plain}

-- The name of a code, as it is printed.
abbrev pub input_name : InputCode → List ℕ
input_name TooLong = codes "TooLong"
input_name NoLine = codes "NoLine"
input_name Form = codes "Form"
input_name TooManyLines = codes "TooManyLines"
input_name TooManyBytes = codes "TooManyBytes"
input_name BudgetRange = codes "BudgetRange"
input_name StepRange = codes "StepRange"
input_name NoSuchPath = codes "NoSuchPath"
input_name Partial = codes "Partial"

-- The status of what is wrong with an input or a line of it.
abbrev pub input_status : InputFault → ℕ
input_status (Code code) = 2
input_status (Hex code) = 2
input_status (Graph code) = 2
input_status (Piece code) = 2
input_status (Missing piece) = 2
input_status (Bytes offset code) = 3
input_status (IllTyped offset) = 3

-- The text of what is wrong with an input or a line of it: its code, and, where it has them, the
-- piece or how many bytes come before it.
abbrev pub input_fault_text : InputFault → List ℕ
input_fault_text (Code code) = input_name code
input_fault_text (Hex code) = hex_name code
input_fault_text (Graph code) = graph_code_name code
input_fault_text (Piece code) = carry_code_name code
input_fault_text (Missing piece) = codes "Missing " ++ decimal piece
input_fault_text (Bytes offset code) =
    codes "offset " ++ (decimal offset ++ (codes " " ++ code_name (byte_code_of code)))
input_fault_text (IllTyped offset) = codes "offset " ++ (decimal offset ++ codes " IllTyped")

-- What is wrong: the input, or bytes of it that aren't those of a typed list or context.
abbrev pub input_subject : InputFault → List ℕ
input_subject (Code code) = codes "input"
input_subject (Hex code) = codes "input"
input_subject (Graph code) = codes "input"
input_subject (Piece code) = codes "input"
input_subject (Missing piece) = codes "input"
input_subject (Bytes offset code) = codes "context"
input_subject (IllTyped offset) = codes "context"

-- The line that says what is wrong with a line of an input.
abbrev pub input_line : ℕ → InputFault → List ℕ
input_line line fault =
    input_subject fault ++
    (codes " line " ++ (decimal line ++ (codes " " ++ (input_fault_text fault ++ 10 ∷ []))))

-- The line that says what is wrong with a definition.
abbrev pub definition_line : List ℕ → ℕ → ℕ → DefCode → List ℕ
definition_line file line column code =
    codes "definition "
    ++ (file ++ (codes " "
    ++ (decimal line ++ (codes ":"
    ++ (decimal column ++ (codes " " ++ (def_name code ++ 10 ∷ [])))))))

-- The line that says what is wrong with a printed table.
abbrev pub table_line : List ℕ → ℕ → TableCode → List ℕ
table_line file line code =
    codes "definition " ++
    (file ++ (codes " " ++
    (decimal line ++ (codes ":1 " ++ (table_code_name code ++ 10 ∷ [])))))

-- The status of a notice.
abbrev pub notice_status : Notice → ℕ
notice_status LibraryFailed = 4
notice_status SourceFailed = 4
notice_status SinkFailed = 5
notice_status Memory = 6
notice_status WordsRefused = 7

-- The line of a notice.
abbrev pub notice_line : Notice → List ℕ
notice_line LibraryFailed = codes "library failed" ++ 10 ∷ []
notice_line SourceFailed = codes "source failed" ++ 10 ∷ []
notice_line SinkFailed = codes "sink failed" ++ 10 ∷ []
notice_line Memory = codes "memory" ++ 10 ∷ []
notice_line WordsRefused = codes "words refused" ++ 10 ∷ []

-- The status that the program ends with.
abbrev pub status_of : Refusal → ℕ
status_of (Input line fault) = input_status fault
status_of (Definition file line column code) = 1
status_of (Table file line code) = 1
status_of (Plain notice) = notice_status notice

-- The line that is written to the sink of errors.
abbrev pub refusal_line : Refusal → List ℕ
refusal_line (Input line fault) = input_line line fault
refusal_line (Definition file line column code) = definition_line file line column code
refusal_line (Table file line code) = table_line file line code
refusal_line (Plain notice) = notice_line notice

-- The refusal of a definition that has this first fault.
abbrev pub blamed : Fault → Refusal
blamed fault = Definition fault.file fault.line fault.column fault.code

-- The refusal of a definition that isn't compiled.
abbrev pub refusal_of : DefFault → Refusal
refusal_of (defs.At file line column code) = Definition file line column code
refusal_of defs.Failed = Plain LibraryFailed
refusal_of defs.Memory = Plain Memory

-- The refusal of an input as a whole. It belongs to no line.
abbrev pub of_input : InputCode → Refusal
of_input code = Input 0 (Code code)

-- The refusal of bytes that have this fault, of the line with this number.
abbrev pub context_refusal : ℕ → ContextFault → Refusal
context_refusal line (contexts.At offset code) = Input line (Bytes offset code)
context_refusal line contexts.Memory = Plain Memory

-- The refusal of a graph that has this fault.
abbrev pub graph_refusal : GraphFault → Refusal
graph_refusal (graphs.At line code) = Input line (Graph code)
graph_refusal (graphs.Bytes line offset code) = Input line (Bytes offset code)
graph_refusal (graphs.IllTyped line offset) = Input line (IllTyped offset)
graph_refusal graphs.Memory = Plain Memory

-- The refusal of lines of pieces that have this fault.
abbrev pub piece_refusal : CarryFault → Refusal
piece_refusal (pieces.At line code) = Input line (Piece code)
piece_refusal pieces.NoLine = of_input NoLine
piece_refusal (pieces.Missing piece) = Input 0 (Missing piece)
piece_refusal pieces.TooManyBytes = of_input TooManyBytes
piece_refusal pieces.Memory = Plain Memory

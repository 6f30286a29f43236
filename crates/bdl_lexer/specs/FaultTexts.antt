-- The texts of faults.
use Rattle.std.specs.Prelude.{ℕ, List, ◌++◌, codes}
use Rattle.std.specs.Fmt.{decimal}
use Rattle.bdl_lexer.specs.declared.LexCode.{LexCode}
use Rattle.bdl_lexer.specs.declared.LexCode.TheVariants as lexes
use Rattle.bdl_lexer.specs.declared.LexFault.{LexFault}
use Rattle.bdl_lexer.specs.declared.LexFault.TheVariants as faults

-- The name of a code, as it is printed.
abbrev pub lex_name : LexCode → List ℕ
lex_name lexes.NotUtf8 = codes "NotUtf8"
lex_name lexes.BadByte = codes "BadByte"
lex_name lexes.OpenComment = codes "OpenComment"
lex_name lexes.OpenString = codes "OpenString"
lex_name lexes.NumberRange = codes "NumberRange"

-- The text of a fault: the line, the byte of it, and the code.
abbrev pub lex_fault_text : LexFault → List ℕ
lex_fault_text (faults.At line column code) =
    decimal line ++ (codes ":" ++ (decimal column ++ (codes " " ++ lex_name code)))
lex_fault_text faults.Memory = codes "out of memory"

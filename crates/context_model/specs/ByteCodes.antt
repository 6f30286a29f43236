-- What can be wrong where bytes cease to be those of a list, or of a context.
use Rattle.std.specs.Prelude.{ℕ, List, codes}

-- The first five are said of bytes, the last four of the atoms that they frame.
pub data ByteCode : Type 0 where
  CutLength BadCount AtomTooLong LongForm CutBody BadPrefix BadIndex LevelJump OutOfOrder : ByteCode

-- The name of a code, as it is printed.
abbrev pub code_name : ByteCode → List ℕ
code_name CutLength = codes "CutLength"
code_name BadCount = codes "BadCount"
code_name AtomTooLong = codes "AtomTooLong"
code_name LongForm = codes "LongForm"
code_name CutBody = codes "CutBody"
code_name BadPrefix = codes "BadPrefix"
code_name BadIndex = codes "BadIndex"
code_name LevelJump = codes "LevelJump"
code_name OutOfOrder = codes "OutOfOrder"

-- The names of the codes of definitions.
use Rattle.std.specs.Prelude.{ℕ, List, codes}
use Rattle.bdl_load.specs.declared.faults.DefCode.{DefCode}
use Rattle.bdl_load.specs.declared.faults.DefCode.TheVariants.{NotUtf8, BadByte, OpenComment, OpenString, NumberRange, Expected, TypeNesting, NoFile, ImportMissing, ImportCycle, TooManyFiles, DefTooLong, DuplicateName, EmptyStruct, FloatingType, UnknownName, BadKeyType, BadStructField, DuplicateNumber, DuplicateField, Recursive, NoSuchBag, TooDeep, TooManySlots}

-- The name of a code, as it is printed.
abbrev pub def_name : DefCode → List ℕ
def_name NotUtf8 = codes "NotUtf8"
def_name BadByte = codes "BadByte"
def_name OpenComment = codes "OpenComment"
def_name OpenString = codes "OpenString"
def_name NumberRange = codes "NumberRange"
def_name Expected = codes "Expected"
def_name TypeNesting = codes "TypeNesting"
def_name NoFile = codes "NoFile"
def_name ImportMissing = codes "ImportMissing"
def_name ImportCycle = codes "ImportCycle"
def_name TooManyFiles = codes "TooManyFiles"
def_name DefTooLong = codes "DefTooLong"
def_name DuplicateName = codes "DuplicateName"
def_name EmptyStruct = codes "EmptyStruct"
def_name FloatingType = codes "FloatingType"
def_name UnknownName = codes "UnknownName"
def_name BadKeyType = codes "BadKeyType"
def_name BadStructField = codes "BadStructField"
def_name DuplicateNumber = codes "DuplicateNumber"
def_name DuplicateField = codes "DuplicateField"
def_name Recursive = codes "Recursive"
def_name NoSuchBag = codes "NoSuchBag"
def_name TooDeep = codes "TooDeep"
def_name TooManySlots = codes "TooManySlots"

-- The names of the rules, as they are printed.
use Rattle.std.specs.Prelude.{ℕ, List, codes}
use Rattle.graph_text.specs.declared.faults.GraphCode.{GraphCode}
use Rattle.graph_text.specs.declared.faults.GraphCode.TheVariants.{Form, StepNumber, NoSuchStep, NoSuchService, DuplicateService, WrongService, NoSuchPath, NotKnown, BadValue, BudgetRange, TooManySteps, TooManyParents, HexTooLong, BadHex}

-- The name of a code of a graph's text, as it is printed.
abbrev pub graph_code_name : GraphCode → List ℕ
graph_code_name Form = codes "Form"
graph_code_name StepNumber = codes "StepNumber"
graph_code_name NoSuchStep = codes "NoSuchStep"
graph_code_name NoSuchService = codes "NoSuchService"
graph_code_name DuplicateService = codes "DuplicateService"
graph_code_name WrongService = codes "WrongService"
graph_code_name NoSuchPath = codes "NoSuchPath"
graph_code_name NotKnown = codes "NotKnown"
graph_code_name BadValue = codes "BadValue"
graph_code_name BudgetRange = codes "BudgetRange"
graph_code_name TooManySteps = codes "TooManySteps"
graph_code_name TooManyParents = codes "TooManyParents"
graph_code_name HexTooLong = codes "HexTooLong"
graph_code_name BadHex = codes "BadHex"

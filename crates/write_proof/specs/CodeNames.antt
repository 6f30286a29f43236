-- The names of the rules, as they are printed.
use Rattle.std.specs.Prelude.{ℕ, List, codes}
use Rattle.write_proof.specs.declared.verdicts.VerifyCode.{VerifyCode}
use Rattle.write_proof.specs.declared.verdicts.VerifyCode.TheVariants.{Form, StepRange, NoSuchPath, Order, NotParent, NotWrite, NotListed, Missing, Value, TooMuch}

-- The name of a rule.
abbrev pub verify_code_name : VerifyCode → List ℕ
verify_code_name Form = codes "Form"
verify_code_name StepRange = codes "StepRange"
verify_code_name NoSuchPath = codes "NoSuchPath"
verify_code_name Order = codes "Order"
verify_code_name NotParent = codes "NotParent"
verify_code_name NotWrite = codes "NotWrite"
verify_code_name NotListed = codes "NotListed"
verify_code_name Missing = codes "Missing"
verify_code_name Value = codes "Value"
verify_code_name TooMuch = codes "TooMuch"

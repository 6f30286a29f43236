-- What is said of the numbers that stand for forms and other choices, and of budgets, before
-- anything else is looked at.
use Rattle.std.specs.Prelude.{◌≡◌, ℕ, List, Result, Ok, Err, ◌==◌, nat_lt, if◌then◌else◌}
use Rattle.context_model.specs.declared.Form.{Form}
use Rattle.context_model.specs.declared.Form.TheVariants.{One, Two}
use Rattle.context_model.specs.Framing.{least_budget}
use Rattle.keep_calls.specs.declared.others.Others.{Others}
use Rattle.keep_calls.specs.declared.others.Others.TheVariants.{Cut, Unsaid}
use Rattle.table_calls.specs.declared.reports.ReportForm.{ReportForm}
use Rattle.table_calls.specs.declared.reports.ReportForm.TheVariants.{Text, Json}
use Rattle.piece_calls.specs.declared.quoting.Literal.{Literal}
use Rattle.piece_calls.specs.declared.quoting.Literal.TheVariants.{String, Bytes}
use Rattle.baggage_c.specs.declared.answers.Answer.{Answer}
use Rattle.baggage_c.specs.Answers as status

-- The form that has this number, or the status of its refusal.
abbrev pub form_numbered : ℕ → Result Form ℕ
form_numbered number =
    if number == 1 then Ok One else if number == 2 then Ok Two else Err status.form

-- The form, unless the budget is below its least one, or the status of the refusal.
abbrev pub enough : Result Form ℕ → ℕ → Result Form ℕ
enough (Ok form) budget = if nat_lt budget (least_budget form) then Err status.budget else Ok form
enough (Err number) budget = Err number

-- The form that has this number, in which a list can be cut to this budget, or the status of the
-- refusal.
abbrev pub form_within : ℕ → ℕ → Result Form ℕ
form_within number budget = enough (form_numbered number) budget

-- What becomes of what isn't kept, by its number, or the status of its refusal.
abbrev pub others_numbered : ℕ → Result Others ℕ
others_numbered number =
    if number == 1 then Ok Cut else if number == 2 then Ok Unsaid else Err status.choice

-- The form of a report, by its number, or the status of its refusal.
abbrev pub report_numbered : ℕ → Result ReportForm ℕ
report_numbered number =
    if number == 1 then Ok Text else if number == 2 then Ok Json else Err status.choice

-- What bytes are written as, by its number, or the status of its refusal.
abbrev pub literal_numbered : ℕ → Result Literal ℕ
literal_numbered number =
    if number == 1 then Ok String else if number == 2 then Ok Bytes else Err status.choice

-- A choice is made by its number, and the answer is as this says of it; or no choice has the
-- number: the answer tells the status that stands for this, and the buffer is as before.
abbrev pub Chosen : {C : Type 0} → Result C ℕ → (C → Answer → Type 0) → List ℕ → List ℕ → Answer
    → Type 0
Chosen (Ok choice) Answers old new answer = Answers choice answer
Chosen (Err number) Answers old new answer = (answer ≡ status.refused number) × (new ≡ old)

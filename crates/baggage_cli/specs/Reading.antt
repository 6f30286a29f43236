-- An input, and what its lines come to.
use Rattle.std.specs.Prelude.{◌≡◌, ◌⊎◌, ℕ, ◌+◌, ◌<◌, ◌≤◌, List, [], ◌∷◌, length, take, Result, Ok, Err}
use Rattle.std.specs.Io.KnownBytes.{Consumes, IsAtEnd}
use Rattle.std.specs.Global.{Vec}
use Rattle.context_model.specs.declared.Form.{Form as WireForm}
use Rattle.context_model.specs.Atoms.{Atom, AreAtoms}
use Rattle.context_model.specs.Framing.{form_of, least_budget, offset_of, IsBytesOf}
use Rattle.context_model.specs.ContextFault.{IsContextOf, IsFirstContextFault}
use Rattle.context_model.specs.WireFault.{IsFirstWireFault}
use Rattle.bag_model.specs.Readings.{PathsOf}
use Rattle.bag_model.specs.Shapes.{Nodes}
use Rattle.bag_model.specs.Typed.{AreTyped, IsFirstIllTyped}
use Rattle.text_lines.specs.declared.TheConstants.{INPUT_MAX}
use Rattle.text_lines.specs.declared.hex_lines.HexCode.{HexCode}
use Rattle.text_lines.specs.HexLines.{IsHexFault, hex_lines}
use Rattle.text_lines.specs.Lines.{Line, lines_of}
use Rattle.text_lines.specs.Readings.{Reading, AllSay, IsFirstBad, at_most}
use Rattle.wire_bytes.specs.declared.contexts.ByteCode.{ByteCode}
use Rattle.wire_bytes.specs.Reading.{byte_code_of}
use Rattle.baggage_cli.specs.declared.refusals.InputCode.TheVariants.{TooLong, NoLine, Form, BudgetRange}
use Rattle.baggage_cli.specs.declared.refusals.InputFault.{InputFault}
use Rattle.baggage_cli.specs.declared.refusals.InputFault.TheVariants.{Code, Hex, Bytes, IllTyped}
use Rattle.baggage_cli.specs.declared.refusals.Notice.TheVariants.{SourceFailed, Memory}
use Rattle.baggage_cli.specs.declared.refusals.Refusal.{Refusal}
use Rattle.baggage_cli.specs.declared.refusals.Refusal.TheVariants.{Input, Plain}
use Rattle.baggage_cli.specs.Outcomes.{Outcome}
use Rattle.baggage_cli.specs.Scene.{Change, NeverFell, IsSteady, HasFailed, HeldContent}

-- ---- the source

-- The input that was read, with no fault: all that the source held, or one byte more than an input
-- may have of it.
pub record IsInputRead (source : Change (List ℕ)) (input : List ℕ) : Type 0 where
  pub held : HeldContent source input
  pub taken : Consumes source.before source.after (take (INPUT_MAX + 1) input)
  pub ended : length input ≤ INPUT_MAX → IsAtEnd source.after
  pub steady : IsSteady source

-- The input is too long, and refused as a whole.
abbrev pub IsTooLong : List ℕ → Refusal → Type 0
IsTooLong input refusal = (INPUT_MAX < length input) × (refusal ≡ Input 0 (Code TooLong))

-- Why a source gives no input. Memory may run out, and a source that failed has its cause.
abbrev pub IsUnread : (List ℕ → Type 0) → Change (List ℕ) → Refusal → Type 0
IsUnread Refuses source refusal =
    (refusal ≡ Plain Memory)
    ⊎ ((refusal ≡ Plain SourceFailed) × HasFailed source)
    ⊎ ((input : List ℕ) × IsInputRead source input × Refuses input)

-- What reading a source answers: its input, or why there is none.
abbrev pub ReadsInput : Change (List ℕ) → Result (Vec ℕ) Refusal → Type 0
ReadsInput source (Ok input) =
    NeverFell source × IsInputRead source input.items × (length input.items ≤ INPUT_MAX)
ReadsInput source (Err refusal) =
    NeverFell source × IsUnread (λ input. IsTooLong input refusal) source refusal

-- The source is read, and what it held gives the outcome. Memory may run out, and a source that
-- failed has its cause. A source that doesn't tell had some input for which it is so.
abbrev pub ReadsAll : (List ℕ → Outcome → Type 0) → Change (List ℕ) → Outcome → Type 0
ReadsAll gives source outcome =
    NeverFell source
    × ((outcome ≡ Err (Plain Memory))
    ⊎ ((outcome ≡ Err (Plain SourceFailed)) × HasFailed source)
    ⊎ ((input : List ℕ) × IsInputRead source input × gives input outcome))

-- ---- lines

-- An input that is too long is refused, and the lines of any other come to the outcome.
abbrev pub Within : (List Line → Outcome → Type 0) → List ℕ → Outcome → Type 0
Within gives input outcome =
    ((INPUT_MAX < length input) × (outcome ≡ Err (Input 0 (Code TooLong))))
    ⊎ ((length input ≤ INPUT_MAX) × gives (lines_of input) outcome)

-- The first bad line of some lines is refused, with what is wrong with it.
abbrev pub RefusesLines : {A : Type 0} → Reading A InputFault → List Line → Refusal → Type 0
RefusesLines reading lines refusal =
    (number : ℕ) × (fault : InputFault) × IsFirstBad reading lines number fault
    × (refusal ≡ Input number fault)

-- What all lines say gives the output, or the first bad one is refused.
abbrev pub ReadsLines : {A : Type 0} → Reading A InputFault → (List A → List ℕ → Type 0) → List Line
    → Outcome → Type 0
ReadsLines {A} reading gives lines (Ok output) =
    (said : List A) × AllSay reading [] lines said × gives said output
ReadsLines reading gives lines (Err refusal) = RefusesLines reading lines refusal

-- ---- one line

-- Only one line is read: a second one is bad, whatever it is.
abbrev pub only_one : {A : Type 0} → Reading A InputFault → Reading A InputFault
only_one reading = at_most 1 (Code Form) reading

-- There is no line where one is wanted.
abbrev pub HasNoLine : List Line → Refusal → Type 0
HasNoLine lines refusal = (lines ≡ []) × (refusal ≡ Input 0 (Code NoLine))

-- A line is left where none may be.
abbrev pub HasExcess : List Line → Refusal → Type 0
HasExcess left refusal =
    (line : Line) × (after : List Line) × (left ≡ line ∷ after)
    × (refusal ≡ Input line.0 (Code Form))

-- Why lines aren't one line: there is none, or they have a first bad one.
abbrev pub RefusesOne : {A : Type 0} → Reading A InputFault → List Line → Refusal → Type 0
RefusesOne reading lines refusal =
    HasNoLine lines refusal ⊎ RefusesLines (only_one reading) lines refusal

-- What one line says gives the output. Where there is no line, that is refused.
abbrev pub ReadsOne : {A : Type 0} → Reading A InputFault → (A → List ℕ → Type 0) → List Line
    → Outcome → Type 0
ReadsOne {A} reading gives lines outcome =
    ((lines ≡ []) × (outcome ≡ Err (Input 0 (Code NoLine))))
    ⊎ ReadsLines (only_one reading)
    (λ said output. (a : A) × (said ≡ a ∷ []) × gives a output) lines outcome

-- ---- lists and contexts

-- What bytes say: the form that they are in, and a list of atoms.
abbrev pub Framed : Type 0
Framed = WireForm × List Atom

-- Bytes say a list of atoms, or have a first fault.
abbrev pub list_bytes : Reading Framed InputFault
list_bytes = record {
  says = λ earlier bytes said. (said.0 ≡ form_of bytes) × AreAtoms said.1 × IsBytesOf said.1 bytes;
  faults = λ earlier bytes fault.
      (offset : ℕ) × (code : ByteCode) × IsFirstWireFault bytes offset (byte_code_of code)
      × (fault ≡ Bytes offset code);
}

-- Bytes say a context, or have a first fault.
abbrev pub context_bytes : Reading Framed InputFault
context_bytes = record {
  says = λ earlier bytes said. (said.0 ≡ form_of bytes) × IsContextOf said.1 bytes;
  faults = λ earlier bytes fault.
      (offset : ℕ) × (code : ByteCode) × IsFirstContextFault bytes offset (byte_code_of code)
      × (fault ≡ Bytes offset code);
}

-- Bytes say a context that is typed under a table, or have a first fault: that of the bytes, or the
-- place of the context's first ill-typed atom.
abbrev pub typed_bytes : Nodes → Reading Framed InputFault
typed_bytes table = record {
  says =
      λ earlier bytes said. (said.0 ≡ form_of bytes) × IsContextOf said.1 bytes
      × AreTyped table (PathsOf said.1) [];
  faults = λ earlier bytes fault.
      context_bytes.faults earlier bytes fault
      ⊎ ((list : List Atom) × (place : ℕ) × IsContextOf list bytes
      × IsFirstIllTyped table list place
      × (fault ≡ IllTyped (offset_of (form_of bytes) list place)));
}

-- Bytes say a list that can be cut to a budget; those of a form in which nothing can be cut to it
-- are refused for the budget.
abbrev pub cut_bytes : ℕ → Reading Framed InputFault
cut_bytes budget = record {
  says =
      λ earlier bytes said. (least_budget (form_of bytes) ≤ budget)
      × list_bytes.says earlier bytes said;
  faults = λ earlier bytes fault.
      ((budget < least_budget (form_of bytes)) × (fault ≡ Code BudgetRange))
      ⊎ ((least_budget (form_of bytes) ≤ budget) × list_bytes.faults earlier bytes fault);
}

-- Lines of digits say lists that can be cut to a budget.
abbrev pub cut_lines : ℕ → Reading Framed InputFault
cut_lines budget = hex_lines Hex (cut_bytes budget)

-- Lines of digits say contexts.
abbrev pub context_lines : Reading Framed InputFault
context_lines = hex_lines Hex context_bytes

-- Lines of digits say contexts that are typed under a table.
abbrev pub typed_lines : Nodes → Reading Framed InputFault
typed_lines table = hex_lines Hex (typed_bytes table)

-- A line isn't one of digits: memory runs out for its bytes, or this is wrong with it.
abbrev pub IsNoHex : Line → Refusal → Type 0
IsNoHex line refusal =
    (refusal ≡ Plain Memory)
    ⊎ ((code : HexCode) × IsHexFault line.1 code × (refusal ≡ Input line.0 (Hex code)))

-- A line isn't what a reading of single lines wants: memory runs out for it, or this is wrong with
-- it.
abbrev pub RefusesLine : {A : Type 0} → Reading A InputFault → Line → Refusal → Type 0
RefusesLine reading line refusal =
    (refusal ≡ Plain Memory)
    ⊎ ((fault : InputFault) × reading.faults [] line.1 fault × (refusal ≡ Input line.0 fault))

-- Lines that say writes.
use Rattle.std.specs.Prelude.{◌≡◌, ◌||◌, ◌==◌, ℕ, Bool, false, IsTrue, List, [], ◌∷◌, ◌++◌}
use Rattle.std.specs.List.{before_first}
use Rattle.context_model.specs.declared.Form.{Form}
use Rattle.context_model.specs.Atoms.{Atom}
use Rattle.bag_model.specs.Encodings.{IsEncoding}
use Rattle.bag_model.specs.Shapes.{Nodes}
use Rattle.bag_model.specs.Slots.{SlotAt, name_path}
use Rattle.bag_model.specs.SlotValues.{HasSlot, only}
use Rattle.bag_model.specs.Values.{Value}
use Rattle.outside.specs.declared.answers.OrMemory.{OrMemory}
use Rattle.outside.specs.declared.answers.OrMemory.TheVariants as answers
use Rattle.text_lines.specs.FedLines.{fed_lines}
use Rattle.text_lines.specs.Lines.{Line, numbered}
use Rattle.text_lines.specs.Readings.{Reading}
use Rattle.field_writes.specs.Writes.{IsWrite}
use Rattle.field_calls.specs.Fields.{NamesField, NamesNoField}
use Rattle.step_calls.specs.declared.refusals.WriteCode.{WriteCode}
use Rattle.step_calls.specs.declared.refusals.WriteCode.TheVariants.{NoField, NoWrite}

-- The number of a slot, and a value for it.
abbrev pub Write : Type 0
Write = ℕ × Value

-- A line says a write: the name path of its slot, a space, a text that writes its value to a field
-- of the slot's shape where this form is asked for, and a line feed.
pub record SaysLineWrite (form : Form) (nodes : Nodes) (line : List ℕ)
    (write : Write) : Type 0 where
  pub at : SlotAt
  pub there : HasSlot nodes write.0 at
  pub text : List ℕ
  pub value : IsWrite form at.shape write.1 text
  pub is : line ≡ name_path at ++ 32 ∷ text ++ 10 ∷ []

-- The byte is a space or a line feed.
abbrev pub ends_path : ℕ → Bool
ends_path byte = (byte == 32) || (byte == 10)

-- The byte is neither a space nor a line feed.
abbrev pub IsOfPath : ℕ → Type 0
IsOfPath byte = ends_path byte ≡ false

-- A path ends before this rest of a line.
abbrev pub EndsPath : List ℕ → Type 0
EndsPath [] = Unit {0}
EndsPath (byte ∷ bytes) = IsTrue (ends_path byte)

-- The bytes of a line before its first space or line feed.
abbrev pub line_path : List ℕ → List ℕ
line_path line = before_first ends_path line

-- What is wrong with a line: no slot has the path that it begins with; or one has it, and the line
-- says no write.
abbrev pub BreaksWrite : Form → Nodes → List ℕ → WriteCode → Type 0
BreaksWrite form nodes line NoField = NamesNoField nodes (line_path line)
BreaksWrite form nodes line NoWrite =
    NamesField nodes (line_path line) × ((write : Write) → SaysLineWrite form nodes line write → ⊥)

-- Lines say writes, each whatever those before it say.
abbrev pub write_lines : Form → Nodes → Reading Write WriteCode
write_lines form nodes = record {
  says = λ earlier line write. SaysLineWrite form nodes line write;
  faults = λ earlier line code. BreaksWrite form nodes line code;
}

-- The lines of a text with their numbers, from one on. None is skipped, and the last may be without
-- its line feed.
abbrev pub lines_from_one : List ℕ → List Line
lines_from_one text = numbered 1 (fed_lines text)

-- The lists are the encodings of the writes, one by one: each says the value of its slot and
-- nothing else.
abbrev pub AreEncodings : Nodes → List Write → List (List Atom) → Type 0
AreEncodings nodes [] [] = Unit {0}
AreEncodings nodes (write ∷ writes) (list ∷ lists) =
    IsEncoding nodes (only nodes write.0 write.1) list × AreEncodings nodes writes lists
AreEncodings nodes writes lists = ⊥

-- A line is refused: it is bad, or memory runs out for it.
abbrev pub IsRefusedLine : Form → Nodes → List ℕ → OrMemory WriteCode → Type 0
IsRefusedLine form nodes line (answers.Fault code) = BreaksWrite form nodes line code
IsRefusedLine form nodes line answers.Memory = Unit {0}

-- The block of a list: its bytes, and what it says of each slot of a table.
use Rattle.std.specs.Prelude.{◌≡◌, ℕ, zero, suc, Bool, true, false, List, [], ◌∷◌, ◌++◌, length, codes}
use Rattle.context_model.specs.declared.Form.{Form}
use Rattle.context_model.specs.Atoms.{Atom}
use Rattle.context_model.specs.Framing.{bytes_of}
use Rattle.bag_model.specs.Shapes.{Nodes}
use Rattle.bag_model.specs.Slots.{SlotAt, slots_of, name_path}
use Rattle.bag_model.specs.Values.{Value}
use Rattle.trace_model.specs.ShownValues.{IsShown}
use Rattle.text_lines.specs.HexLines.{hex_line}
use Rattle.bag_scan.specs.declared.states.State.{State}
use Rattle.bag_scan.specs.declared.states.State.TheVariants.{Exact, Partial}
use Rattle.text_model.specs.ValueTexts.{value_text}

-- The line of the bytes of a list, where this form is asked for.
abbrev pub bytes_line : Form → List Atom → List ℕ
bytes_line form list = codes "bytes " ++ hex_line (bytes_of form list)

-- The word of a state, between blanks.
abbrev pub state_text : State → List ℕ
state_text Exact = codes " exact "
state_text Partial = codes " partial "

-- A slot's name path, a state and a value.
abbrev pub slot_line : SlotAt → State → Value → List ℕ
slot_line at state v = name_path at ++ state_text state ++ value_text at.shape v ++ 10 ∷ []

-- The state is that of a slot that is whole.
abbrev pub is_exact : State → Bool
is_exact Exact = true
is_exact Partial = false

-- The line shows what the list says of the slot with this number.
pub record IsSlotLine (nodes : Nodes) (list : List Atom) (slot : ℕ) (line : List ℕ) : Type 0 where
  pub state : State
  pub value : Value
  pub shown : IsShown nodes list slot (is_exact state) value
  pub text : line ≡ slot_line shown.at state value

-- The text has a line for each slot before the one of this number, in their order.
abbrev pub AreSlotLines : Nodes → List Atom → ℕ → List ℕ → Type 0
AreSlotLines nodes list zero text = text ≡ []
AreSlotLines nodes list (suc slot) text =
    (before line : List ℕ) × (text ≡ before ++ line)
    × AreSlotLines nodes list slot before × IsSlotLine nodes list slot line

-- The text is the block of the list in this form: the line of its bytes, and a line for each slot.
abbrev pub IsBlock : Nodes → Form → List Atom → List ℕ → Type 0
IsBlock nodes form list text =
    (lines : List ℕ) × (text ≡ bytes_line form list ++ lines)
    × AreSlotLines nodes list (length (slots_of nodes)) lines

-- The lines of the first `slots` slots follow a text.
abbrev pub AddsSlotLines : Nodes → List Atom → ℕ → List ℕ → List ℕ → Type 0
AddsSlotLines nodes list slots before after =
    (lines : List ℕ) × (after ≡ before ++ lines) × AreSlotLines nodes list slots lines

-- The block of the list follows a text.
abbrev pub AddsBlock : Nodes → Form → List Atom → List ℕ → List ℕ → Type 0
AddsBlock nodes form list before after =
    (text : List ℕ) × (after ≡ before ++ text) × IsBlock nodes form list text

-- A list has one block in each form.
abbrev pub HasOneBlock : Type 0
HasOneBlock =
    (nodes : Nodes) (form : Form) (list : List Atom) (a b : List ℕ) → IsBlock nodes form list a
    → IsBlock nodes form list b → a ≡ b

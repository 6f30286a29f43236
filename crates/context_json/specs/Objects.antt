-- The object of a list as JSON: its bytes, and what it says of each slot of a table, the data of its
-- block.
use Rattle.std.specs.Prelude.{◌≡◌, ℕ, List, [], ◌∷◌, ◌++◌, length, codes, Some}
use Rattle.std.specs.List.{slice_get, flat_map}
use Rattle.context_model.specs.declared.Form.{Form}
use Rattle.context_model.specs.Atoms.{Atom}
use Rattle.context_model.specs.Framing.{bytes_of}
use Rattle.bag_model.specs.Shapes.{Nodes}
use Rattle.bag_model.specs.Slots.{SlotAt, slots_of, name_path}
use Rattle.bag_model.specs.Values.{Value}
use Rattle.trace_model.specs.ShownValues.{IsShown}
use Rattle.text_lines.specs.HexLines.{hex_text}
use Rattle.bag_scan.specs.declared.states.State.{State}
use Rattle.bag_scan.specs.declared.states.State.TheVariants.{Exact, Partial}
use Rattle.report_text.specs.Blocks.{is_exact, bytes_line, IsBlock}
use Rattle.text_model.specs.ValueTexts.{value_text}
use Rattle.serde_json.specs.Data.{Data, string, array, object, member, no_members}
use Rattle.serde_json.specs.View.{items_of}
use Rattle.serde_json.specs.Written.{compact_text}

-- The word of a state.
abbrev pub state_word : State → List ℕ
state_word Exact = codes "exact"
state_word Partial = codes "partial"

-- A slot's name path, a state and the text of a value.
abbrev pub slot_object : SlotAt → State → Value → Data
slot_object at state v = object
    (member (codes "path") (string (name_path at))
    (member (codes "state") (string (state_word state))
    (member (codes "text") (string (value_text at.shape v)) no_members)))

-- The digits of the bytes of a list in this form, and what it says of each slot.
abbrev pub context_object : Form → List Atom → List Data → Data
context_object form list fields = object
    (member (codes "bytes") (string (hex_text (bytes_of form list)))
    (member (codes "fields") (array (items_of fields)) no_members))

-- There are `count` objects, and each is the right one for its place.
abbrev pub AreInPlace : ℕ → (ℕ → Data → Type 0) → List Data → Type 0
AreInPlace count IsRight objects =
    (length objects ≡ count)
    × ((place : ℕ) (d : Data) → slice_get objects place ≡ Some d → IsRight place d)

-- The object shows what the list says of the slot with this number.
pub record IsSlotObject (nodes : Nodes) (list : List Atom) (slot : ℕ) (d : Data) : Type 0 where
  pub state : State
  pub value : Value
  pub shown : IsShown nodes list slot (is_exact state) value
  pub object_is : d ≡ slot_object shown.at state value

-- There is an object for each slot, in the order of the table.
abbrev pub AreSlotObjects : Nodes → List Atom → List Data → Type 0
AreSlotObjects nodes list objects =
    AreInPlace (length (slots_of nodes)) (IsSlotObject nodes list) objects

-- The object is that of the list, in this form.
abbrev pub IsContextObject : Nodes → Form → List Atom → Data → Type 0
IsContextObject nodes form list d =
    (fields : List Data) × AreSlotObjects nodes list fields × (d ≡ context_object form list fields)

-- The text is the compact text of the object of the list.
abbrev pub IsContextJson : Nodes → Form → List Atom → List ℕ → Type 0
IsContextJson nodes form list text =
    (d : Data) × IsContextObject nodes form list d × (text ≡ compact_text d)

-- A list has one text as JSON, in each form.
abbrev pub HasOneContextJson : Type 0
HasOneContextJson = (nodes : Nodes) (form : Form) (list : List Atom) (a b : List ℕ)
    → IsContextJson nodes form list a → IsContextJson nodes form list b → a ≡ b

-- The line of a block with the data of a slot's object: its path, its state and its text, with
-- blanks between them.
abbrev pub object_line : Data → List ℕ
object_line (object (member _ (string path)
    (member _ (string state) (member _ (string text) no_members)))) =
    path ++ codes " " ++ state ++ codes " " ++ text ++ 10 ∷ []
object_line _ = []

-- The block of a list has the data of the objects of its slots, one after another, and no other.
abbrev pub BlocksHaveSameData : Type 0
BlocksHaveSameData =
    (nodes : Nodes) (form : Form) (list : List Atom) (objects : List Data) (block : List ℕ)
    → AreSlotObjects nodes list objects → IsBlock nodes form list block
    → block ≡ bytes_line form list ++ flat_map object_line objects

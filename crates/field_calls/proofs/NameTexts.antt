-- The name paths of a table's slots are texts.
use Rattle.std.proofs.Common.{◌≡◌, ℕ, zero, suc, not, true, List, [], ◌∷◌, ◌++◌, map, Some, subst, arith}
use Rattle.std.specs.List.{slice_get, list_any}
use Rattle.std.specs.Str.{IsUtf8, bytes_eq}
use Rattle.std.proofs.lemmas.Bool.{and_parts}
use Rattle.std.proofs.lemmas.Str.{IsUtf8-from_ascii, IsUtf8-append, IsUtf8-nil}
use Rattle.std.proofs.lemmas.Str.Ascii.{IsAscii-nil, IsAscii-cons}
use Rattle.bag_model.specs.Shapes.{Shape, Nodes, Taint, Scalar, Set, Counter, Map, Bag, no_node, node}
use Rattle.bag_model.specs.Slots.{SlotAt, slots_of, slots_in, within, dotted, name_path}
use Rattle.bag_model.specs.SlotValues.{HasSlot}
use Rattle.bag_model.specs.Tables.{IsShape, AreFields, IsTable}
use Rattle.bag_model.specs.Words.{is_word, is_name, reserved_words}
use Rattle.text_lines.proofs.WordBytes.{word_utf8}

name_utf8 : (text : List ℕ) → is_name text ≡ true → IsUtf8 text
name_utf8 text is =
    word_utf8 text (and_parts (is_word text) (not (list_any (bytes_eq text) reserved_words)) is).0

-- Each of the names is a text.
abbrev AreTexts : List (List ℕ) → Type 0
AreTexts [] = Unit {0}
AreTexts (name ∷ names) = IsUtf8 name × AreTexts names

dotted_utf8 : (names : List (List ℕ)) → AreTexts names → IsUtf8 (dotted names)
dotted_utf8 [] texts = IsUtf8-nil
dotted_utf8 (name ∷ []) texts = texts.0
dotted_utf8 (name ∷ other ∷ names) texts =
    IsUtf8-append name (46 ∷ dotted (other ∷ names)) texts.0
    (IsUtf8-append (46 ∷ []) (dotted (other ∷ names)) (IsUtf8-from_ascii (46 ∷ []) (IsAscii-cons 46 [] (omega arith) IsAscii-nil)) (dotted_utf8 (other ∷ names) texts.1))

-- Each of the slots has texts for names.
abbrev HaveTexts : List SlotAt → Type 0
HaveTexts [] = Unit {0}
HaveTexts (slot ∷ slots) = AreTexts slot.names × HaveTexts slots

texts_within : (name : List ℕ) (number : ℕ) (slots : List SlotAt) → IsUtf8 name → HaveTexts slots → HaveTexts (map (within name number) slots)
texts_within name number [] text texts = tt
texts_within name number (slot ∷ slots) text texts = ((text, texts.0), texts_within name number slots text texts.1)

texts_append : (a b : List SlotAt) → HaveTexts a → HaveTexts b → HaveTexts (a ++ b)
texts_append [] b left right = right
texts_append (slot ∷ a) b left right = (left.0, texts_append a b left.1 right)

mutual
  texts_in : (shape : Shape) → IsShape shape → HaveTexts (slots_in shape)
  texts_in Taint is = (tt, tt)
  texts_in (Scalar pick kind) is = (tt, tt)
  texts_in (Set kind) is = (tt, tt)
  texts_in Counter is = (tt, tt)
  texts_in (Map key value) is = (tt, tt)
  texts_in (Bag nodes) is = texts_of nodes is

  texts_of : (nodes : Nodes) → AreFields nodes → HaveTexts (slots_of nodes)
  texts_of no_node is = tt
  texts_of (node name number shape nodes) is =
      texts_append (map (within name number) (slots_in shape)) (slots_of nodes)
      (texts_within name number (slots_in shape) (name_utf8 name is.0) (texts_in shape is.2)) (texts_of nodes is.4)

text_there : (slots : List SlotAt) (place : ℕ) (at : SlotAt) → HaveTexts slots → slice_get slots place ≡ Some at → AreTexts at.names
text_there [] place at texts there = absurd (cc there)
text_there (slot ∷ slots) zero at texts there = let same : slot ≡ at = cc there in subst (λ (s : SlotAt). AreTexts s.names) same texts.0
text_there (slot ∷ slots) (suc place) at texts there = text_there slots place at texts.1 there

-- The name path of a slot is a text.
pub slot_utf8 : (nodes : Nodes) (place : ℕ) (at : SlotAt) → IsTable nodes → HasSlot nodes place at → IsUtf8 (name_path at)
slot_utf8 nodes place at table there = dotted_utf8 at.names (text_there (slots_of nodes) place at (texts_of nodes table.well_formed) there)

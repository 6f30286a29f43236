-- The name paths of a table's slots: texts of letters, digits and dots.
use Rattle.std.proofs.Common.{◌≡◌, ◌≢◌, ℕ, zero, suc, ◌<◌, ◌==◌, ◌||◌, ◌&&◌, not, Bool, true, false, cond, List, [], ◌∷◌, ◌++◌, map, Some, refl, sym, ap, ◌∙◌, subst, eqb-true, arith}
use Rattle.std.specs.Char.{is_ascii_digit}
use Rattle.std.specs.List.{slice_get, list_all, list_any}
use Rattle.std.specs.Prelude.{All, IsTrue}
use Rattle.std.specs.Str.{IsUtf8, IsAscii, bytes_eq}
use Rattle.std.proofs.lemmas.Bool.{and_parts}
use Rattle.std.proofs.lemmas.Bool.Decides.{nat_tests}
use Rattle.std.proofs.lemmas.List.Sums.{take_while-cons}
use Rattle.std.proofs.lemmas.Str.{IsUtf8-from_ascii}
use Rattle.bag_model.specs.Shapes.{Shape, Nodes, Taint, Scalar, Set, Counter, Map, Bag, no_node, node}
use Rattle.bag_model.specs.Slots.{SlotAt, slots_of, slots_in, within, dotted, name_path}
use Rattle.bag_model.specs.SlotValues.{HasSlot}
use Rattle.bag_model.specs.Tables.{IsShape, AreFields, IsTable}
use Rattle.bag_model.specs.Words.{is_letter, is_word, is_name, reserved_words}
use Rattle.step_calls.specs.Lines.{ends_path, IsOfPath, EndsPath, line_path}

-- The byte may be in a name path.
abbrev pub is_of_path : ℕ → Bool
is_of_path byte = (is_letter byte || is_ascii_digit byte) || (byte == 46)

of_path_small : (byte : ℕ) → is_of_path byte ≡ true → byte < 128
of_path_small byte is = grind (arith, nat_tests, is)

of_path_not : (byte other : ℕ) → is_of_path other ≡ false → is_of_path byte ≡ true → (byte == other) ≡ false
of_path_not byte other never is = by (byte == other) refl
  where
    by : (b : Bool) → (byte == other) ≡ b → b ≡ false
    by false e = refl
    by true e = let bad : true ≡ false = sym is ∙ ap is_of_path (eqb-true byte other e) ∙ never in cc bad

-- Such a byte ends no path.
of_path_goes : (byte : ℕ) → is_of_path byte ≡ true → ends_path byte ≡ false
of_path_goes byte is = (λ i. of_path_not byte 32 refl is i || of_path_not byte 10 refl is i)

letter_of_path : (byte : ℕ) → is_letter byte ≡ true → is_of_path byte ≡ true
letter_of_path byte is = ap (λ b. (b || is_ascii_digit byte) || (byte == 46)) is

word_of_path : (byte : ℕ) → (is_letter byte || is_ascii_digit byte) ≡ true → is_of_path byte ≡ true
word_of_path byte is = ap (λ b. b || (byte == 46)) is

-- ---- names

abbrev are_of_path : List ℕ → Bool
are_of_path text = list_all is_of_path text

all_more : (byte : ℕ) (bytes : List ℕ) → is_of_path byte ≡ true → are_of_path bytes ≡ true → are_of_path (byte ∷ bytes) ≡ true
all_more byte bytes is are = ap (λ b. b && are_of_path bytes) is ∙ are

words_of_path : (text : List ℕ) → list_all (λ byte. is_letter byte || is_ascii_digit byte) text ≡ true → are_of_path text ≡ true
words_of_path [] is = refl
words_of_path (byte ∷ bytes) is =
    let parts = and_parts (is_letter byte || is_ascii_digit byte) (list_all (λ b. is_letter b || is_ascii_digit b) bytes) is in
    all_more byte bytes (word_of_path byte parts.0) (words_of_path bytes parts.1)

word_bytes : (text : List ℕ) → is_word text ≡ true → are_of_path text ≡ true
word_bytes [] is = refl
word_bytes (byte ∷ bytes) is =
    let parts = and_parts (is_letter byte) (list_all (λ b. is_letter b || is_ascii_digit b) bytes) is in
    all_more byte bytes (letter_of_path byte parts.0) (words_of_path bytes parts.1)

name_bytes : (text : List ℕ) → is_name text ≡ true → are_of_path text ≡ true
name_bytes text is = word_bytes text (and_parts (is_word text) (not (list_any (bytes_eq text) reserved_words)) is).0

both_of_path : (a b : List ℕ) → are_of_path a ≡ true → are_of_path b ≡ true → are_of_path (a ++ b) ≡ true
both_of_path [] b of_a of_b = of_b
both_of_path (byte ∷ a) b of_a of_b =
    let parts = and_parts (is_of_path byte) (are_of_path a) of_a in
    all_more byte (a ++ b) parts.0 (both_of_path a b parts.1 of_b)

-- Each of the names has such bytes.
abbrev AreWords : List (List ℕ) → Type 0
AreWords [] = Unit {0}
AreWords (name ∷ names) = (are_of_path name ≡ true) × AreWords names

dotted_bytes : (names : List (List ℕ)) → AreWords names → are_of_path (dotted names) ≡ true
dotted_bytes [] words = refl
dotted_bytes (name ∷ []) words = words.0
dotted_bytes (name ∷ other ∷ names) words =
    both_of_path name (46 ∷ dotted (other ∷ names)) words.0 (all_more 46 (dotted (other ∷ names)) refl (dotted_bytes (other ∷ names) words.1))

-- Each of the slots has such names.
abbrev HaveWords : List SlotAt → Type 0
HaveWords [] = Unit {0}
HaveWords (slot ∷ slots) = AreWords slot.names × HaveWords slots

words_within : (name : List ℕ) (number : ℕ) (slots : List SlotAt) → are_of_path name ≡ true → HaveWords slots → HaveWords (map (within name number) slots)
words_within name number [] word words = tt
words_within name number (slot ∷ slots) word words = ((word, words.0), words_within name number slots word words.1)

words_append : (a b : List SlotAt) → HaveWords a → HaveWords b → HaveWords (a ++ b)
words_append [] b left right = right
words_append (slot ∷ a) b left right = (left.0, words_append a b left.1 right)

mutual
  words_in : (shape : Shape) → IsShape shape → HaveWords (slots_in shape)
  words_in Taint is = (tt, tt)
  words_in (Scalar pick kind) is = (tt, tt)
  words_in (Set kind) is = (tt, tt)
  words_in Counter is = (tt, tt)
  words_in (Map key value) is = (tt, tt)
  words_in (Bag nodes) is = words_of nodes is

  words_of : (nodes : Nodes) → AreFields nodes → HaveWords (slots_of nodes)
  words_of no_node is = tt
  words_of (node name number shape nodes) is =
      words_append (map (within name number) (slots_in shape)) (slots_of nodes)
      (words_within name number (slots_in shape) (name_bytes name is.0) (words_in shape is.2)) (words_of nodes is.4)

words_there : (slots : List SlotAt) (place : ℕ) (at : SlotAt) → HaveWords slots → slice_get slots place ≡ Some at → AreWords at.names
words_there [] place at words there = absurd (cc there)
words_there (slot ∷ slots) zero at words there = let same : slot ≡ at = cc there in subst (λ (s : SlotAt). AreWords s.names) same words.0
words_there (slot ∷ slots) (suc place) at words there = words_there slots place at words.1 there

slot_bytes : (nodes : Nodes) (place : ℕ) (at : SlotAt) → IsTable nodes → HasSlot nodes place at → are_of_path (name_path at) ≡ true
slot_bytes nodes place at table there = dotted_bytes at.names (words_there (slots_of nodes) place at (words_of nodes table.well_formed) there)

-- ---- texts

ascii_more : (byte : ℕ) (bytes : List ℕ) → byte < 128 → IsAscii bytes → IsAscii (byte ∷ bytes)
ascii_more byte bytes small all zero = small
ascii_more byte bytes small all (suc i) = all i

ascii_bytes : (text : List ℕ) → are_of_path text ≡ true → IsAscii text
ascii_bytes [] is = λ i. omega arith
ascii_bytes (byte ∷ bytes) is =
    let parts = and_parts (is_of_path byte) (are_of_path bytes) is in
    ascii_more byte bytes (of_path_small byte parts.0) (ascii_bytes bytes parts.1)

-- The name path of a slot is a text.
pub slot_utf8 : (nodes : Nodes) (place : ℕ) (at : SlotAt) → IsTable nodes → HasSlot nodes place at → IsUtf8 (name_path at)
slot_utf8 nodes place at table there = IsUtf8-from_ascii (name_path at) (ascii_bytes (name_path at) (slot_bytes nodes place at table there))

-- ---- lines

path_ends : (path : List ℕ) (stop : ℕ) (rest : List ℕ) → are_of_path path ≡ true → ends_path stop ≡ true → line_path (path ++ stop ∷ rest) ≡ path
path_ends [] stop rest are ends = take_while-cons (λ byte. not (ends_path byte)) stop rest ∙ ap (λ b. cond (not b) (stop ∷ line_path rest) []) ends
path_ends (byte ∷ path) stop rest are ends =
    let parts = and_parts (is_of_path byte) (are_of_path path) are in
    let goes = of_path_goes byte parts.0 in
    take_while-cons (λ b. not (ends_path b)) byte (path ++ stop ∷ rest) ∙ ap (λ b. cond (not b) (byte ∷ line_path (path ++ stop ∷ rest)) []) goes
    ∙ ap (λ (l : List ℕ). byte ∷ l) (path_ends path stop rest parts.1 ends)

-- A line that begins with the name path of a slot and a space begins with that path.
pub path_of_slot : (nodes : Nodes) (place : ℕ) (at : SlotAt) (rest : List ℕ) → IsTable nodes → HasSlot nodes place at → line_path (name_path at ++ 32 ∷ rest) ≡ name_path at
path_of_slot nodes place at rest table there = path_ends (name_path at) 32 rest (slot_bytes nodes place at table there) refl

true_from : (b : Bool) → IsTrue b → b ≡ true
true_from true is = refl
true_from false is = cc is

-- A line begins with the bytes before the first that ends a path.
begins_with : (path rest : List ℕ) → All IsOfPath path → EndsPath rest → line_path (path ++ rest) ≡ path
begins_with [] [] all end = refl
begins_with [] (byte ∷ rest) all end = take_while-cons (λ b. not (ends_path b)) byte rest ∙ ap (λ b. cond (not b) (byte ∷ line_path rest) []) (true_from (ends_path byte) end)
begins_with (byte ∷ path) rest all end =
    take_while-cons (λ b. not (ends_path b)) byte (path ++ rest) ∙ ap (λ b. cond (not b) (byte ∷ line_path (path ++ rest)) []) (all 0 0 (omega arith))
    ∙ ap (λ (l : List ℕ). byte ∷ l) (begins_with path rest (λ k d within. all (suc k) d (omega (arith, within))) end)

pub begins_so : (line path rest : List ℕ) → line ≡ path ++ rest → All IsOfPath path → EndsPath rest → path ≡ line_path line
begins_so line path rest split all end = sym (ap line_path split ∙ begins_with path rest all end)

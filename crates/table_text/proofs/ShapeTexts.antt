-- Texts of shapes and kinds, by their first words.
use Rattle.std.proofs.Common.{◌≡◌, ℕ, zero, suc, ◌+◌, ◌-◌, ◌<◌, ◌==◌, true, false, Option, Some, None, Result, Ok, Err, IfOk, List, [], ◌∷◌, ◌++◌, map, length, take, get_or, refl, sym, ◌∙◌, ap, subst, append_assoc, arith}
use Rattle.std.specs.Prelude.{◌≢◌, codes, IfSome}
use Rattle.std.specs.List.{AllByRecursion, join_with_byte}
use Rattle.std.specs.Option.{option_map}
use Rattle.std.specs.Str.{bytes_eq}
use Rattle.std.proofs.lemmas.List.{take_more, take_all}
use Rattle.std.proofs.lemmas.List.Splits.{length-slice_split, join_with_byte-slice_split}
use Rattle.std.proofs.lemmas.Slice.Eq.{bytes_eq-Decides}
use Rattle.bag_model.specs.declared.Pick.{Pick}
use Rattle.bag_model.specs.declared.Pick.TheVariants.{Least, Greatest}
use Rattle.bag_model.specs.Scalars as scalars
use Rattle.bag_model.specs.Scalars.{Word}
use Rattle.bag_model.specs.Shapes.{Shape, Taint, Scalar, Set, Counter, Map, Bag}
use Rattle.bag_model.specs.Words.{is_word, word_text, word_named}
use Rattle.bag_model.proofs.WordTexts.{word_is, no_word}
use Rattle.text_lines.specs.Answers.{IsSomeOf}
use Rattle.table_text.specs.TableTexts.{kind_text, pick_word, shape_text}
use Rattle.text_lines.specs.Words.{IsFree}
use Rattle.table_text.specs.Words.{AreScalarWords, IsKindText, IsShapeText}
use Rattle.table_text.specs.Shapes.{IsBareText, IsMapBehind}
use Rattle.text_lines.proofs.Separated.{free_there, same_cut, pieces, pieces_joined}
use Rattle.text_lines.proofs.FedLines.{unsnoc}
use Rattle.text_lines.proofs.WordBytes.{free_word}
use Rattle.table_text.proofs.WordReads.{is_scalar}

-- Texts with different bytes aren't the same.
pub differ : (a b : List ℕ) → bytes_eq a b ≡ false → a ≡ b → ⊥
differ a b apart same = let bad : true ≡ false = sym ((bytes_eq-Decides a b).1 same) ∙ apart in cc bad

-- ---- scalar words

-- A word has neither a space nor a comma, and doesn't begin with a parenthesis.
pub word_free : (word : Word) → IsFree 32 (word_text word)
word_free word = free_word 32 (word_text word) refl (is_scalar word)

comma_free : (word : Word) → IsFree 44 (word_text word)
comma_free word = free_word 44 (word_text word) refl (is_scalar word)

pub unopened : (word : Word) (rest : List ℕ) → word_text word ≡ 40 ∷ rest → ⊥
unopened word rest e = let bad : true ≡ false = sym (is_scalar word) ∙ ap is_word e in cc bad

-- What was read as a word has its text.
pub read_text : (text : List ℕ) (word : Word) → Some word ≡ word_named text → text ≡ word_text word
read_text text word is = sym (word_is text word (sym is))

-- ---- structs

texts_free : (words : List Word) → AllByRecursion (IsFree 44) (map word_text words)
texts_free [] = tt
texts_free (word ∷ words) = (comma_free word, texts_free words)

some_texts : (words : List Word) → words ≢ [] → 0 < length (map word_text words)
some_texts [] some = absurd (some refl)
some_texts (word ∷ words) some = omega arith

-- The words of a text are its pieces.
pub pieces_are : (text : List ℕ) (words : List Word) → AreScalarWords text words → pieces 44 text ≡ map word_text words
pieces_are text words h = ap (pieces 44) h.1 ∙ pieces_joined 44 (map word_text words) (some_texts words h.0) (texts_free words)

word_at : (words : List Word) (k : ℕ) (piece : List ℕ) → k < length (map word_text words) → piece ≡ get_or (map word_text words) k piece → (word : Word) × (piece ≡ word_text word)
word_at [] k piece within is = absurd (omega (arith, within))
word_at (word ∷ words) zero piece within is = (word, is)
word_at (word ∷ words) (suc k) piece within is = word_at words k piece (omega (arith, within)) is

-- A text with a piece that is no word isn't that of words.
pub not_words : (text : List ℕ) (k : ℕ) (piece : List ℕ) → (k < length (pieces 44 text)) × (piece ≡ get_or (pieces 44 text) k piece)
    → word_named piece ≡ None → (words : List Word) → AreScalarWords text words → ⊥
not_words text k piece turn none words h =
    let same = pieces_are text words h in
    let found = word_at words k piece (omega (arith, ap length same, turn.0)) (turn.1 ∙ ap (λ (l : List (List ℕ)). get_or l k piece) same) in
    no_word piece none found.0 found.1

pub one_more : (words every : List (List ℕ)) (k : ℕ) (word : List ℕ) → words ≡ take k every → (k < length every) × (word ≡ get_or every k word)
    → words ++ word ∷ [] ≡ take (k + 1) every
one_more words every k word so_far turn =
    ap (λ (l : List (List ℕ)). l ++ word ∷ []) so_far ∙ ap (λ (w : List ℕ). take k every ++ w ∷ []) turn.1 ∙ sym (take_more every k word turn.0)

-- All pieces were read as words.
pub whole_words : (text : List ℕ) (words : List Word) (k : ℕ) → map word_text words ≡ take k (pieces 44 text) → k ≡ length (pieces 44 text) → AreScalarWords text words
whole_words text words k so_far all =
    let same : map word_text words ≡ pieces 44 text = so_far ∙ take_all k (pieces 44 text) (omega (arith, all)) in
    let some = length-slice_split (λ byte. byte == 44) text in (
      λ (e : words ≡ []). omega (arith, some, ap length same, ap (λ (l : List Word). length (map word_text l)) e),
      sym (join_with_byte-slice_split 44 text) ∙ ap (join_with_byte 44) (sym same),
    )

-- ---- kinds

pub kind_in_default : (text : List ℕ) (read : Option Word) → ((inner : List ℕ) → text ≡ 40 ∷ (inner ++ 41 ∷ []) → ⊥)
    → read ≡ word_named text → IsSomeOf (IsKindText text) (option_map scalars.ScalarKind.One read)
kind_in_default text None bare is = none
  where
    none : (kind : scalars.ScalarKind) → IsKindText text kind → ⊥
    none (scalars.ScalarKind.One word) h = no_word text (sym is) word h.1
    none (scalars.ScalarKind.Packed words) h = bare (join_with_byte 44 (map word_text words)) h.1
kind_in_default text (Some word) bare is = (tt, read_text text word is)

pub kind_none : (text inner : List ℕ) → text ≡ 40 ∷ (inner ++ 41 ∷ []) → ((words : List Word) → AreScalarWords inner words → ⊥) → (kind : scalars.ScalarKind) → IsKindText text kind → ⊥
kind_none text inner opened none (scalars.ScalarKind.One word) h = unopened word (inner ++ 41 ∷ []) (sym h.1 ∙ opened)
kind_none text inner opened none (scalars.ScalarKind.Packed words) h =
    let joined = join_with_byte 44 (map word_text words) in
    let behind : inner ++ 41 ∷ [] ≡ joined ++ 41 ∷ [] = let whole : 40 ∷ (inner ++ 41 ∷ []) ≡ 40 ∷ (joined ++ 41 ∷ []) = sym opened ∙ h.1 in cc whole in
    none words (h.0, unsnoc inner joined 41 41 behind)

-- ---- shapes, by what follows the first word

pub pick_free : (pick : Pick) → IsFree 32 (pick_word pick)
pick_free Least = refl
pick_free Greatest = refl

abbrev pub IsBehind : ℕ → List ℕ → List ℕ → Shape → Type 0
IsBehind maps word rest (Scalar pick kind) = (word ≡ pick_word pick) × IsKindText rest kind
IsBehind maps word rest (Set kind) = (word ≡ codes "set") × IsKindText rest kind
IsBehind maps word rest (Map key value) = (word ≡ codes "map") × IsMapBehind maps rest (Map key value)
IsBehind maps word rest other = ⊥

pub behind : (maps : ℕ) (text word rest : List ℕ) → IsFree 32 word → text ≡ word ++ 32 ∷ rest → (shape : Shape) → IsShapeText maps text shape → IsBehind maps word rest shape
behind maps text word rest free cut Taint h = free_there 32 (codes "taint") word rest refl (sym h.2 ∙ cut)
behind maps text word rest free cut Counter h = free_there 32 (codes "counter") word rest refl (sym h.2 ∙ cut)
behind maps text word rest free cut (Bag nodes) h = free_there 32 (codes "bag") word rest refl (sym h.2 ∙ cut)
behind maps text word rest free cut (Scalar pick kind) h =
    let parts = same_cut 32 word (pick_word pick) rest (kind_text kind) free (pick_free pick) (sym cut ∙ h.2) in (parts.0, (h.0, parts.1))
behind maps text word rest free cut (Set kind) h =
    let parts = same_cut 32 word (codes "set") rest (kind_text kind) free refl (sym cut ∙ h.2) in (parts.0, (h.0, parts.1))
behind maps text word rest free cut (Map key value) h =
    let parts = same_cut 32 word (codes "map") rest (kind_text key ++ codes " " ++ shape_text value) free refl (sym cut ∙ h.2) in (parts.0, (h.0, h.1, parts.1))

-- Another first word than these begins no shape.
pub no_shape : (maps : ℕ) (text word rest : List ℕ) → IsFree 32 word → text ≡ word ++ 32 ∷ rest
    → bytes_eq word (codes "map") ≡ false → bytes_eq word (codes "scalar") ≡ false → bytes_eq word (codes "greatest") ≡ false → bytes_eq word (codes "set") ≡ false
    → (shape : Shape) → IsShapeText maps text shape → ⊥
no_shape maps text word rest free cut a b c d shape h = by shape (behind maps text word rest free cut shape h)
  where
    by : (shape : Shape) → IsBehind maps word rest shape → ⊥
    by (Scalar Least kind) p = differ word (codes "scalar") b p.0
    by (Scalar Greatest kind) p = differ word (codes "greatest") c p.0
    by (Set kind) p = differ word (codes "set") d p.0
    by (Map key value) p = differ word (codes "map") a p.0
    by Taint p = p
    by Counter p = p
    by (Bag nodes) p = p

-- Nor does any except that of a map where no kind follows it.
pub no_kind : (maps : ℕ) (text word rest : List ℕ) → IsFree 32 word → text ≡ word ++ 32 ∷ rest → bytes_eq word (codes "map") ≡ false
    → ((kind : scalars.ScalarKind) → IsKindText rest kind → ⊥) → (shape : Shape) → IsShapeText maps text shape → ⊥
no_kind maps text word rest free cut a none shape h = by shape (behind maps text word rest free cut shape h)
  where
    by : (shape : Shape) → IsBehind maps word rest shape → ⊥
    by (Scalar pick kind) p = none kind p.1
    by (Set kind) p = none kind p.1
    by (Map key value) p = differ word (codes "map") a p.0
    by Taint p = p
    by Counter p = p
    by (Bag nodes) p = p

pub map_answers : (maps : ℕ) (text word rest : List ℕ) → IsFree 32 word → text ≡ word ++ 32 ∷ rest → bytes_eq word (codes "map") ≡ true
    → (read : Option Shape) → IsSomeOf (IsMapBehind maps rest) read → IsSomeOf (IsShapeText maps text) read
map_answers maps text word rest free cut is (Some (Map key value)) h =
    (h.0, h.1, cut ∙ ap (λ (w : List ℕ). w ++ 32 ∷ rest) ((bytes_eq-Decides word (codes "map")).0 is) ∙ ap (λ (r : List ℕ). codes "map " ++ r) h.2)
map_answers maps text word rest free cut is (Some Taint) h = absurd h
map_answers maps text word rest free cut is (Some Counter) h = absurd h
map_answers maps text word rest free cut is (Some (Scalar pick kind)) h = absurd h
map_answers maps text word rest free cut is (Some (Set kind)) h = absurd h
map_answers maps text word rest free cut is (Some (Bag nodes)) h = absurd h
map_answers maps text word rest free cut is None none = λ shape h. by shape (behind maps text word rest free cut shape h)
  where
    own : word ≡ codes "map"
    own = (bytes_eq-Decides word (codes "map")).0 is

    by : (shape : Shape) → IsBehind maps word rest shape → ⊥
    by (Scalar Least kind) p = differ (codes "map") (codes "scalar") refl (sym own ∙ p.0)
    by (Scalar Greatest kind) p = differ (codes "map") (codes "greatest") refl (sym own ∙ p.0)
    by (Set kind) p = differ (codes "map") (codes "set") refl (sym own ∙ p.0)
    by (Map key value) p = none (Map key value) p.1
    by Taint p = p
    by Counter p = p
    by (Bag nodes) p = p

pub bare_answers : (maps : ℕ) (text : List ℕ) → IsFree 32 text → (read : Option Shape) → IsSomeOf (IsBareText text) read → IsSomeOf (IsShapeText maps text) read
bare_answers maps text free (Some Taint) h = (h.0, omega arith, h.1)
bare_answers maps text free (Some Counter) h = (h.0, omega arith, h.1)
bare_answers maps text free (Some (Bag nodes)) h = (h.0, omega arith, h.1)
bare_answers maps text free (Some (Scalar pick kind)) h = absurd h
bare_answers maps text free (Some (Set kind)) h = absurd h
bare_answers maps text free (Some (Map key value)) h = absurd h
bare_answers maps text free None none = by
  where
    by : (shape : Shape) → IsShapeText maps text shape → ⊥
    by Taint h = none Taint (h.0, h.2)
    by Counter h = none Counter (h.0, h.2)
    by (Bag nodes) h = none (Bag nodes) (h.0, h.2)
    by (Scalar pick kind) h = free_there 32 text (pick_word pick) (kind_text kind) free h.2
    by (Set kind) h = free_there 32 text (codes "set") (kind_text kind) free h.2
    by (Map key value) h = free_there 32 text (codes "map") (kind_text key ++ codes " " ++ shape_text value) free h.2

-- ---- maps, after their first word

-- The key of a map is a word.
map_cut : (maps : ℕ) (text word rest : List ℕ) → IsFree 32 word → text ≡ word ++ 32 ∷ rest → (key : Word) (value : Shape)
    → IsMapBehind maps text (Map (scalars.ScalarKind.One key) value) → (word ≡ word_text key) × (rest ≡ shape_text value)
map_cut maps text word rest free cut key value h =
    same_cut 32 word (word_text key) rest (shape_text value) free (word_free key) (sym cut ∙ h.2 ∙ append_assoc (word_text key) (codes " ") (shape_text value))

pub map_no_key : (maps : ℕ) (text word rest : List ℕ) → IsFree 32 word → text ≡ word ++ 32 ∷ rest → word_named word ≡ None → (shape : Shape) → IsMapBehind maps text shape → ⊥
map_no_key maps text word rest free cut none (Map (scalars.ScalarKind.One key) value) h = no_word word none key (map_cut maps text word rest free cut key value h).0
map_no_key maps text word rest free cut none (Map (scalars.ScalarKind.Packed words) value) h = absurd h.0.0
map_no_key maps text word rest free cut none Taint h = h
map_no_key maps text word rest free cut none Counter h = h
map_no_key maps text word rest free cut none (Scalar pick kind) h = h
map_no_key maps text word rest free cut none (Set kind) h = h
map_no_key maps text word rest free cut none (Bag nodes) h = h

pub map_no_value : (maps : ℕ) (text word rest : List ℕ) → IsFree 32 word → text ≡ word ++ 32 ∷ rest → ((value : Shape) → IsShapeText (maps - 1) rest value → ⊥)
    → (shape : Shape) → IsMapBehind maps text shape → ⊥
map_no_value maps text word rest free cut none (Map (scalars.ScalarKind.One key) value) h =
    let few = h.1 in
    none value (h.0.1, omega (arith, few), (map_cut maps text word rest free cut key value h).1)
map_no_value maps text word rest free cut none (Map (scalars.ScalarKind.Packed words) value) h = absurd h.0.0
map_no_value maps text word rest free cut none Taint h = h
map_no_value maps text word rest free cut none Counter h = h
map_no_value maps text word rest free cut none (Scalar pick kind) h = h
map_no_value maps text word rest free cut none (Set kind) h = h
map_no_value maps text word rest free cut none (Bag nodes) h = h

pub map_some : (maps : ℕ) (text word rest : List ℕ) → text ≡ word ++ 32 ∷ rest → (key : Word) (value : Shape) → 0 < maps → word ≡ word_text key
    → IsShapeText (maps - 1) rest value → IsMapBehind maps text (Map (scalars.ScalarKind.One key) value)
map_some maps text word rest cut key value some is h =
    let few = h.1 in (
      (tt, h.0),
      omega (arith, few, some),
      cut ∙ ap (λ (w : List ℕ). w ++ 32 ∷ rest) is ∙ ap (λ (r : List ℕ). word_text key ++ 32 ∷ r) h.2 ∙ sym (append_assoc (word_text key) (codes " ") (shape_text value)),
    )

-- Where nothing was read as a word, no word is named.
pub none_named : (text : List ℕ) (read : Option Word) → read ≡ None → read ≡ word_named text → word_named text ≡ None
none_named text read none is = sym is ∙ none

-- What was read after `map` is what the text says.
pub map_read : {S E : Type 0} (maps : ℕ) (text word rest : List ℕ) → IsFree 32 word → text ≡ word ++ 32 ∷ rest → bytes_eq word (codes "map") ≡ true → (shape_of : S → Shape)
    → (result : Result (Option S) E) → IfOk result (λ read. IsSomeOf (IsMapBehind maps rest) (option_map shape_of read)) → IfOk result (λ read. IsSomeOf (IsShapeText maps text) (option_map shape_of read))
map_read maps text word rest free cut is shape_of (Ok read) h = map_answers maps text word rest free cut is (option_map shape_of read) h
map_read maps text word rest free cut is shape_of (Err e) h = tt

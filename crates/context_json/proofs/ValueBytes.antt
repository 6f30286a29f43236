-- The text of a value of a table is UTF-8.
use Rattle.std.proofs.Common.{◌≡◌, ⊎_elim, ℕ, suc, ◌<◌, ◌≤◌, Bool, true, false, if◌then◌else◌, List, [], ◌∷◌, ◌++◌, map, length, get_or, codes, Option, Some, None, refl, sym, ap, ◌∙◌, subst, arith, IsUtf8, append-nil}
use Rattle.std.specs.Char.{IsScalar}
use Rattle.std.specs.List.{AllByRecursion, flat_map}
use Rattle.std.specs.Prelude.{sum_by}
use Rattle.std.specs.Fmt.{decimal}
use Rattle.std.proofs.Math.Utf8.{scalar, scalars, encode, encodes}
use Rattle.std.proofs.lemmas.Bool.{and_parts}
use Rattle.std.proofs.lemmas.Bool.Decides.{nat_tests}
use Rattle.std.proofs.lemmas.List.Concat.{flat_map-append}
use Rattle.std.proofs.lemmas.Str.{IsUtf8-nil, IsUtf8-append, IsUtf8-encode, encode_ascii, inside_one}
use Rattle.std.proofs.str.Laws.{order}
use Rattle.hex.specs.Hex.{encode_lower}
use Rattle.context_model.specs.KeyedMerge.{EachPair}
use Rattle.bag_model.specs.declared.Pick.{Pick}
use Rattle.bag_model.specs.Scalars as scalars
use Rattle.bag_model.specs.Scalars.{SpellingForm, Word, ScalarKind, ScalarValue, Plain, Truth, Signed, Unsigned, Text, Octets, IsOfForm, IsPlainOf, ArePlainsOf, IsScalarOf, spelling_form_of}
use Rattle.bag_model.specs.Shapes.{Shape, Nodes, no_node, node}
use Rattle.bag_model.specs.Tables.{IsShape, AreFields}
use Rattle.bag_model.specs.Values.{Value, Entries, Values, no_entry, entry, no_value, value, pairs, IsOfShape, AreOfShapes}
use Rattle.text_model.specs.Commas.{comma_joined, in_braces}
use Rattle.text_model.specs.ScalarTexts.{is_marked, is_control, escaped, quoted, bytes_text, plain_text, scalar_text}
use Rattle.text_model.specs.ValueTexts.{taint_text, scalar_or_dash, count_text, counts_text, value_text, entry_texts, field_texts}
use Rattle.context_json.proofs.AsciiTexts.{literal_utf8, low_utf8, either_utf8, decimal_utf8, signed_utf8, hex_utf8, name_utf8}

-- ---- texts in a row

joined_utf8 : (texts : List (List ℕ)) → AllByRecursion IsUtf8 texts → IsUtf8 (comma_joined texts)
joined_utf8 [] all = IsUtf8-nil
joined_utf8 (x ∷ []) all = all.0
joined_utf8 (x ∷ y ∷ texts) all =
    IsUtf8-append x (44 ∷ comma_joined (y ∷ texts)) all.0 (IsUtf8-append (44 ∷ []) (comma_joined (y ∷ texts)) (literal_utf8 (44 ∷ []) refl) (joined_utf8 (y ∷ texts) all.1))

between_utf8 : (opening closing : List ℕ) (texts : List (List ℕ)) → IsUtf8 opening → IsUtf8 closing → AllByRecursion IsUtf8 texts → IsUtf8 ((opening ++ comma_joined texts) ++ closing)
between_utf8 opening closing texts p q all = IsUtf8-append (opening ++ comma_joined texts) closing (IsUtf8-append opening (comma_joined texts) p (joined_utf8 texts all)) q

braces_utf8 : (texts : List (List ℕ)) → AllByRecursion IsUtf8 texts → IsUtf8 (in_braces texts)
braces_utf8 texts all = between_utf8 (codes "{") (codes "}") texts (literal_utf8 (codes "{") refl) (literal_utf8 (codes "}") refl) all

-- ---- strings

-- Bytes past ASCII stand for themselves.
high_same : (bytes : List ℕ) → ((i : ℕ) → i < length bytes → 128 ≤ get_or bytes i 0) → flat_map escaped bytes ≡ bytes
high_same [] high = refl
high_same (byte ∷ bytes) high =
    let first : 128 ≤ byte = high 0 (omega arith) in
    let itself : escaped byte ≡ byte ∷ [] = grind (arith, nat_tests) in
    ap (λ (front : List ℕ). front ++ flat_map escaped bytes) itself ∙ ap (λ (l : List ℕ). byte ∷ l) (high_same bytes (λ i l. high (suc i) (omega (arith, l))))

escaped_utf8 : (byte : ℕ) → byte < 128 → IsUtf8 (escaped byte)
escaped_utf8 byte low =
    let digits = encode_lower (byte ∷ []) in
    either_utf8 (is_marked byte) (codes "\\" ++ byte ∷ []) (if is_control byte then codes "\\x" ++ digits else byte ∷ [])
    (IsUtf8-append (codes "\\") (byte ∷ []) (literal_utf8 (codes "\\") refl) (low_utf8 byte low))
    (either_utf8 (is_control byte) (codes "\\x" ++ digits) (byte ∷ []) (IsUtf8-append (codes "\\x") digits (literal_utf8 (codes "\\x") refl) (hex_utf8 (byte ∷ []))) (low_utf8 byte low))

char_utf8 : (c : ℕ) → IsScalar c → IsUtf8 (flat_map escaped (encode c))
char_utf8 c s = ⊎_elim
    (λ (low : c < 128).
    subst (λ (bytes : List ℕ). IsUtf8 (flat_map escaped bytes)) (sym (encode_ascii c low))
    (subst IsUtf8 (sym (append-nil (escaped c))) (escaped_utf8 c low)))
    (λ (high : 128 ≤ c).
    subst IsUtf8
    (sym (high_same (encode c) (λ i within. ⊎_elim
    (λ (low : get_or (encode c) i 0 < 128). absurd (let same : c ≡ get_or (encode c) i 0 = inside_one c [] (encode c) i (sym (append-nil (encode c))) within low in omega (arith, same, low, high)))
    (λ (past : 128 ≤ get_or (encode c) i 0). past)
    (order (get_or (encode c) i 0) 128))))
    (IsUtf8-encode c s))
    (order c 128)

chars_utf8 : (cs : List ℕ) → scalars cs ≡ true → IsUtf8 (flat_map escaped (encodes cs))
chars_utf8 [] all = IsUtf8-nil
chars_utf8 (c ∷ cs) all =
    let both = and_parts (scalar c) (scalars cs) all in
    subst IsUtf8 (sym (flat_map-append escaped (encode c) (encodes cs)))
    (IsUtf8-append (flat_map escaped (encode c)) (flat_map escaped (encodes cs)) (char_utf8 c both.0) (chars_utf8 cs both.1))

quoted_utf8 : (bytes : List ℕ) → IsUtf8 bytes → IsUtf8 (quoted bytes)
quoted_utf8 bytes (cs, (all, is)) =
    let inner : IsUtf8 (flat_map escaped bytes) = subst (λ (l : List ℕ). IsUtf8 (flat_map escaped l)) is (chars_utf8 cs all) in
    IsUtf8-append (codes "\"" ++ flat_map escaped bytes) (codes "\"") (IsUtf8-append (codes "\"") (flat_map escaped bytes) (literal_utf8 (codes "\"") refl) inner) (literal_utf8 (codes "\"") refl)

-- ---- scalars

bytes_utf8 : (bytes : List ℕ) → IsUtf8 (bytes_text bytes)
bytes_utf8 bytes = IsUtf8-append (codes "0x") (encode_lower bytes) (literal_utf8 (codes "0x") refl) (hex_utf8 bytes)

text_utf8 : (form : SpellingForm) (bytes : List ℕ) → IsOfForm form (Text bytes) → IsUtf8 bytes
text_utf8 scalars.TextBytes bytes h = h
text_utf8 form bytes h = absurd h

plain_utf8 : (word : Word) (v : Plain) → IsPlainOf word v → IsUtf8 (plain_text v)
plain_utf8 word (Truth true) h = literal_utf8 (codes "true") refl
plain_utf8 word (Truth false) h = literal_utf8 (codes "false") refl
plain_utf8 word (Signed z) h = signed_utf8 z
plain_utf8 word (Unsigned n) h = decimal_utf8 n
plain_utf8 word (Text bytes) h = quoted_utf8 bytes (text_utf8 (spelling_form_of word) bytes h)
plain_utf8 word (Octets bytes) h = bytes_utf8 bytes

plains_utf8 : (words : List Word) (vs : List Plain) → ArePlainsOf words vs → AllByRecursion IsUtf8 (map plain_text vs)
plains_utf8 [] [] h = tt
plains_utf8 [] (v ∷ vs) h = absurd h
plains_utf8 (word ∷ words) [] h = absurd h
plains_utf8 (word ∷ words) (v ∷ vs) h = (plain_utf8 word v h.0, plains_utf8 words vs h.1)

scalar_utf8 : (kind : ScalarKind) (v : ScalarValue) → IsScalarOf kind v → IsUtf8 (scalar_text v)
scalar_utf8 (ScalarKind.One word) (ScalarValue.One v) h = plain_utf8 word v h
scalar_utf8 (ScalarKind.One word) (ScalarValue.Packed vs) h = absurd h
scalar_utf8 (ScalarKind.Packed words) (ScalarValue.One v) h = absurd h
scalar_utf8 (ScalarKind.Packed words) (ScalarValue.Packed vs) h =
    between_utf8 (codes "(") (codes ")") (map plain_text vs) (literal_utf8 (codes "(") refl) (literal_utf8 (codes ")") refl) (plains_utf8 words vs h)

scalars_utf8 : (kind : ScalarKind) (vs : List ScalarValue) → AllByRecursion (IsScalarOf kind) vs → AllByRecursion IsUtf8 (map scalar_text vs)
scalars_utf8 kind [] h = tt
scalars_utf8 kind (v ∷ vs) h = (scalar_utf8 kind v h.0, scalars_utf8 kind vs h.1)

-- ---- values

taint_utf8 : (on : Bool) → IsUtf8 (taint_text on)
taint_utf8 true = literal_utf8 (codes "on") refl
taint_utf8 false = literal_utf8 (codes "off") refl

dash_utf8 : (pick own : Pick) (kind : ScalarKind) (v : Option ScalarValue) → IsOfShape (Shape.Scalar pick kind) (Value.Scalar own v) → IsUtf8 (scalar_or_dash v)
dash_utf8 pick own kind None h = literal_utf8 (codes "-") refl
dash_utf8 pick own kind (Some v) h = scalar_utf8 kind v h.1

counts_each : (counts : List (List ℕ × ℕ)) → AllByRecursion IsUtf8 (map count_text counts)
counts_each [] = tt
counts_each ((writer, count) ∷ counts) = (
  IsUtf8-append (bytes_text writer ++ codes ":") (decimal count) (IsUtf8-append (bytes_text writer) (codes ":") (bytes_utf8 writer) (literal_utf8 (codes ":") refl)) (decimal_utf8 count),
  counts_each counts,
)

counts_utf8 : (counts : List (List ℕ × ℕ)) → IsUtf8 (counts_text counts)
counts_utf8 counts = IsUtf8-append (decimal (sum_by (λ entry. entry.1) counts)) (in_braces (map count_text counts)) (decimal_utf8 _) (braces_utf8 (map count_text counts) (counts_each counts))

-- A text, a mark and a text.
marked_utf8 : (a mark b : List ℕ) → IsUtf8 a → IsUtf8 mark → IsUtf8 b → IsUtf8 ((a ++ mark) ++ b)
marked_utf8 a mark b p q r = IsUtf8-append (a ++ mark) b (IsUtf8-append a mark p q) r

mutual
  pub value_utf8 : (shape : Shape) (v : Value) → IsShape shape → IsOfShape shape v → IsUtf8 (value_text shape v)
  value_utf8 Shape.Taint (Value.Taint on) s h = taint_utf8 on
  value_utf8 Shape.Taint v s h = absurd h
  value_utf8 (Shape.Scalar pick kind) (Value.Scalar own v) s h = dash_utf8 pick own kind v h
  value_utf8 (Shape.Scalar pick kind) v s h = absurd h
  value_utf8 (Shape.Set kind) (Value.Set own vs) s h = braces_utf8 (map scalar_text vs) (scalars_utf8 kind vs h.2)
  value_utf8 (Shape.Set kind) v s h = absurd h
  value_utf8 Shape.Counter (Value.Counter counts) s h = counts_utf8 counts
  value_utf8 Shape.Counter v s h = absurd h
  value_utf8 (Shape.Map kind shape) (Value.Map es) s h = braces_utf8 (entry_texts shape es) (entries_utf8 kind shape es s.1 h.1)
  value_utf8 (Shape.Map kind shape) v s h = absurd h
  value_utf8 (Shape.Bag nodes) (Value.Bag vs) s h =
      between_utf8 (codes "[") (codes "]") (field_texts nodes vs) (literal_utf8 (codes "[") refl) (literal_utf8 (codes "]") refl) (fields_utf8 nodes vs s h)
  value_utf8 (Shape.Bag nodes) v s h = absurd h

  entries_utf8 : (kind : ScalarKind) (shape : Shape) (es : Entries) → IsShape shape → EachPair (λ key v. IsScalarOf kind key × IsOfShape shape v) (pairs es)
      → AllByRecursion IsUtf8 (entry_texts shape es)
  entries_utf8 kind shape no_entry s h = tt
  entries_utf8 kind shape (entry key v es) s h = (
    marked_utf8 (scalar_text key) (codes ":") (value_text shape v) (scalar_utf8 kind key h.0.0) (literal_utf8 (codes ":") refl) (value_utf8 shape v s h.0.1),
    entries_utf8 kind shape es s h.1,
  )

  fields_utf8 : (nodes : Nodes) (vs : Values) → AreFields nodes → AreOfShapes nodes vs → AllByRecursion IsUtf8 (field_texts nodes vs)
  fields_utf8 no_node no_value s h = tt
  fields_utf8 no_node (value v vs) s h = absurd h
  fields_utf8 (node name number shape nodes) no_value s h = absurd h
  fields_utf8 (node name number shape nodes) (value v vs) s h = (
    marked_utf8 name (codes "=") (value_text shape v) (name_utf8 name s.0) (literal_utf8 (codes "=") refl) (value_utf8 shape v s.2 h.0),
    fields_utf8 nodes vs s.4 h.1,
  )

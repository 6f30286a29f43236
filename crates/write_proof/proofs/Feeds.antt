-- The text of a value of a table has no line feed.
use Rattle.std.proofs.Common.{◌≡◌, ℕ, zero, suc, ◌<◌, ◌/◌, ◌%◌, ◌==◌, not, Bool, true, false, if◌then◌else◌, ℤ, pos, negsuc, List, [], ◌∷◌, ◌++◌, map, codes, Option, Some, None, refl, sym, subst, arith}
use Rattle.std.specs.Prelude.{sum_by}
use Rattle.std.specs.Fmt.{decimal, signed_decimal, digits, digits_onto, digit_glyph}
use Rattle.std.specs.List.{AllByRecursion, list_any, slice_index, flat_map}
use Rattle.std.specs.Str.{bytes_eq}
use Rattle.std.proofs.lemmas.Bool.{and_parts, ne_eqb, eqb-true}
use Rattle.std.proofs.lemmas.Bool.Decides.{nat_tests}
use Rattle.hex.specs.Hex.{encode_with, encode_lower, lower_digits}
use Rattle.bag_model.specs.Scalars.{ScalarValue, Plain, Truth, Signed, Unsigned, Text, Octets}
use Rattle.bag_model.specs.Shapes.{Shape, Nodes, no_node, node}
use Rattle.bag_model.specs.Slots.{dotted}
use Rattle.bag_model.specs.Tables.{IsShape, AreFields}
use Rattle.bag_model.specs.Values.{Value, Entries, Values, no_entry, entry, no_value, value}
use Rattle.bag_model.specs.Words.{is_word, is_name, reserved_words}
use Rattle.text_model.specs.Commas.{comma_joined, in_braces}
use Rattle.text_model.specs.ScalarTexts.{is_marked, is_control, escaped, quoted, bytes_text, plain_text, scalar_text}
use Rattle.text_model.specs.ValueTexts.{taint_text, scalar_or_dash, count_text, counts_text, value_text, entry_texts, field_texts}
use Rattle.graph_lines.specs.Forms.{IsWord, IsPath}
use Rattle.text_lines.specs.Words.{IsFree}
use Rattle.text_lines.proofs.Separated.{or_false, head_free, tail_free, free_append}
use Rattle.text_lines.proofs.WordBytes.{free_word}

-- No byte of the text is a line feed.
abbrev pub IsFed : List ℕ → Type 0
IsFed text = IsFree 10 text

fed_cons : (byte : ℕ) (bytes : List ℕ) → (byte == 10) ≡ false → IsFed bytes → IsFed (byte ∷ bytes)
fed_cons byte bytes p q = or_false (byte == 10) (list_any (λ b. b == 10) bytes) p q

either_fed : (b : Bool) (x y : List ℕ) → IsFed x → IsFed y → IsFed (if b then x else y)
either_fed true x y p q = p
either_fed false x y p q = q

-- ---- numbers

glyph_high : (n : ℕ) → 10 < digit_glyph false (n % 10)
glyph_high n = grind (arith, nat_tests)

glyph_fed : (n : ℕ) → (digit_glyph false (n % 10) == 10) ≡ false
glyph_fed n = ne_eqb (digit_glyph false (n % 10)) 10 (λ e. omega (arith, glyph_high n, e))

onto_fed : (k n : ℕ) (after : List ℕ) → IsFed after → IsFed (digits_onto k 10 false n after)
onto_fed zero n after h = h
onto_fed (suc k) n after h =
    let glyph = digit_glyph false (n % 10) in
    let more : IsFed (glyph ∷ after) = fed_cons glyph after (glyph_fed n) h in
    either_fed (n / 10 == 0) (glyph ∷ after) (digits_onto k 10 false (n / 10) (glyph ∷ after)) more (onto_fed k (n / 10) (glyph ∷ after) more)

pub decimal_fed : (n : ℕ) → IsFed (decimal n)
unfolding digits
decimal_fed n = onto_fed 64 n [] refl

signed_fed : (z : ℤ) → IsFed (signed_decimal z)
signed_fed (pos n) = decimal_fed n
signed_fed (negsuc n) = fed_cons 45 (decimal (suc n)) refl (decimal_fed (suc n))

-- ---- hexadecimal digits

index_fed : (bytes : List ℕ) (k : ℕ) → IsFed bytes → (slice_index bytes k == 10) ≡ false
index_fed [] k h = refl
index_fed (b ∷ bs) zero h = head_free 10 b bs h
index_fed (b ∷ bs) (suc k) h = index_fed bs k (tail_free 10 b bs h)

digit_fed : (k : ℕ) → (slice_index lower_digits k == 10) ≡ false
digit_fed k = index_fed lower_digits k refl

hex_fed : (bytes : List ℕ) → IsFed (encode_lower bytes)
unfolding encode_with
hex_fed [] = refl
hex_fed (byte ∷ bytes) =
    fed_cons (slice_index lower_digits (byte / 16)) (slice_index lower_digits (byte % 16) ∷ encode_lower bytes) (digit_fed (byte / 16))
    (fed_cons (slice_index lower_digits (byte % 16)) (encode_lower bytes) (digit_fed (byte % 16)) (hex_fed bytes))

bytes_fed : (bytes : List ℕ) → IsFed (bytes_text bytes)
bytes_fed bytes = free_append 10 (codes "0x") (encode_lower bytes) refl (hex_fed bytes)

-- ---- texts in a row

joined_fed : (texts : List (List ℕ)) → AllByRecursion IsFed texts → IsFed (comma_joined texts)
joined_fed [] all = refl
joined_fed (x ∷ []) all = all.0
joined_fed (x ∷ y ∷ texts) all = free_append 10 x (44 ∷ comma_joined (y ∷ texts)) all.0 (joined_fed (y ∷ texts) all.1)

between_fed : (opening closing : List ℕ) (texts : List (List ℕ)) → IsFed opening → IsFed closing → AllByRecursion IsFed texts → IsFed ((opening ++ comma_joined texts) ++ closing)
between_fed opening closing texts p q all = free_append 10 (opening ++ comma_joined texts) closing (free_append 10 opening (comma_joined texts) p (joined_fed texts all)) q

braces_fed : (texts : List (List ℕ)) → AllByRecursion IsFed texts → IsFed (in_braces texts)
braces_fed texts all = between_fed (codes "{") (codes "}") texts refl refl all

-- A text, a mark and a text.
marked_fed : (a mark b : List ℕ) → IsFed a → IsFed mark → IsFed b → IsFed ((a ++ mark) ++ b)
marked_fed a mark b p q r = free_append 10 (a ++ mark) b (free_append 10 a mark p q) r

-- ---- strings and scalars

escaped_fed : (byte : ℕ) → IsFed (escaped byte)
unfolding encode_with
escaped_fed byte = by (byte == 10) refl
  where
    by : (b : Bool) → (byte == 10) ≡ b → IsFed (escaped byte)
    by true e = subst (λ b. IsFed (escaped b)) (sym (eqb-true byte 10 e)) refl
    by false e =
        let alone : IsFed (byte ∷ []) = fed_cons byte [] e refl in
        either_fed (is_marked byte) (codes "\\" ++ byte ∷ []) (if is_control byte then codes "\\x" ++ encode_lower (byte ∷ []) else byte ∷ []) (free_append 10 (codes "\\") (byte ∷ []) refl alone)
        (either_fed (is_control byte) (codes "\\x" ++ encode_lower (byte ∷ [])) (byte ∷ []) (free_append 10 (codes "\\x") (encode_lower (byte ∷ [])) refl (hex_fed (byte ∷ []))) alone)

inner_fed : (bytes : List ℕ) → IsFed (flat_map escaped bytes)
inner_fed [] = refl
inner_fed (byte ∷ bytes) = free_append 10 (escaped byte) (flat_map escaped bytes) (escaped_fed byte) (inner_fed bytes)

quoted_fed : (bytes : List ℕ) → IsFed (quoted bytes)
quoted_fed bytes = free_append 10 (codes "\"" ++ flat_map escaped bytes) (codes "\"") (free_append 10 (codes "\"") (flat_map escaped bytes) refl (inner_fed bytes)) refl

plain_fed : (v : Plain) → IsFed (plain_text v)
plain_fed (Truth true) = refl
plain_fed (Truth false) = refl
plain_fed (Signed z) = signed_fed z
plain_fed (Unsigned n) = decimal_fed n
plain_fed (Text bytes) = quoted_fed bytes
plain_fed (Octets bytes) = bytes_fed bytes

plains_fed : (vs : List Plain) → AllByRecursion IsFed (map plain_text vs)
plains_fed [] = tt
plains_fed (v ∷ vs) = (plain_fed v, plains_fed vs)

scalar_fed : (v : ScalarValue) → IsFed (scalar_text v)
scalar_fed (ScalarValue.One v) = plain_fed v
scalar_fed (ScalarValue.Packed vs) = between_fed (codes "(") (codes ")") (map plain_text vs) refl refl (plains_fed vs)

scalars_fed : (vs : List ScalarValue) → AllByRecursion IsFed (map scalar_text vs)
scalars_fed [] = tt
scalars_fed (v ∷ vs) = (scalar_fed v, scalars_fed vs)

-- ---- values

taint_fed : (on : Bool) → IsFed (taint_text on)
taint_fed true = refl
taint_fed false = refl

dash_fed : (v : Option ScalarValue) → IsFed (scalar_or_dash v)
dash_fed None = refl
dash_fed (Some v) = scalar_fed v

counts_each : (counts : List (List ℕ × ℕ)) → AllByRecursion IsFed (map count_text counts)
counts_each [] = tt
counts_each ((writer, count) ∷ counts) = (marked_fed (bytes_text writer) (codes ":") (decimal count) (bytes_fed writer) refl (decimal_fed count), counts_each counts)

counts_fed : (counts : List (List ℕ × ℕ)) → IsFed (counts_text counts)
counts_fed counts = free_append 10 (decimal (sum_by (λ entry. entry.1) counts)) (in_braces (map count_text counts)) (decimal_fed _) (braces_fed (map count_text counts) (counts_each counts))

-- A name of the definition language is a name here too.
pub name_is : (name : List ℕ) → is_name name ≡ true → IsWord name
name_is name h = (and_parts (is_word name) (not (list_any (bytes_eq name) reserved_words)) h).0

mutual
  -- The text of a value of a field whose fields have names.
  pub value_fed : (shape : Shape) (v : Value) → IsShape shape → IsFed (value_text shape v)
  value_fed shape (Value.Taint on) s = taint_fed on
  value_fed shape (Value.Scalar pick v) s = dash_fed v
  value_fed shape (Value.Set kind vs) s = braces_fed (map scalar_text vs) (scalars_fed vs)
  value_fed shape (Value.Counter counts) s = counts_fed counts
  value_fed (Shape.Map kind shape) (Value.Map es) s = braces_fed (entry_texts shape es) (entries_fed shape es s.1)
  value_fed (Shape.Bag nodes) (Value.Map es) s = refl
  value_fed Shape.Taint (Value.Map es) s = refl
  value_fed (Shape.Scalar pick kind) (Value.Map es) s = refl
  value_fed (Shape.Set kind) (Value.Map es) s = refl
  value_fed Shape.Counter (Value.Map es) s = refl
  value_fed (Shape.Bag nodes) (Value.Bag vs) s = between_fed (codes "[") (codes "]") (field_texts nodes vs) refl refl (fields_fed nodes vs s)
  value_fed (Shape.Map kind shape) (Value.Bag vs) s = refl
  value_fed Shape.Taint (Value.Bag vs) s = refl
  value_fed (Shape.Scalar pick kind) (Value.Bag vs) s = refl
  value_fed (Shape.Set kind) (Value.Bag vs) s = refl
  value_fed Shape.Counter (Value.Bag vs) s = refl

  entries_fed : (shape : Shape) (es : Entries) → IsShape shape → AllByRecursion IsFed (entry_texts shape es)
  entries_fed shape no_entry s = tt
  entries_fed shape (entry key v es) s = (marked_fed (scalar_text key) (codes ":") (value_text shape v) (scalar_fed key) refl (value_fed shape v s), entries_fed shape es s)

  fields_fed : (nodes : Nodes) (vs : Values) → AreFields nodes → AllByRecursion IsFed (field_texts nodes vs)
  fields_fed no_node vs s = tt
  fields_fed (node name number shape nodes) no_value s = tt
  fields_fed (node name number shape nodes) (value v vs) s = (
    marked_fed name (codes "=") (value_text shape v) (free_word 10 name refl (name_is name s.0)) refl (value_fed shape v s.2),
    fields_fed nodes vs s.4,
  )

-- ---- name paths

-- Names with dots between them.
dotted_fed : (names : List (List ℕ)) → AllByRecursion IsWord names → IsFed (dotted names)
dotted_fed [] h = refl
dotted_fed (a ∷ []) h = free_word 10 a refl h.0
dotted_fed (a ∷ b ∷ names) h = free_append 10 a (46 ∷ dotted (b ∷ names)) (free_word 10 a refl h.0) (dotted_fed (b ∷ names) h.1)

pub path_fed : (path : List ℕ) → IsPath path → IsFed path
path_fed path h = subst IsFed (sym h.3) (dotted_fed h.0 h.2)

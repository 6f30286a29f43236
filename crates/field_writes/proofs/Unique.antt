-- A text is at most one literal of a kind, and at most one write of a shape.
use Rattle.std.proofs.Common.{◌≡◌, ◌⊎◌, ℕ, List, [], ◌∷◌, ◌++◌, inl, inr, sym, ap, ◌∙◌, subst, append_assoc, arith}
use Rattle.std.proofs.lemmas.List.{append-nil}
use Rattle.context_model.specs.declared.Form.{Form as WireForm}
use Rattle.bag_model.specs.declared.words.ScalarWord.TheVariants.{Str, Bytes}
use Rattle.bag_model.specs.Scalars as scalars
use Rattle.bag_model.specs.Scalars.{ScalarKind, ScalarValue, Text, Octets, IsScalarOf}
use Rattle.text_model.specs.Commas.{comma_joined}
use Rattle.field_writes.specs.Literals.{IsScalarText, IsLiteral, IsWriter}
use Rattle.field_writes.specs.Ends.{BeginsWithOne}
use Rattle.field_writes.proofs.Apart.{word_apart}
use Rattle.field_writes.proofs.Structs.{FieldsThen, texts_then, fields_apart}

-- The text says this value of the kind.
abbrev pub SaysScalar : ScalarKind → ScalarValue → List ℕ → Type 0
SaysScalar kind v front = IsScalarOf kind v × IsScalarText v front

-- What is after the opening parenthesis of a struct.
pub struct_then : (words : List scalars.Word) (vs : List scalars.Plain) (front rest text : List ℕ) → SaysScalar (ScalarKind.Packed words) (ScalarValue.Packed vs) front
    → text ≡ front ++ rest → (tail : List ℕ) × (text ≡ 40 ∷ tail) × FieldsThen 0 words vs rest tail
struct_then words vs front rest text p e =
    let texts = p.1.0 in (
      (comma_joined texts ++ 41 ∷ []) ++ rest,
      e ∙ ap (λ l. l ++ rest) p.1.2,
      texts_then words vs texts rest ((comma_joined texts ++ 41 ∷ []) ++ rest) p.0 p.1.1 (append_assoc (comma_joined texts) (41 ∷ []) rest),
    )

pub scalar_apart : (kind : ScalarKind) (v w : ScalarValue) (text s r : List ℕ) → BeginsWithOne (SaysScalar kind v) text s → BeginsWithOne (SaysScalar kind w) text r → (v ≡ w) × (s ≡ r)
scalar_apart (ScalarKind.One word) (ScalarValue.One v) (ScalarValue.One w) text s r p q =
    let same = word_apart word v w text s r (record { front = p.front; fact = p.fact; same = p.same; end = p.end }) (record { front = q.front; fact = q.fact; same = q.same; end = q.end }) in
    (ap ScalarValue.One same.0, same.1)
scalar_apart (ScalarKind.Packed words) (ScalarValue.Packed vs) (ScalarValue.Packed ws) text s r p q =
    let one = struct_then words vs p.front s text p.fact p.same in
    let two = struct_then words ws q.front r text q.fact q.same in
    let e : 40 ∷ two.0 ≡ 40 ∷ one.0 = sym two.1 ∙ one.1 in
    let tails : two.0 ≡ one.0 = cc e in
    let same = fields_apart 0 words vs ws s r one.0 one.2 (subst (FieldsThen 0 words ws r) tails two.2) in
    (ap ScalarValue.Packed same.0, same.1)
scalar_apart (ScalarKind.One word) (ScalarValue.Packed vs) w text s r p q = absurd p.fact.0
scalar_apart (ScalarKind.One word) (ScalarValue.One v) (ScalarValue.Packed ws) text s r p q = absurd q.fact.0
scalar_apart (ScalarKind.Packed words) (ScalarValue.One v) w text s r p q = absurd p.fact.0
scalar_apart (ScalarKind.Packed words) (ScalarValue.Packed vs) (ScalarValue.One w) text s r p q = absurd q.fact.0

-- Of a literal the text says the scalar.
pub literal_says : (form : WireForm) (kind : ScalarKind) (v : ScalarValue) (text rest : List ℕ) → BeginsWithOne (IsLiteral form kind v) text rest → BeginsWithOne (SaysScalar kind v) text rest
literal_says form kind v text rest p = record { front = p.front; fact = (p.fact.0, p.fact.2); same = p.same; end = p.end }

pub literal_apart : (form : WireForm) (kind : ScalarKind) (v w : ScalarValue) (text s r : List ℕ) → BeginsWithOne (IsLiteral form kind v) text s → BeginsWithOne (IsLiteral form kind w) text r → (v ≡ w) × (s ≡ r)
literal_apart form kind v w text s r p q = scalar_apart kind v w text s r (literal_says form kind v text s p) (literal_says form kind w text r q)

-- A whole text as one that begins with a literal.
pub whole_begins : (holds : List ℕ → Type 0) (text : List ℕ) → holds text → BeginsWithOne holds text []
whole_begins holds text p = record { front = text; fact = p; same = sym (append-nil text); end = tt }

pub one_literal : (form : WireForm) (kind : ScalarKind) (v w : ScalarValue) (text : List ℕ) → IsLiteral form kind v text → IsLiteral form kind w text → v ≡ w
one_literal form kind v w text p q = (literal_apart form kind v w text [] [] (whole_begins (IsLiteral form kind v) text p) (whole_begins (IsLiteral form kind w) text q)).0

-- ---- writers

abbrev pub string_kind : ScalarKind
string_kind = ScalarKind.One Str

abbrev pub bytes_kind : ScalarKind
bytes_kind = ScalarKind.One Bytes

abbrev pub text_of : List ℕ → ScalarValue
text_of bytes = ScalarValue.One (Text bytes)

abbrev pub octets_of : List ℕ → ScalarValue
octets_of bytes = ScalarValue.One (Octets bytes)

-- A writer's literal is a string's or a byte string's.
pub writer_cases : (form : WireForm) (bytes text rest : List ℕ) → BeginsWithOne (IsWriter form bytes) text rest
    → BeginsWithOne (IsLiteral form string_kind (text_of bytes)) text rest ⊎ BeginsWithOne (IsLiteral form bytes_kind (octets_of bytes)) text rest
writer_cases form bytes text rest p =
    elim p.fact [
      | inl w ↦ inl (record { front = p.front; fact = w; same = p.same; end = p.end })
      | inr w ↦ inr (record { front = p.front; fact = w; same = p.same; end = p.end })
    ]

-- A string begins with a quotation mark, and a byte string with a zero.
pub string_first : (form : WireForm) (bytes text rest : List ℕ) → BeginsWithOne (IsLiteral form string_kind (text_of bytes)) text rest → (tail : List ℕ) × (text ≡ 34 ∷ tail)
string_first form bytes text rest p = let inside = p.fact.2 in ((inside.0 ++ 34 ∷ []) ++ rest, p.same ∙ ap (λ l. l ++ rest) inside.2)

pub octets_first : (form : WireForm) (bytes text rest : List ℕ) → BeginsWithOne (IsLiteral form bytes_kind (octets_of bytes)) text rest → (tail : List ℕ) × (text ≡ 48 ∷ tail)
octets_first form bytes text rest p = let digits = p.fact.2 in ((120 ∷ digits.0) ++ rest, p.same ∙ ap (λ l. l ++ rest) digits.1)

first_apart : (text s r : List ℕ) → text ≡ 34 ∷ s → text ≡ 48 ∷ r → ⊥
first_apart text s r e h = let two : 34 ∷ s ≡ 48 ∷ r = sym e ∙ h in let bad : ◌≡◌ {A = ℕ} 34 48 = cc two in absurd (omega (arith, bad))

bytes_in : ScalarValue → List ℕ
bytes_in (ScalarValue.One v) = scalars.plain_bytes v
bytes_in (ScalarValue.Packed vs) = []

pub writer_apart : (form : WireForm) (a b text s r : List ℕ) → BeginsWithOne (IsWriter form a) text s → BeginsWithOne (IsWriter form b) text r → (a ≡ b) × (s ≡ r)
unfolding bytes_in
writer_apart form a b text s r p q =
    elim (writer_cases form a text s p) [
      | inl v ↦ (elim (writer_cases form b text r q) [
        | inl w ↦ (let same = literal_apart form string_kind (text_of a) (text_of b) text s r v w in (ap bytes_in same.0, same.1))
        | inr w ↦ absurd (first_apart text (string_first form a text s v).0 (octets_first form b text r w).0 (string_first form a text s v).1 (octets_first form b text r w).1)
      ])
      | inr v ↦ (elim (writer_cases form b text r q) [
        | inl w ↦ absurd (first_apart text (string_first form b text r w).0 (octets_first form a text s v).0 (string_first form b text r w).1 (octets_first form a text s v).1)
        | inr w ↦ (let same = literal_apart form bytes_kind (octets_of a) (octets_of b) text s r v w in (ap bytes_in same.0, same.1))
      ])
    ]

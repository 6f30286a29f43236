-- What the code takes from the beginning of a text: strings, words, structs and literals.
use Rattle.std.proofs.Common.{◌≡◌, ℕ, zero, suc, ◌<◌, ◌≤◌, List, [], ◌∷◌, ◌++◌, All, map, drop, length, get_or, codes, inl, inr, refl, sym, ap, ◌∙◌, subst, append_assoc, arith}
use Rattle.std.specs.Prelude.{IsUtf8}
use Rattle.std.proofs.lemmas.List.Elements.{recursion_from_All}
use Rattle.context_model.specs.declared.Form.{Form as WireForm}
use Rattle.bag_model.specs.declared.words.ScalarWord.TheVariants.{Str}
use Rattle.bag_model.specs.Scalars as scalars
use Rattle.bag_model.specs.Scalars.{Word, Plain, Text, Octets, ArePlainsOf, spelling}
use Rattle.text_model.specs.Commas.{comma_joined}
use Rattle.scalar_types.specs.declared.scalars.Scalar.TheVariants as values
use Rattle.field_writes.specs.Literals.{IsPlainText, ArePlainTexts, IsScalarText, IsLiteral, IsWriter, most_payload}
use Rattle.field_writes.specs.Ends.{IsNoStop, IsEnd, BeginsWithOne}
use Rattle.field_writes.proofs.Quoted.{InsideThen, inside_apart}
use Rattle.field_writes.proofs.Apart.{IsWordText, fronts_apart, string_then, word_inside}
use Rattle.field_writes.proofs.Structs.{FieldsThen, fields_apart, texts_then, then_texts}
use Rattle.field_writes.proofs.Unique.{SaysScalar, struct_then, scalar_apart, literal_says, string_kind, bytes_kind, writer_cases}

-- ---- strings

abbrev pub StringFront : List ℕ → List ℕ → Type 0
StringFront bytes front = IsUtf8 bytes × IsPlainText (Text bytes) front

same_tail : (first : ℕ) (text s r : List ℕ) → text ≡ first ∷ s → text ≡ first ∷ r → s ≡ r
same_tail first text s r e h = let two : first ∷ s ≡ first ∷ r = sym e ∙ h in cc two

pub string_begins : (bytes rest text tail : List ℕ) → text ≡ 34 ∷ tail → InsideThen bytes rest tail → IsUtf8 bytes → IsEnd rest → BeginsWithOne (StringFront bytes) text rest
string_begins bytes rest text tail e p utf8 end =
    record { front = 34 ∷ (p.0 ++ 34 ∷ []); fact = (utf8, (p.0, p.1, refl)); same = e ∙ ap (λ (l : List ℕ). 34 ∷ l) p.2; end = end }

pub no_string_inside : (text tail : List ℕ) → text ≡ 34 ∷ tail → ((bytes rest : List ℕ) → InsideThen bytes rest tail → ⊥) → (bytes rest : List ℕ) → BeginsWithOne (StringFront bytes) text rest → ⊥
no_string_inside text tail e none bytes rest p =
    let s = string_then bytes p.front rest text p.fact.1 p.same in
    none bytes rest (subst (InsideThen bytes rest) (same_tail 34 text s.0 tail s.1 e) s.2)

-- Where the string that is there isn't one, there is none.
pub no_other_string : (text tail inside behind : List ℕ) → text ≡ 34 ∷ tail → InsideThen inside behind tail → (IsEnd behind → IsUtf8 inside → ⊥)
    → (bytes rest : List ℕ) → BeginsWithOne (StringFront bytes) text rest → ⊥
no_other_string text tail inside behind e here none bytes rest p =
    let s = string_then bytes p.front rest text p.fact.1 p.same in
    let same = inside_apart bytes inside rest behind tail (subst (InsideThen bytes rest) (same_tail 34 text s.0 tail s.1 e) s.2) here in
    none (subst IsEnd same.1 p.end) (subst IsUtf8 same.0 p.fact.0)

-- ---- words

pub no_string_word : (text : List ℕ) → ((bytes rest : List ℕ) → BeginsWithOne (StringFront bytes) text rest → ⊥) → (v : Plain) (rest : List ℕ) → BeginsWithOne (IsWordText Str v) text rest → ⊥
no_string_word text none (Text bytes) rest p = none bytes rest (record { front = p.front; fact = p.fact; same = p.same; end = p.end })
no_string_word text none _ rest p = absurd p.fact.0

pub no_cut_word : (word : Word) (text front behind : List ℕ) → (word ≡ Str → ⊥) → All IsNoStop front → IsEnd behind → text ≡ front ++ behind
    → ((v : Plain) → IsWordText word v front → ⊥) → (v : Plain) (rest : List ℕ) → BeginsWithOne (IsWordText word v) text rest → ⊥
no_cut_word word text front behind other inside end same none v rest p =
    let cut = fronts_apart p.front front text rest behind (word_inside word v p.front other p.fact) (recursion_from_All IsNoStop front inside) p.same same p.end end in
    none v (subst (IsWordText word v) cut.0 p.fact)

-- ---- structs

-- The texts of a struct's fields, with the closing parenthesis and the rest after them.
abbrev pub AreFieldTexts : List Word → List Plain → List ℕ → List ℕ → Type 0
AreFieldTexts words vs rest text = (texts : List (List ℕ)) × ArePlainsOf words vs × ArePlainTexts vs texts × (text ≡ comma_joined texts ++ codes ")" ++ rest)

pub then_fields : (words : List Word) (vs : List Plain) (rest text : List ℕ) → FieldsThen 0 words vs rest text → AreFieldTexts words vs rest text
then_fields words vs rest text p =
    let t = then_texts words vs rest text p in (t.0, t.1, t.2, t.3 ∙ sym (append_assoc (comma_joined t.0) (41 ∷ []) rest))

pub fields_then : (words : List Word) (vs : List Plain) (rest text : List ℕ) → AreFieldTexts words vs rest text → FieldsThen 0 words vs rest text
fields_then words vs rest text t = texts_then words vs t.0 rest text t.1 t.2 (t.3 ∙ append_assoc (comma_joined t.0) (41 ∷ []) rest)

abbrev pub StructFront : List Word → List Plain → List ℕ → Type 0
StructFront words vs front = ArePlainsOf words vs × IsScalarText (scalars.ScalarValue.Packed vs) front

pub struct_begins : (words : List Word) (vs : List Plain) (rest text tail : List ℕ) → text ≡ 40 ∷ tail → AreFieldTexts words vs rest tail → IsEnd rest → BeginsWithOne (StructFront words vs) text rest
struct_begins words vs rest text tail e t end =
    record { front = 40 ∷ (comma_joined t.0 ++ 41 ∷ []); fact = (t.1, (t.0, t.2, refl)); same = e ∙ ap (λ (l : List ℕ). 40 ∷ l) t.3; end = end }

struct_inside : (words : List Word) (vs : List Plain) (rest text : List ℕ) → BeginsWithOne (StructFront words vs) text rest → (tail : List ℕ) × (text ≡ 40 ∷ tail) × FieldsThen 0 words vs rest tail
struct_inside words vs rest text p = struct_then words vs p.front rest text p.fact p.same

pub no_struct_inside : (words : List Word) (text tail : List ℕ) → text ≡ 40 ∷ tail → ((vs : List Plain) (rest : List ℕ) → AreFieldTexts words vs rest tail → ⊥)
    → (vs : List Plain) (rest : List ℕ) → BeginsWithOne (StructFront words vs) text rest → ⊥
no_struct_inside words text tail e none vs rest p =
    let s = struct_inside words vs rest text p in
    none vs rest (then_fields words vs rest tail (subst (FieldsThen 0 words vs rest) (same_tail 40 text s.0 tail s.1 e) s.2))

pub no_other_struct : (words : List Word) (text tail : List ℕ) (own : List Plain) (behind : List ℕ) → text ≡ 40 ∷ tail → AreFieldTexts words own behind tail → (IsEnd behind → ⊥)
    → (vs : List Plain) (rest : List ℕ) → BeginsWithOne (StructFront words vs) text rest → ⊥
no_other_struct words text tail own behind e here none vs rest p =
    let s = struct_inside words vs rest text p in
    let same = fields_apart 0 words vs own rest behind tail (subst (FieldsThen 0 words vs rest) (same_tail 40 text s.0 tail s.1 e) s.2) (fields_then words own behind tail here) in
    none (subst IsEnd same.1 p.end)

-- A field that is next in a loop.
pub drop_next : {A : Type 0} (xs : List A) (at : ℕ) (other : A) → at < length xs → drop at xs ≡ get_or xs at other ∷ drop (suc at) xs
drop_next [] at other within = absurd (omega (arith, within))
drop_next (y ∷ ys) zero other within = refl
drop_next (y ∷ ys) (suc at) other within = drop_next ys at other (omega (arith, within))

-- ---- scalars and literals

pub no_word_scalar : (word : Word) (text : List ℕ) → ((v : Plain) (rest : List ℕ) → BeginsWithOne (IsWordText word v) text rest → ⊥)
    → (s : scalars.ScalarValue) (rest : List ℕ) → BeginsWithOne (SaysScalar (scalars.ScalarKind.One word) s) text rest → ⊥
no_word_scalar word text none (scalars.ScalarValue.One v) rest p = none v rest (record { front = p.front; fact = p.fact; same = p.same; end = p.end })
no_word_scalar word text none (scalars.ScalarValue.Packed vs) rest p = absurd p.fact.0

pub no_struct_scalar : (words : List Word) (text : List ℕ) → ((vs : List Plain) (rest : List ℕ) → BeginsWithOne (StructFront words vs) text rest → ⊥)
    → (s : scalars.ScalarValue) (rest : List ℕ) → BeginsWithOne (SaysScalar (scalars.ScalarKind.Packed words) s) text rest → ⊥
no_struct_scalar words text none (scalars.ScalarValue.One v) rest p = absurd p.fact.0
no_struct_scalar words text none (scalars.ScalarValue.Packed vs) rest p = none vs rest (record { front = p.front; fact = p.fact; same = p.same; end = p.end })

pub literal_begins : (form : WireForm) (kind : scalars.ScalarKind) (v : scalars.ScalarValue) (text rest : List ℕ) → BeginsWithOne (SaysScalar kind v) text rest → length (spelling kind v) ≤ most_payload form → BeginsWithOne (IsLiteral form kind v) text rest
literal_begins form kind v text rest p short = record { front = p.front; fact = (p.fact.0, short, p.fact.1); same = p.same; end = p.end }

pub no_scalar_literal : (form : WireForm) (kind : scalars.ScalarKind) (text : List ℕ) → ((v : scalars.ScalarValue) (rest : List ℕ) → BeginsWithOne (SaysScalar kind v) text rest → ⊥)
    → (v : scalars.ScalarValue) (rest : List ℕ) → BeginsWithOne (IsLiteral form kind v) text rest → ⊥
no_scalar_literal form kind text none v rest p = none v rest (literal_says form kind v text rest p)

-- A scalar for which an atom has no room is the only one that is there.
pub no_long_literal : (form : WireForm) (kind : scalars.ScalarKind) (text : List ℕ) (own : scalars.ScalarValue) (behind : List ℕ) → BeginsWithOne (SaysScalar kind own) text behind → (length (spelling kind own) ≤ most_payload form → ⊥)
    → (v : scalars.ScalarValue) (rest : List ℕ) → BeginsWithOne (IsLiteral form kind v) text rest → ⊥
no_long_literal form kind text own behind here none v rest p =
    let same = scalar_apart kind v own text rest behind (literal_says form kind v text rest p) here in
    none (subst (λ (s : scalars.ScalarValue). length (spelling kind s) ≤ most_payload form) same.0 p.fact.1)

-- ---- writers

pub no_writer : (form : WireForm) (text : List ℕ) → ((v : scalars.ScalarValue) (rest : List ℕ) → BeginsWithOne (IsLiteral form string_kind v) text rest → ⊥)
    → ((v : scalars.ScalarValue) (rest : List ℕ) → BeginsWithOne (IsLiteral form bytes_kind v) text rest → ⊥) → (bytes rest : List ℕ) → BeginsWithOne (IsWriter form bytes) text rest → ⊥
no_writer form text none other bytes rest p =
    elim (writer_cases form bytes text rest p) [ inl w ↦ none (scalars.ScalarValue.One (Text bytes)) rest w | inr w ↦ other (scalars.ScalarValue.One (Octets bytes)) rest w ]

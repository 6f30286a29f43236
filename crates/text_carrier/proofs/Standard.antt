-- What is known of the base64 of the standard alphabet, with padding: it is consistent and strict, and none of its bytes is a space, a line feed or a carriage return.
use Rattle.std.proofs.Common.{◌≡◌, ◌⊎◌, inl, inr, ℕ, ◌+◌, ◌*◌, ◌/◌, ◌%◌, ◌<◌, ◌≤◌, ◌==◌, nat_lt, true, false, Result, Ok, List, [], ◌∷◌, ◌++◌, length, take, drop, replicate, slice_index, codes, refl, sym, ◌∙◌, ap, subst, arith}
use Rattle.std.specs.List.{All}
use Rattle.std.specs.Option.{unwrap_or}
use Rattle.std.specs.Result.{result_ok}
use Rattle.std.specs.Str.{bytes_eq}
use Rattle.std.proofs.lemmas.Bool.{cases_lt, ltb-true, ne_eqb, cond-false, false_from_ne_true}
use Rattle.std.proofs.lemmas.List.{append-nil, get_or_past, length-append, length-replicate, take-append-drop}
use Rattle.std.proofs.lemmas.List.Elements.{All-nil, All-cons, All-append, All-replicate}
use Rattle.std.proofs.lemmas.Slice.Eq.{bytes_eq-Decides}
use Rattle.base64.specs.Engines.{standard}
use Rattle.base64.specs.GeneralPurpose.{IsBytes, IsConsistent, IsStrict, decode_of, encode_of, engine_symbols}
use Rattle.base64.specs.Rfc4648.{encode_group, encode_symbols, padding_len, unpadded_len}
use Rattle.base64.specs.Tables.{all_below}
use Rattle.base64.specs.declared.decode.DecodeError.{DecodeError}
use Rattle.base64.proofs.EngineFacts.{decode_of-encode_of, encode_of-nil}
use Rattle.base64.proofs.RoundTrip.{length-encode_symbols}
use Rattle.base64.proofs.Tables.{all_below_at}
use Rattle.text_carrier.specs.Pieces.{data_text}
use Rattle.text_carrier.specs.Views.{data_bytes}

pub consistent : IsConsistent standard
consistent = refl

pub strict : IsStrict standard
strict = (refl, refl)

-- ---- the bytes of an encoding

-- The byte is zero or after the space.
abbrev pub IsPlain : ℕ → Type 0
IsPlain byte = (byte ≡ 0) ⊎ (32 < byte)

-- The 64 symbols.
abbrev pub letters : List ℕ
letters = engine_symbols standard

letters_plain : all_below (λ i. nat_lt 32 (slice_index letters i)) 64 ≡ true
letters_plain = refl

symbol_plain : (i : ℕ) → IsPlain (slice_index letters i)
symbol_plain i = elim (cases_lt i 64) [
  | inl within ↦ inr (ltb-true 32 (slice_index letters i) (all_below_at (λ k. nat_lt 32 (slice_index letters k)) 64 i letters_plain within))
  | inr past ↦ inl (get_or_past letters i 0 past)
]

one_plain : (i : ℕ) → All IsPlain (slice_index letters i ∷ [])
one_plain i = All-cons IsPlain _ [] (symbol_plain i) (All-nil IsPlain)

two_plain : (i j : ℕ) → All IsPlain (slice_index letters i ∷ slice_index letters j ∷ [])
two_plain i j = All-cons IsPlain _ (slice_index letters j ∷ []) (symbol_plain i) (one_plain j)

three_plain : (i j k : ℕ) → All IsPlain (slice_index letters i ∷ slice_index letters j ∷ slice_index letters k ∷ [])
three_plain i j k = All-cons IsPlain _ (slice_index letters j ∷ slice_index letters k ∷ []) (symbol_plain i) (two_plain j k)

group_plain : (a b c : ℕ) → All IsPlain (encode_group letters a b c)
group_plain a b c =
    All-cons IsPlain _ (slice_index letters (a % 4 * 16 + b / 16) ∷ slice_index letters (b % 16 * 4 + c / 64) ∷ slice_index letters (c % 64) ∷ [])
    (symbol_plain (a / 4)) (three_plain (a % 4 * 16 + b / 16) (b % 16 * 4 + c / 64) (c % 64))

symbols_plain : (bytes : List ℕ) → All IsPlain (encode_symbols letters bytes)
unfolding encode_symbols
symbols_plain [] = All-nil IsPlain
symbols_plain (a ∷ []) = two_plain (a / 4) (a % 4 * 16)
symbols_plain (a ∷ b ∷ []) = three_plain (a / 4) (a % 4 * 16 + b / 16) (b % 16 * 4)
symbols_plain (a ∷ b ∷ c ∷ rest) = All-append IsPlain (encode_group letters a b c) (encode_symbols letters rest) (group_plain a b c) (symbols_plain rest)

pub encoding_plain : (bytes : List ℕ) → All IsPlain (encode_of standard bytes)
encoding_plain bytes =
    All-append IsPlain (encode_symbols letters bytes) (replicate (padding_len (length bytes)) 61) (symbols_plain bytes)
    (All-replicate IsPlain (padding_len (length bytes)) 61 (inr (omega arith)))

length_encoding : (bytes : List ℕ) → length (encode_of standard bytes) ≡ unpadded_len (length bytes) + padding_len (length bytes)
length_encoding bytes =
    let symbols = length-encode_symbols letters bytes in
    let padding = length-replicate {A = ℕ} (padding_len (length bytes)) 61 in
    let parts = length-append (encode_symbols letters bytes) (replicate (padding_len (length bytes)) 61) in
    cc (symbols, padding, parts)

-- ---- the text of a piece's bytes

some_data : (bytes : List ℕ) → 0 < length bytes → data_text bytes ≡ encode_of standard bytes
some_data bytes some = cond-false (length bytes == 0) (codes "-") (encode_of standard bytes) (ne_eqb (length bytes) 0 (λ e. omega arith))

pub data_plain : (bytes : List ℕ) → All IsPlain (data_text bytes)
data_plain [] = All-cons IsPlain 45 [] (inr (omega arith)) (All-nil IsPlain)
data_plain (byte ∷ bytes) = subst (All IsPlain) (sym (some_data (byte ∷ bytes) (omega arith))) (encoding_plain (byte ∷ bytes))

length_some : (bytes : List ℕ) → 0 < length bytes → length (data_text bytes) ≡ unpadded_len (length bytes) + padding_len (length bytes)
length_some bytes some = ap length (some_data bytes some) ∙ length_encoding bytes

pub data_some : (bytes : List ℕ) → 0 < length (data_text bytes)
data_some [] = omega arith
data_some (byte ∷ bytes) = omega (arith, length_some (byte ∷ bytes) (omega arith))

pub data_short : (bytes : List ℕ) → length bytes ≤ 300 → length (data_text bytes) ≤ 400
data_short [] few = omega arith
data_short (byte ∷ bytes) few = omega (arith, few, length_some (byte ∷ bytes) (omega arith))

-- A dash is no encoding.
no_dash : (bytes : List ℕ) → 0 < length bytes → codes "-" ≡ data_text bytes → ⊥
no_dash bytes some is = omega (arith, ap length is, length_some bytes some)

decodes : (bytes : List ℕ) → IsBytes bytes → decode_of standard (encode_of standard bytes) ≡ Ok bytes
decodes bytes are = decode_of-encode_of standard bytes consistent are

-- The text is that of one string of bytes.
pub one_data : (a b : List ℕ) → IsBytes a → IsBytes b → data_text a ≡ data_text b → a ≡ b
one_data [] [] p q is = refl
one_data [] (y ∷ b) p q is = absurd (no_dash (y ∷ b) (omega arith) is)
one_data (x ∷ a) [] p q is = absurd (no_dash (x ∷ a) (omega arith) (sym is))
one_data (x ∷ a) (y ∷ b) p q is =
    let same : encode_of standard (x ∷ a) ≡ encode_of standard (y ∷ b) = sym (some_data (x ∷ a) (omega arith)) ∙ is ∙ some_data (y ∷ b) (omega arith) in
    let ok : ◌≡◌ {A = Result (List ℕ) DecodeError} (Ok (x ∷ a)) (Ok (y ∷ b)) = sym (decodes (x ∷ a) p) ∙ ap (decode_of standard) same ∙ decodes (y ∷ b) q in
    cc ok

-- An encoding of one or more bytes is the text of what it encodes.
pub encoded_data : (word bytes : List ℕ) → 0 < length word → word ≡ encode_of standard bytes → word ≡ data_text bytes
encoded_data word [] some is = absurd (omega (arith, some, ap length (is ∙ encode_of-nil standard)))
encoded_data word (byte ∷ bytes) some is = is ∙ sym (some_data (byte ∷ bytes) (omega arith))

-- The bytes that a text says are those whose text it is.
pub bytes_told : (bytes : List ℕ) → IsBytes bytes → data_bytes (data_text bytes) ≡ bytes
bytes_told [] are = refl
bytes_told (byte ∷ bytes) are =
    let all = byte ∷ bytes in
    let word = data_text all in
    let dashed : bytes_eq word (codes "-") ≡ false = false_from_ne_true (bytes_eq word (codes "-")) (λ e. no_dash all (omega arith) (sym ((bytes_eq-Decides word (codes "-")).0 e))) in
    let read = ap (decode_of standard) (some_data all (omega arith)) ∙ decodes all are in
    cond-false (bytes_eq word (codes "-")) [] (unwrap_or (result_ok (decode_of standard word)) []) dashed ∙ ap (λ (r : Result (List ℕ) DecodeError). unwrap_or (result_ok r) []) read

-- A dash says no bytes.
pub dash_appended : (word bytes : List ℕ) → word ≡ codes "-" → bytes ≡ bytes ++ data_bytes word
dash_appended word bytes is = sym (ap (λ (w : List ℕ). bytes ++ data_bytes w) is ∙ append-nil bytes)

-- Any other word says what it is decoded to.
pub decoded_appended : (word bytes more : List ℕ) (start : ℕ) → (word ≡ codes "-" → ⊥) → decode_of standard word ≡ Ok (drop start more) → take start more ≡ bytes → more ≡ bytes ++ data_bytes word
decoded_appended word bytes more start other read front =
    let dashed : bytes_eq word (codes "-") ≡ false = false_from_ne_true (bytes_eq word (codes "-")) (λ e. other ((bytes_eq-Decides word (codes "-")).0 e)) in
    let found = ap (λ (r : Result (List ℕ) DecodeError). unwrap_or (result_ok r) []) read in
    let said : data_bytes word ≡ drop start more = cond-false (bytes_eq word (codes "-")) [] (unwrap_or (result_ok (decode_of standard word)) []) dashed ∙ found in
    sym (take-append-drop start more) ∙ ap (λ (bs : List ℕ). bs ++ drop start more) front ∙ ap (λ (bs : List ℕ). bytes ++ bs) (sym said)

-- The text of some bytes says them.
pub decoded_bytes : (word bytes : List ℕ) → IsBytes bytes → word ≡ data_text bytes → bytes ≡ data_bytes word
decoded_bytes word bytes are is = sym (ap data_bytes is ∙ bytes_told bytes are)

-- The letters of bytes, and the text that they make with a check.
use Rattle.std.proofs.Common.{◌≡◌, inl, inr, ℕ, ◌+◌, ◌-◌, ◌*◌, ◌/◌, ◌%◌, ◌≤◌, ◌==◌, ◌||◌, nat_lt, Bool, true, Result, Ok, Err, List, [], ◌∷◌, ◌++◌, length, take, drop, slice_index, refl, sym, ◌∙◌, ap, subst, arith}
use Rattle.std.specs.List.{All, slice_set}
use Rattle.std.specs.Prelude.{OnOk}
use Rattle.std.specs.Int.{to_be_bytes, w32}
use Rattle.std.proofs.lemmas.Bool.{cases_lt}
use Rattle.std.proofs.lemmas.Grind.{common_steps}
use Rattle.std.proofs.lemmas.List.{append-nil, append_assoc, get_or_past, length-append, length-set, take_at, take_more_set, take-append-drop}
use Rattle.std.proofs.lemmas.List.Elements.{All-nil, All-cons, All-append}
use Rattle.std.proofs.lemmas.Slice.{take-put_mid, drop-put_mid}
use borrow.Rule.Slice.PartMut.{put_mid}
use Rattle.base64.specs.Engines.{url_safe_no_pad}
use Rattle.base64.specs.GeneralPurpose.{IsBytes, IsConsistent, IsStrict, decode_of, encode_of, engine_symbols}
use Rattle.base64.specs.Rfc4648.{encode_group, encode_symbols, unpadded_len}
use Rattle.base64.specs.Tables.{all_below}
use Rattle.base64.specs.declared.decode.DecodeError.{DecodeError}
use Rattle.base64.proofs.EngineFacts.{decode_of-encode_of}
use Rattle.base64.proofs.RoundTrip.{length-encode_symbols}
use Rattle.base64.proofs.Tables.{all_below_at}
use Rattle.header_text.specs.Check.{crc32}
use Rattle.header_text.specs.Texts.{check_letters, header_text, letters, text_len}

consistent : IsConsistent url_safe_no_pad
consistent = refl

pub strict : IsStrict url_safe_no_pad
strict = (refl, refl)

pub encoded : (bytes : List ℕ) → encode_of url_safe_no_pad bytes ≡ letters bytes
unfolding letters
encoded bytes = refl

pub check_of : (bytes check : List ℕ) → check ≡ to_be_bytes w32 (crc32 bytes) → encode_of url_safe_no_pad check ≡ check_letters bytes
unfolding check_letters letters
check_of bytes check is = ap (encode_of url_safe_no_pad) is

-- ---- their number

pub length_letters : (bytes : List ℕ) → length (letters bytes) ≡ unpadded_len (length bytes)
unfolding letters
length_letters bytes = ap length (append-nil (encode_symbols (engine_symbols url_safe_no_pad) bytes)) ∙ length-encode_symbols (engine_symbols url_safe_no_pad) bytes

pub length_check : (bytes : List ℕ) → length (check_letters bytes) ≡ 6
unfolding check_letters
length_check bytes = length_letters (to_be_bytes w32 (crc32 bytes))

pub length_text : (bytes : List ℕ) → length (header_text bytes) ≡ text_len (length bytes)
length_text bytes = omega (arith, length-append (letters bytes) (46 ∷ check_letters bytes), length_letters bytes, length_check bytes)

-- ---- what is written

-- A buffer that is no longer than what is written into it.
pub filled : {E : Type 0} → (a old new : List ℕ) (size n : ℕ) (r : Result ℕ E) → r ≡ Ok n → length old ≤ size → OnOk r (new ≡ a ++ drop size old) → new ≡ a
filled a old new size n (Ok m) is less w =
    let none : drop size old ≡ [] = grind (arith, common_steps) in
    w ∙ ap (λ (t : List ℕ). a ++ t) none ∙ append-nil a
filled a old new size n (Err e) is less w = cc is

-- Letters are written at the beginning of a buffer.
pub written_front : {E : Type 0} → (a old new : List ℕ) (size n : ℕ) (r : Result ℕ E) → r ≡ Ok n → OnOk r (new ≡ a ++ drop size old) → new ≡ a ++ drop size old
written_front a old new size n (Ok m) is w = w
written_front a old new size n (Err e) is w = cc is

-- A dot and a check are written after the letters.
pub whole_text : (a check room : List ℕ) (n : ℕ) → length a ≡ n → length room ≡ n + 7 → length check ≡ 6
    → let xs : List ℕ = slice_set (a ++ drop n room) n 46 in put_mid (n + 1) (length xs - (n + 1)) xs check ≡ a ++ 46 ∷ check
whole_text a check room n la lr lc =
    let both : List ℕ = a ++ drop n room in
    let xs : List ℕ = slice_set both n 46 in
    let len : length both ≡ n + 7 = grind (arith, common_steps) in
    let len_xs : length xs ≡ n + 7 = length-set both n 46 ∙ len in
    let all : List ℕ = put_mid (n + 1) (length xs - (n + 1)) xs check in
    let front : take (n + 7) all ≡ take (n + 1) xs ++ check = take-put_mid (n + 1) (length xs - (n + 1)) xs check (n + 7) (omega (arith, lc)) (omega (arith, len_xs)) in
    let behind : drop (n + 7) all ≡ drop (n + 7) xs = drop-put_mid (n + 1) (length xs - (n + 1)) xs check (n + 7) (omega (arith, len_xs)) (omega (arith, len_xs)) (omega (arith, len_xs, lc)) in
    let none : drop (n + 7) xs ≡ [] = grind (arith, common_steps, len_xs) in
    let data_dot : take (n + 1) xs ≡ a ++ 46 ∷ [] = take_more_set both n 46 (omega (arith, len)) ∙ ap (λ (t : List ℕ). t ++ 46 ∷ []) (take_at a (drop n room) n la) in
    sym (take-append-drop (n + 7) all) ∙ ap (λ (t : List ℕ). t ++ drop (n + 7) all) (front ∙ ap (λ (t : List ℕ). t ++ check) data_dot)
    ∙ ap (λ (t : List ℕ). ((a ++ 46 ∷ []) ++ check) ++ t) (behind ∙ none) ∙ append-nil ((a ++ 46 ∷ []) ++ check) ∙ append_assoc a (46 ∷ []) check

-- ---- which they are

-- Lists that end in lists of one length.
pub same_cut : (a b x y : List ℕ) → length x ≡ length y → a ++ x ≡ b ++ y → (a ≡ b) × (x ≡ y)
same_cut [] [] x y l e = (refl, e)
same_cut [] (d ∷ b) x y l e = absurd (omega (arith, ap length e, length-append (d ∷ b) y))
same_cut (c ∷ a) [] x y l e = absurd (omega (arith, ap length e, length-append (c ∷ a) x))
same_cut (c ∷ a) (d ∷ b) x y l e =
    let first : c ≡ d = cc e in
    let more : a ++ x ≡ b ++ y = cc e in
    let rest = same_cut a b x y l more in (cc (first, rest.0), rest.1)

decodes : (bytes : List ℕ) → IsBytes bytes → decode_of url_safe_no_pad (letters bytes) ≡ Ok bytes
unfolding letters
decodes bytes are = decode_of-encode_of url_safe_no_pad bytes consistent are

-- Letters are those of one string of bytes.
pub one_letters : (a b : List ℕ) → IsBytes a → IsBytes b → letters a ≡ letters b → a ≡ b
one_letters a b p q same =
    let ok : ◌≡◌ {A = Result (List ℕ) DecodeError} (Ok a) (Ok b) = sym (decodes a p) ∙ ap (decode_of url_safe_no_pad) same ∙ decodes b q in
    cc ok

-- A text that ends in a dot and six letters tells its data and its check.
pub text_cut : (front check bytes : List ℕ) → length check ≡ 6 → front ++ 46 ∷ check ≡ header_text bytes → (front ≡ letters bytes) × (check ≡ check_letters bytes)
text_cut front check bytes six is =
    let parts = same_cut front (letters bytes) (46 ∷ check) (46 ∷ check_letters bytes) (omega (arith, length_check bytes)) is in
    let rest : check ≡ check_letters bytes = cc parts.1 in
    (parts.0, rest)

pub one_text : (a b : List ℕ) → IsBytes a → IsBytes b → header_text a ≡ header_text b → a ≡ b
one_text a b p q same = one_letters a b p q (text_cut (letters a) (check_letters a) b (length_check a) same).0

-- ---- their bytes

-- The byte is no space, tabulator, comma or dot.
abbrev pub is_plain : ℕ → Bool
is_plain byte = nat_lt byte 9 || nat_lt 46 byte || (byte == 45)

abbrev pub ArePlain : List ℕ → Type 0
ArePlain bytes = All (λ byte. is_plain byte ≡ true) bytes

abbrev symbols : List ℕ
symbols = engine_symbols url_safe_no_pad

symbols_plain : all_below (λ i. is_plain (slice_index symbols i)) 64 ≡ true
symbols_plain = refl

symbol_plain : (i : ℕ) → is_plain (slice_index symbols i) ≡ true
symbol_plain i = elim (cases_lt i 64) [
  | inl within ↦ all_below_at (λ k. is_plain (slice_index symbols k)) 64 i symbols_plain within
  | inr past ↦ ap is_plain (get_or_past symbols i 0 past)
]

one_plain : (i : ℕ) → ArePlain (slice_index symbols i ∷ [])
one_plain i = All-cons (λ byte. is_plain byte ≡ true) _ [] (symbol_plain i) (All-nil (λ byte. is_plain byte ≡ true))

two_plain : (i j : ℕ) → ArePlain (slice_index symbols i ∷ slice_index symbols j ∷ [])
two_plain i j = All-cons (λ byte. is_plain byte ≡ true) _ (slice_index symbols j ∷ []) (symbol_plain i) (one_plain j)

three_plain : (i j k : ℕ) → ArePlain (slice_index symbols i ∷ slice_index symbols j ∷ slice_index symbols k ∷ [])
three_plain i j k = All-cons (λ byte. is_plain byte ≡ true) _ (slice_index symbols j ∷ slice_index symbols k ∷ []) (symbol_plain i) (two_plain j k)

group_plain : (a b c : ℕ) → ArePlain (encode_group symbols a b c)
group_plain a b c =
    All-cons (λ byte. is_plain byte ≡ true) _ (slice_index symbols (a % 4 * 16 + b / 16) ∷ slice_index symbols (b % 16 * 4 + c / 64) ∷ slice_index symbols (c % 64) ∷ [])
    (symbol_plain (a / 4)) (three_plain (a % 4 * 16 + b / 16) (b % 16 * 4 + c / 64) (c % 64))

encoded_plain : (bytes : List ℕ) → ArePlain (encode_symbols symbols bytes)
unfolding encode_symbols
encoded_plain [] = All-nil (λ byte. is_plain byte ≡ true)
encoded_plain (a ∷ []) = two_plain (a / 4) (a % 4 * 16)
encoded_plain (a ∷ b ∷ []) = three_plain (a / 4) (a % 4 * 16 + b / 16) (b % 16 * 4)
encoded_plain (a ∷ b ∷ c ∷ rest) = All-append (λ byte. is_plain byte ≡ true) (encode_group symbols a b c) (encode_symbols symbols rest) (group_plain a b c) (encoded_plain rest)

pub letters_plain : (bytes : List ℕ) → ArePlain (letters bytes)
unfolding letters
letters_plain bytes = subst ArePlain (sym (append-nil (encode_symbols symbols bytes))) (encoded_plain bytes)

pub check_plain : (bytes : List ℕ) → ArePlain (check_letters bytes)
unfolding check_letters
check_plain bytes = letters_plain (to_be_bytes w32 (crc32 bytes))

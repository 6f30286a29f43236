-- Texts as parts of a value, and texts that were cut off.
use Rattle.std.proofs.Common.{◌≡◌, ℕ, ◌+◌, ◌-◌, ◌<◌, ◌==◌, ◌||◌, true, false, List, [], ◌∷◌, length, get_or, take, drop, refl, sym, ◌∙◌, ap, subst, arith}
use Rattle.std.specs.Prelude.{◌≢◌, reverse}
use Rattle.std.specs.List.{All}
use Rattle.std.proofs.lemmas.Bool.{ne_eqb}
use Rattle.std.proofs.lemmas.Grind.{common_steps}
use Rattle.std.proofs.lemmas.List.{get_or-take, get_or_append_left, get_or-append_right, length-append, length-take-le, get_or-reverse, length-reverse}
use Rattle.std.proofs.lemmas.List.Elements.{All-cons, All-append, All-get_or, All-from_get_or, All-weaker}
use Rattle.header_text.specs.Parts.{is_space, blanks_before, parts_of, without_blanks, without_leading, without_trailing}
use Rattle.header_text.specs.Texts.{check_letters, header_text, letters}
use Rattle.header_text.proofs.Letters.{is_plain, letters_plain, check_plain, length_check}
use Rattle.header_text.proofs.Separated.{IsFree, only_part}

-- ---- a text is one part

-- A byte of a text is a plain one or a dot.
abbrev IsOfText : ℕ → Type 0
IsOfText byte = (is_plain byte || (byte == 46)) ≡ true

plain_of_text : (byte : ℕ) → is_plain byte ≡ true → IsOfText byte
plain_of_text byte plain = ap (λ b. b || (byte == 46)) plain

of_text : (bytes : List ℕ) → All IsOfText (header_text bytes)
of_text bytes =
    All-append IsOfText (letters bytes) (46 ∷ check_letters bytes) (All-weaker (λ byte. is_plain byte ≡ true) IsOfText plain_of_text (letters bytes) (letters_plain bytes))
    (All-cons IsOfText 46 (check_letters bytes) refl (All-weaker (λ byte. is_plain byte ≡ true) IsOfText plain_of_text (check_letters bytes) (check_plain bytes)))

-- No byte of a text is this one, which is neither plain nor a dot.
other_byte : (byte bad : ℕ) → IsOfText byte → (is_plain bad || (bad == 46)) ≡ false → byte ≢ bad
other_byte byte bad of none is =
    let clash : true ≡ false = sym of ∙ ap (λ b. is_plain b || (b == 46)) is ∙ none in cc clash

no_comma : (bytes : List ℕ) → IsFree (header_text bytes)
no_comma bytes =
    All-weaker IsOfText (λ byte. (byte == 44) ≡ false) (λ byte of. ne_eqb byte 44 (other_byte byte 44 of refl)) (header_text bytes) (of_text bytes)

not_blank : (byte : ℕ) → IsOfText byte → is_space byte ≡ false
not_blank byte of =
    let space = ne_eqb byte 32 (other_byte byte 32 of refl) in
    let tab = ne_eqb byte 9 (other_byte byte 9 of refl) in
    ap (λ b. b || (byte == 9)) space ∙ tab

-- Bytes that begin with none have no blanks before.
none_before : (bytes : List ℕ) → All IsOfText bytes → blanks_before bytes ≡ 0
none_before [] of = refl
none_before (byte ∷ bytes) of =
    let first = not_blank byte (All-get_or IsOfText (byte ∷ bytes) 0 0 (omega arith) of) in
    rw first refl

reversed : (bytes : List ℕ) → All IsOfText bytes → All IsOfText (reverse bytes)
reversed bytes of =
    All-from_get_or IsOfText (reverse bytes) 0 (λ i less.
    let within : i < length bytes = omega (arith, less, length-reverse bytes) in
    subst IsOfText (sym (get_or-reverse bytes i 0 within)) (All-get_or IsOfText bytes (length bytes - 1 - i) 0 (omega (arith, within)) of))

unchanged : (bytes : List ℕ) → All IsOfText bytes → without_blanks bytes ≡ bytes
unchanged bytes of =
    let before : without_leading bytes ≡ bytes = ap (λ n. drop n bytes) (none_before bytes of) in
    let behind : without_trailing bytes ≡ bytes = ap (λ n. take (length bytes - n) bytes) (none_before (reverse bytes) (reversed bytes of)) ∙ whole in
    ap without_trailing before ∙ behind
  where
    whole : take (length bytes - 0) bytes ≡ bytes
    whole = grind (arith, common_steps)

pub text_alone : (bytes : List ℕ) → parts_of (header_text bytes) ≡ header_text bytes ∷ []
text_alone bytes = only_part (header_text bytes) (no_comma bytes) ∙ ap (λ (part : List ℕ). part ∷ []) (unchanged (header_text bytes) (of_text bytes))

-- ---- a text that was cut off

dot_there : (bytes : List ℕ) → get_or (header_text bytes) (length (letters bytes)) 0 ≡ 46
dot_there bytes =
    let there = get_or-append_right (letters bytes) (46 ∷ check_letters bytes) (length (letters bytes)) (length (letters bytes)) 0 refl (omega arith) in
    there ∙ ap (λ n. get_or (46 ∷ check_letters bytes) n 0) same
  where
    same : length (letters bytes) - length (letters bytes) ≡ 0
    same = omega arith

-- A text that was cut off is none.
pub cut_is_none : (bytes other : List ℕ) (n : ℕ) → n < length (header_text bytes) → take n (header_text bytes) ≡ header_text other → ⊥
cut_is_none bytes other n less is =
    let text = header_text bytes in
    let at = length (letters other) in
    let len : n ≡ at + 7 = omega (arith, sym (length-take-le n text (omega (arith, less))) ∙ ap length is, length-append (letters other) (46 ∷ check_letters other), length_check other) in
    let within : at < length (letters bytes) = omega (arith, less, len, length-append (letters bytes) (46 ∷ check_letters bytes), length_check bytes) in
    let here : get_or text at 0 ≡ 46 = sym (get_or-take n text at 0 (omega (arith, len))) ∙ ap (λ (t : List ℕ). get_or t at 0) is ∙ dot_there other in
    let letter : get_or (letters bytes) at 0 ≡ 46 = sym (get_or_append_left (letters bytes) (46 ∷ check_letters bytes) 0 at within) ∙ here in
    let plain : is_plain (get_or (letters bytes) at 0) ≡ true = All-get_or (λ byte. is_plain byte ≡ true) (letters bytes) at 0 within (letters_plain bytes) in
    let clash : true ≡ false = sym plain ∙ ap is_plain letter in
    cc clash

-- A text begins with one literal of a word.
use Rattle.std.proofs.Common.{◌≡◌, ◌⊎◌, ℕ, suc, ◌^◌, ◌<◌, ◌≤◌, ◌==◌, ◌||◌, Bool, true, false, List, [], ◌∷◌, ◌++◌, codes, inl, inr, refl, sym, ap, ◌∙◌, subst, ℤ, pos, negsuc, FitsSigned, Ok, arith}
use Rattle.std.specs.Fmt.{decimal, signed_decimal}
use Rattle.std.specs.Int.{w64}
use Rattle.std.specs.List.{AllByRecursion}
use Rattle.std.specs.Str.Parse.{AllDigits}
use Rattle.std.proofs.lemmas.Bool.{eqb-true, false_from_ne_true}
use Rattle.std.proofs.lemmas.Int.{ints}
use Rattle.std.proofs.lemmas.Fmt.{decimal_injective, decimal_is_IsNumeral}
use Rattle.std.proofs.lemmas.List.{append_cancel_left}
use Rattle.std.proofs.lemmas.List.Elements.{recursion_from_All}
use Rattle.std.proofs.lemmas.Str.Parse.{digit_from_value}
use Rattle.hex.specs.Hex.{decode_of, is_hex_digit}
use Rattle.hex.proofs.HexLemmas.{decode_of-ok, decode_of-same}
use Rattle.bag_model.specs.declared.words.ScalarWord.TheVariants.{Str}
use Rattle.bag_model.specs.Scalars as scalars
use Rattle.bag_model.specs.Scalars.{Word, Plain, Truth, Signed, Unsigned, Text, Octets, SpellingForm, TruthByte, UnsignedVarint, SignedVarint, FixedBytes, SignedFixedBytes, TextBytes, RawBytes, IsOfForm, IsPlainOf, spelling_form_of, plain_rank}
use Rattle.text_model.specs.ScalarTexts.{truth_text}
use Rattle.field_writes.specs.Literals.{IsPlainText}
use Rattle.field_writes.specs.Ends.{is_stop, IsNoStop, IsEnd, BeginsWithOne}
use Rattle.field_writes.proofs.Decimals.{no_minus}
use Rattle.field_writes.proofs.Quoted.{InsideThen, inside_apart}

-- ---- bytes at which a literal ends

one_of_three : (a b c : Bool) → (a || b || c) ≡ true → (a ≡ true) ⊎ ((b ≡ true) ⊎ (c ≡ true))
one_of_three true b c e = inl refl
one_of_three false true c e = inr (inl refl)
one_of_three false false true e = inr (inr refl)
one_of_three false false false e = cc e

stop_is : (byte : ℕ) → is_stop byte ≡ true → (byte ≡ 44) ⊎ ((byte ≡ 58) ⊎ (byte ≡ 41))
stop_is byte e =
    elim (one_of_three (byte == 44) (byte == 58) (byte == 41) e) [
      | inl h ↦ inl (eqb-true byte 44 h)
      | inr w ↦ (elim w [ inl h ↦ inr (inl (eqb-true byte 58 h)) | inr h ↦ inr (inr (eqb-true byte 41 h)) ])
    ]

digit_inside : (byte : ℕ) → 48 ≤ byte → byte ≤ 57 → IsNoStop byte
digit_inside byte low high =
    false_from_ne_true (is_stop byte) (λ e. elim (stop_is byte e) [
      | inl h ↦ omega (arith, h)
      | inr w ↦ (elim w [ inl h ↦ omega (arith, h) | inr h ↦ omega (arith, h) ])
    ])

hex_inside : (byte : ℕ) → is_hex_digit byte ≡ true → IsNoStop byte
hex_inside byte digit =
    false_from_ne_true (is_stop byte) (λ e. elim (stop_is byte e) [
      | inl h ↦ (let computed : false ≡ true = sym (ap is_hex_digit h) ∙ digit in cc computed)
      | inr w ↦ (elim w [
        | inl h ↦ (let computed : false ≡ true = sym (ap is_hex_digit h) ∙ digit in cc computed)
        | inr h ↦ (let computed : false ≡ true = sym (ap is_hex_digit h) ∙ digit in cc computed)
      ])
    ])

abbrev pub AreInside : List ℕ → Type 0
AreInside bytes = AllByRecursion IsNoStop bytes

digits_inside : (bytes : List ℕ) → AllDigits 10 bytes → AreInside bytes
digits_inside [] all = tt
digits_inside (byte ∷ bytes) all =
    let range = digit_from_value byte all.0 in (digit_inside byte range.0 range.1, digits_inside bytes all.1)

hexes_inside : (bytes : List ℕ) → AllByRecursion (λ byte. is_hex_digit byte ≡ true) bytes → AreInside bytes
hexes_inside [] all = tt
hexes_inside (byte ∷ bytes) all = (hex_inside byte all.0, hexes_inside bytes all.1)

-- A text is cut in one way before the first byte at which a literal ends.
pub stops_apart : (xs ys s r : List ℕ) → AreInside xs → AreInside ys → IsEnd s → IsEnd r → xs ++ s ≡ ys ++ r → (xs ≡ ys) × (s ≡ r)
stops_apart [] [] s r p q ends other e = (refl, e)
stops_apart [] (y ∷ ys) s r p q ends other e =
    let stops : is_stop y ≡ true = subst IsEnd e ends in let bad : true ≡ false = sym stops ∙ q.0 in cc bad
stops_apart (x ∷ xs) [] s r p q ends other e =
    let stops : is_stop x ≡ true = subst IsEnd (sym e) other in let bad : true ≡ false = sym stops ∙ p.0 in cc bad
stops_apart (x ∷ xs) (y ∷ ys) s r p q ends other e =
    let first : x ≡ y = cc e in
    let rest : xs ++ s ≡ ys ++ r = cc e in
    let more = stops_apart xs ys s r p.1 q.1 ends other rest in
    (λ i. first i ∷ more.0 i, more.1)

pub fronts_apart : (f g text s r : List ℕ) → AreInside f → AreInside g → text ≡ f ++ s → text ≡ g ++ r → IsEnd s → IsEnd r → (f ≡ g) × (s ≡ r)
fronts_apart f g text s r p q e h ends other = stops_apart f g s r p q ends other (sym e ∙ h)

-- ---- what a text says

truth_inside : (truth : Bool) → AreInside (truth_text truth)
truth_inside true = (refl, (refl, (refl, (refl, tt))))
truth_inside false = (refl, (refl, (refl, (refl, (refl, tt)))))

decimal_inside : (n : ℕ) → n < 2 ^ 64 → AreInside (decimal n)
decimal_inside n small = digits_inside (decimal n) (decimal_is_IsNumeral n small).0.1

signed_inside : (z : ℤ) → FitsSigned w64 z → AreInside (signed_decimal z)
signed_inside (pos n) fits = decimal_inside n (omega (arith, ints))
signed_inside (negsuc n) fits = (refl, decimal_inside (suc n) (omega (arith, ints)))

octets_inside : (digits bytes : List ℕ) → decode_of digits ≡ Ok bytes → AreInside (codes "0x" ++ digits)
octets_inside digits bytes e = (refl, (refl, hexes_inside digits (recursion_from_All (λ byte. is_hex_digit byte ≡ true) digits (decode_of-ok digits bytes e).1)))

pub truth_one : (a b : Bool) → truth_text a ≡ truth_text b → a ≡ b
truth_one true true e = refl
truth_one false false e = refl
truth_one true false e = let bad : ◌≡◌ {A = ℕ} 116 102 = cc e in absurd (omega (arith, bad))
truth_one false true e = let bad : ◌≡◌ {A = ℕ} 102 116 = cc e in absurd (omega (arith, bad))

pub signed_one : (y z : ℤ) → FitsSigned w64 y → FitsSigned w64 z → signed_decimal y ≡ signed_decimal z → y ≡ z
signed_one (pos m) (pos n) f g e = ap pos (decimal_injective m n (omega (arith, ints)) (omega (arith, ints)) e)
signed_one (pos m) (negsuc n) f g e = absurd (no_minus m (decimal (suc n)) (omega (arith, ints)) e)
signed_one (negsuc m) (pos n) f g e = absurd (no_minus n (decimal (suc m)) (omega (arith, ints)) (sym e))
signed_one (negsuc m) (negsuc n) f g e =
    let tail : decimal (suc m) ≡ decimal (suc n) = cc e in
    let same : suc m ≡ suc n = decimal_injective (suc m) (suc n) (omega (arith, ints)) (omega (arith, ints)) tail in
    let below : m ≡ n = omega (arith, same) in
    ap negsuc below

-- ---- values of one word

abbrev pub form_rank : SpellingForm → ℕ
form_rank TruthByte = 0
form_rank (UnsignedVarint wide) = 2
form_rank (SignedVarint wide) = 1
form_rank (FixedBytes wide) = 2
form_rank (SignedFixedBytes wide) = 1
form_rank TextBytes = 3
form_rank RawBytes = 4

pub rank_is : (form : SpellingForm) (v : Plain) → IsOfForm form v → plain_rank v ≡ form_rank form
rank_is TruthByte (Truth b) p = refl
rank_is (UnsignedVarint wide) (Unsigned n) p = refl
rank_is (SignedVarint wide) (Signed z) p = refl
rank_is (FixedBytes wide) (Unsigned n) p = refl
rank_is (SignedFixedBytes wide) (Signed z) p = refl
rank_is TextBytes (Text bs) p = refl
rank_is RawBytes (Octets bs) p = refl
rank_is _ _ p = absurd p

-- Two values of a word are of one rank.
pub one_rank : (word : Word) (v w : Plain) → IsPlainOf word v → IsPlainOf word w → plain_rank v ≡ plain_rank w
one_rank word v w p q = rank_is (spelling_form_of word) v p ∙ sym (rank_is (spelling_form_of word) w q)

pub signed_fits : (form : SpellingForm) (z : ℤ) → IsOfForm form (Signed z) → FitsSigned w64 z
signed_fits (SignedVarint false) (pos n) p = record { sfits = omega (arith, ints) }
signed_fits (SignedVarint false) (negsuc n) p = record { sfits = omega (arith, ints) }
signed_fits (SignedVarint true) z p = p
signed_fits (SignedFixedBytes false) (pos n) p = record { sfits = omega (arith, ints) }
signed_fits (SignedFixedBytes false) (negsuc n) p = record { sfits = omega (arith, ints) }
signed_fits (SignedFixedBytes true) z p = p
signed_fits _ z p = absurd p

pub unsigned_fits : (form : SpellingForm) (n : ℕ) → IsOfForm form (Unsigned n) → n < 2 ^ 64
unsigned_fits (UnsignedVarint false) n p = omega arith
unsigned_fits (UnsignedVarint true) n p = p
unsigned_fits (FixedBytes false) n p = omega arith
unsigned_fits (FixedBytes true) n p = p
unsigned_fits _ n p = absurd p

-- The text is a literal of the word for this value.
abbrev pub IsWordText : Word → Plain → List ℕ → Type 0
IsWordText word v front = IsPlainOf word v × IsPlainText v front

-- What a quotation mark and the rest of a string's text say.
pub string_then : (bytes front rest text : List ℕ) → IsPlainText (Text bytes) front → text ≡ front ++ rest
    → (tail : List ℕ) × (text ≡ 34 ∷ tail) × InsideThen bytes rest tail
string_then bytes front rest text p e =
    ((p.0 ++ 34 ∷ []) ++ rest, e ∙ ap (λ l. l ++ rest) p.2, (p.0, p.1, refl))

pub word_apart : (word : Word) (v w : Plain) (text s r : List ℕ) → BeginsWithOne (IsWordText word v) text s → BeginsWithOne (IsWordText word w) text r → (v ≡ w) × (s ≡ r)
word_apart word (Truth a) (Truth b) text s r p q =
    let cut = fronts_apart (truth_text a) (truth_text b) text s r (truth_inside a) (truth_inside b) (p.same ∙ ap (λ l. l ++ s) p.fact.1) (q.same ∙ ap (λ l. l ++ r) q.fact.1) p.end q.end in
    (ap Truth (truth_one a b cut.0), cut.1)
word_apart word (Signed y) (Signed z) text s r p q =
    let f = signed_fits (spelling_form_of word) y p.fact.0 in
    let g = signed_fits (spelling_form_of word) z q.fact.0 in
    let cut = fronts_apart (signed_decimal y) (signed_decimal z) text s r (signed_inside y f) (signed_inside z g) (p.same ∙ ap (λ l. l ++ s) p.fact.1) (q.same ∙ ap (λ l. l ++ r) q.fact.1) p.end q.end in
    (ap Signed (signed_one y z f g cut.0), cut.1)
word_apart word (Unsigned m) (Unsigned n) text s r p q =
    let f = unsigned_fits (spelling_form_of word) m p.fact.0 in
    let g = unsigned_fits (spelling_form_of word) n q.fact.0 in
    let cut = fronts_apart (decimal m) (decimal n) text s r (decimal_inside m f) (decimal_inside n g) (p.same ∙ ap (λ l. l ++ s) p.fact.1) (q.same ∙ ap (λ l. l ++ r) q.fact.1) p.end q.end in
    (ap Unsigned (decimal_injective m n f g cut.0), cut.1)
word_apart word (Text a) (Text b) text s r p q =
    let one = string_then a p.front s text p.fact.1 p.same in
    let two = string_then b q.front r text q.fact.1 q.same in
    let e : 34 ∷ two.0 ≡ 34 ∷ one.0 = sym two.1 ∙ one.1 in
    let tails : two.0 ≡ one.0 = cc e in
    let same = inside_apart a b s r one.0 one.2 (subst (InsideThen b r) tails two.2) in
    (ap Text same.0, same.1)
word_apart word (Octets a) (Octets b) text s r p q =
    let f = p.fact.1 in
    let g = q.fact.1 in
    let cut = fronts_apart (codes "0x" ++ f.0) (codes "0x" ++ g.0) text s r (octets_inside f.0 a f.2) (octets_inside g.0 b g.2) (p.same ∙ ap (λ l. l ++ s) f.1) (q.same ∙ ap (λ l. l ++ r) g.1) p.end q.end in
    let digits : f.0 ≡ g.0 = append_cancel_left (codes "0x") f.0 g.0 cut.0 in
    (ap Octets (decode_of-same g.0 a b (ap decode_of (sym digits) ∙ f.2) g.2), cut.1)
word_apart word v w text s r p q = absurd (omega (arith, one_rank word v w p.fact.0 q.fact.0))

-- ---- texts of words that are no strings

text_word : (word : Word) (bytes : List ℕ) → IsPlainOf word (Text bytes) → word ≡ Str
text_word Str bytes p = refl
text_word _ bytes p = absurd p

-- They have no byte at which a literal ends.
pub word_inside : (word : Word) (v : Plain) (front : List ℕ) → (word ≡ Str → ⊥) → IsWordText word v front → AreInside front
word_inside word (Truth b) front other p = subst AreInside (sym p.1) (truth_inside b)
word_inside word (Signed z) front other p = subst AreInside (sym p.1) (signed_inside z (signed_fits (spelling_form_of word) z p.0))
word_inside word (Unsigned n) front other p = subst AreInside (sym p.1) (decimal_inside n (unsigned_fits (spelling_form_of word) n p.0))
word_inside word (Text bytes) front other p = absurd (other (text_word word bytes p.0))
word_inside word (Octets bytes) front other p = subst AreInside (sym p.1.1) (octets_inside p.1.0 bytes p.1.2)

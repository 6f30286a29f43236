-- The longest token at a place is the one after whose run another kind of byte follows.
use Rattle.std.proofs.Common.{◌≡◌, ℕ, ◌≤◌, true, ◌||◌, List, [], ◌∷◌, ◌++◌, length, refl, sym, ap, ◌∙◌, arith, length-append, append_assoc}
use Rattle.std.specs.Char.{is_ascii_digit}
use Rattle.std.specs.List.{AllPass}
use Rattle.std.proofs.lemmas.List.Elements.{All-head, All-cons, All-same}
use Rattle.bdl_lexer.specs.declared.TokenClass.{TokenClass}
use Rattle.bdl_lexer.specs.declared.TokenClass.TheVariants.{Word, Number, Text, Sign}
use Rattle.bdl_lexer.specs.Bytes.{is_letter, is_word_byte, is_text_byte}
use Rattle.bdl_lexer.specs.Scan.{IsWordToken, IsNumberToken, IsText, IsSign, HasTokenForm, IsLongest}
use Rattle.bdl_lexer.proofs.Runs.{StopsAt, run_longest}
use Rattle.bdl_lexer.proofs.FirstBytes.{kind_of, kind_letter, kind_digit, kind_sign}

-- there is a first byte, of this kind
pub record Starts (kind : ℕ) (text : List ℕ) : Type 0 where
  pub byte : ℕ
  pub more : List ℕ
  pub is : text ≡ byte ∷ more
  pub kind_is : kind_of byte ≡ kind

-- two texts at one place are of one kind
pub same_kind : (k l : ℕ) (a b x y : List ℕ) → Starts k a → Starts l b → a ++ x ≡ b ++ y → k ≡ l
same_kind k l a b x y p q e =
    let heads : p.byte ∷ (p.more ++ x) ≡ q.byte ∷ (q.more ++ y) = (λ i. (sym p.is i) ++ x) ∙ e ∙ (λ i. (q.is i) ++ y) in
    let same : p.byte ≡ q.byte = cc in
    sym p.kind_is ∙ ap kind_of same ∙ q.kind_is

abbrev pub class_kind : TokenClass → ℕ
class_kind Word = 1
class_kind (Number _) = 2
class_kind Text = 3
class_kind (Sign _) = 4

number_starts : (value : ℕ) (text : List ℕ) → IsNumberToken value text → Starts 2 text
number_starts value [] form = absurd (omega (arith, form.nonempty))
number_starts value (b ∷ more) form =
    record { byte = b; more = more; is = refl; kind_is = kind_digit b (All-head (λ b. is_ascii_digit b ≡ true) b more form.each) }

pub form_starts : (class : TokenClass) (text : List ℕ) → HasTokenForm class text → Starts (class_kind class) text
form_starts Word text form =
    record { byte = form.first; more = form.more; is = form.is; kind_is = kind_letter form.first form.letter }
form_starts (Number value) text form = number_starts value text form
form_starts Text text form = record { byte = 34; more = form.inner ++ 34 ∷ []; is = form.is; kind_is = refl }
form_starts (Sign byte) text form = record { byte = byte; more = []; is = form.is; kind_is = kind_sign byte form.sign }

-- tokens of two kinds don't begin at one place
apart : (k l : ℕ) (a b x y : List ℕ) → Starts k a → Starts l b → a ++ x ≡ b ++ y → (k ≡ l → ⊥) → length b ≤ length a
apart k l a b x y p q e differ = absurd (differ (same_kind k l a b x y p q e))

pub letter_in_word : (b : ℕ) → is_letter b ≡ true → is_word_byte b ≡ true
letter_in_word b e = ap (λ v. v || is_ascii_digit b) e

pub word_bytes : (text : List ℕ) → IsWordToken text → AllPass is_word_byte text
word_bytes text form =
    All-same (λ b. is_word_byte b ≡ true) text (form.first ∷ form.more) form.is
    (All-cons (λ b. is_word_byte b ≡ true) form.first form.more (letter_in_word form.first form.letter) form.each)

word_no_longer : (text rest : List ℕ) → IsWordToken text → StopsAt is_word_byte rest → (other : TokenClass) (longer after : List ℕ) → text ++ rest ≡ longer ++ after → HasTokenForm other longer → length longer ≤ length text
word_no_longer text rest form stops Word longer after e it = run_longest is_word_byte text longer rest after e stops (word_bytes longer it)
word_no_longer text rest form stops (Number v) longer after e it =
    apart 1 2 text longer rest after (form_starts Word text form) (form_starts (Number v) longer it) e (λ (q : 1 ≡ 2). omega arith)
word_no_longer text rest form stops Text longer after e it =
    apart 1 3 text longer rest after (form_starts Word text form) (form_starts Text longer it) e (λ (q : 1 ≡ 3). omega arith)
word_no_longer text rest form stops (Sign b) longer after e it =
    apart 1 4 text longer rest after (form_starts Word text form) (form_starts (Sign b) longer it) e (λ (q : 1 ≡ 4). omega arith)

number_no_longer : (value : ℕ) (text rest : List ℕ) → IsNumberToken value text → StopsAt is_ascii_digit rest → (other : TokenClass) (longer after : List ℕ) → text ++ rest ≡ longer ++ after → HasTokenForm other longer → length longer ≤ length text
number_no_longer value text rest form stops Word longer after e it =
    apart 2 1 text longer rest after (form_starts (Number value) text form) (form_starts Word longer it) e (λ (q : 2 ≡ 1). omega arith)
number_no_longer value text rest form stops (Number v) longer after e it = run_longest is_ascii_digit text longer rest after e stops it.each
number_no_longer value text rest form stops Text longer after e it =
    apart 2 3 text longer rest after (form_starts (Number value) text form) (form_starts Text longer it) e (λ (q : 2 ≡ 3). omega arith)
number_no_longer value text rest form stops (Sign b) longer after e it =
    apart 2 4 text longer rest after (form_starts (Number value) text form) (form_starts (Sign b) longer it) e (λ (q : 2 ≡ 4). omega arith)

-- the bytes between two quotes, and the second of them
pub inner_same : (text longer rest after inner other : List ℕ) → text ≡ 34 ∷ (inner ++ 34 ∷ []) → longer ≡ 34 ∷ (other ++ 34 ∷ []) → text ++ rest ≡ longer ++ after → inner ++ (34 ∷ rest) ≡ other ++ (34 ∷ after)
inner_same text longer rest after inner other p q e =
    let both : 34 ∷ ((inner ++ 34 ∷ []) ++ rest) ≡ 34 ∷ ((other ++ 34 ∷ []) ++ after) = (λ i. (sym p i) ++ rest) ∙ e ∙ (λ i. (q i) ++ after) in
    let tails : (inner ++ 34 ∷ []) ++ rest ≡ (other ++ 34 ∷ []) ++ after = cc in
    sym (append_assoc inner (34 ∷ []) rest) ∙ tails ∙ append_assoc other (34 ∷ []) after

text_no_longer : (text rest : List ℕ) → IsText text → (other : TokenClass) (longer after : List ℕ) → text ++ rest ≡ longer ++ after → HasTokenForm other longer → length longer ≤ length text
text_no_longer text rest form Word longer after e it =
    apart 3 1 text longer rest after (form_starts Text text form) (form_starts Word longer it) e (λ (q : 3 ≡ 1). omega arith)
text_no_longer text rest form (Number v) longer after e it =
    apart 3 2 text longer rest after (form_starts Text text form) (form_starts (Number v) longer it) e (λ (q : 3 ≡ 2). omega arith)
text_no_longer text rest form Text longer after e it =
    let shorter = run_longest is_text_byte form.inner it.inner (34 ∷ rest) (34 ∷ after) (inner_same text longer rest after form.inner it.inner form.is it.is e) refl it.each in
    omega (arith, ap length form.is, ap length it.is, length-append form.inner (34 ∷ []), length-append it.inner (34 ∷ []))
text_no_longer text rest form (Sign b) longer after e it =
    apart 3 4 text longer rest after (form_starts Text text form) (form_starts (Sign b) longer it) e (λ (q : 3 ≡ 4). omega arith)

sign_no_longer : (byte : ℕ) (text rest : List ℕ) → IsSign byte text → (other : TokenClass) (longer after : List ℕ) → text ++ rest ≡ longer ++ after → HasTokenForm other longer → length longer ≤ length text
sign_no_longer byte text rest form Word longer after e it =
    apart 4 1 text longer rest after (form_starts (Sign byte) text form) (form_starts Word longer it) e (λ (q : 4 ≡ 1). omega arith)
sign_no_longer byte text rest form (Number v) longer after e it =
    apart 4 2 text longer rest after (form_starts (Sign byte) text form) (form_starts (Number v) longer it) e (λ (q : 4 ≡ 2). omega arith)
sign_no_longer byte text rest form Text longer after e it =
    apart 4 3 text longer rest after (form_starts (Sign byte) text form) (form_starts Text longer it) e (λ (q : 4 ≡ 3). omega arith)
sign_no_longer byte text rest form (Sign b) longer after e it = omega (arith, ap length form.is, ap length it.is)

pub word_longest : (text rest : List ℕ) → IsWordToken text → StopsAt is_word_byte rest → IsLongest Word text rest
word_longest text rest form stops = record { form = form; longest = word_no_longer text rest form stops }

pub number_longest : (value : ℕ) (text rest : List ℕ) → IsNumberToken value text → StopsAt is_ascii_digit rest → IsLongest (Number value) text rest
number_longest value text rest form stops = record { form = form; longest = number_no_longer value text rest form stops }

pub text_longest : (text rest : List ℕ) → IsText text → IsLongest Text text rest
text_longest text rest form = record { form = form; longest = text_no_longer text rest form }

pub sign_longest : (byte : ℕ) (text rest : List ℕ) → IsSign byte text → IsLongest (Sign byte) text rest
sign_longest byte text rest form = record { form = form; longest = sign_no_longer byte text rest form }

-- The texts of the scalar words.
use Rattle.std.proofs.Common.{◌≡◌, ℕ, ◌+◌, Bool, true, false, ◌||◌, if◌then◌else◌, Option, Some, None, List, [], ◌∷◌, map, length, drop, get_or, refl, sym, ap, ◌∙◌, arith}
use Rattle.std.specs.List.{list_any}
use Rattle.std.specs.Option.{is_some, option_map}
use Rattle.std.specs.Str.{bytes_eq}
use Rattle.std.proofs.Math.ListN.{drop_of_length-le}
use Rattle.std.proofs.lemmas.List.{drop_more}
use Rattle.std.proofs.lemmas.Slice.Eq.{bytes_eq-Decides}
use Rattle.bag_model.specs.declared.words.ScalarWord.TheVariants.{Bool as Boolean}
use Rattle.bag_model.specs.Scalars.{Word}
use Rattle.bag_model.specs.Words.{Reserved, ScalarWord, reserved_text, reserved_among, word_text, word_among, word_named, scalar_words}

-- Each word is the one with its text.
pub word_back : (word : Word) → word_named (word_text word) ≡ Some word
unfolding word_named
word_back Boolean = refl
word_back word = refl

-- A word's text names the word.
pub text_names : (word : Word) (text : List ℕ) → text ≡ word_text word → Some word ≡ word_named text
text_names word text is = sym (ap word_named is ∙ word_back word)

-- The text has these bytes from this place on.
abbrev pub HasBytes : List ℕ → ℕ → List ℕ → Type 0
HasBytes text at [] = Unit {0}
HasBytes text at (byte ∷ bytes) = (get_or text at 0 ≡ byte) × HasBytes text (at + 1) bytes

bytes_from : (text : List ℕ) (at : ℕ) (bytes : List ℕ) → length text ≡ at + length bytes → HasBytes text at bytes → drop at text ≡ bytes
bytes_from text at [] long has = drop_of_length-le text (omega (arith, long))
bytes_from text at (byte ∷ bytes) long has =
    drop_more text at 0 (omega (arith, long)) ∙ ap (λ first. first ∷ drop (at + 1) text) has.0
    ∙ ap (λ more. byte ∷ more) (bytes_from text (at + 1) bytes (omega (arith, long)) has.1)

-- A text with the bytes of a word names the word.
pub bytes_name : (word : Word) (text : List ℕ) → length text ≡ length (word_text word) → HasBytes text 0 (word_text word) → Some word ≡ word_named text
bytes_name word text long has = text_names word text (bytes_from text 0 (word_text word) (omega (arith, long)) has)

found_text : (text : List ℕ) (other word : Word) (more : Option Word) (same : Bool) → bytes_eq text (word_text other) ≡ same
    → (more ≡ Some word → word_text word ≡ text) → (if same then Some other else more) ≡ Some word → word_text word ≡ text
found_text text other word more true is later e =
    let one : other ≡ word = cc e in
    ap word_text (sym one) ∙ sym ((bytes_eq-Decides text (word_text other)).0 is)
found_text text other word more false is later e = later e

text_among : (text : List ℕ) (words : List Word) (word : Word) → word_among text words ≡ Some word → word_text word ≡ text
text_among text [] word e = absurd (cc e)
text_among text (other ∷ words) word e =
    found_text text other word (word_among text words) (bytes_eq text (word_text other)) refl (text_among text words word) e

-- The word that is found has the text.
pub word_is : (text : List ℕ) (word : Word) → word_named text ≡ Some word → word_text word ≡ text
unfolding word_named
word_is text word e = text_among text scalar_words word e

-- Where none is found the text is no word's.
pub no_word : (text : List ℕ) → word_named text ≡ None → (word : Word) → text ≡ word_text word → ⊥
no_word text none word is = let bad : Some word ≡ None = sym (word_back word) ∙ ap word_named (sym is) ∙ none in cc bad

found_or : (here : Bool) (word : Word) (other : Option Word) → is_some (if here then Some word else other) ≡ (here || is_some other)
found_or true word other = refl
found_or false word other = refl

some_among : (text : List ℕ) (words : List Word) → is_some (word_among text words) ≡ list_any (bytes_eq text) (map word_text words)
some_among text [] = refl
some_among text (word ∷ words) =
    found_or (bytes_eq text (word_text word)) word (word_among text words) ∙ ap (λ b. bytes_eq text (word_text word) || b) (some_among text words)

-- A text is one of the scalar words exactly where there is one with it.
pub scalar_found : (text : List ℕ) → is_some (word_named text) ≡ list_any (bytes_eq text) (map word_text scalar_words)
unfolding word_named
scalar_found text = some_among text scalar_words

reserved_if : (here : Bool) (word : Word) (other : Option Word) → (if here then Some (ScalarWord word) else option_map ScalarWord other) ≡ option_map ScalarWord (if here then Some word else other)
reserved_if true word other = refl
reserved_if false word other = refl

reserved_words_among : (text : List ℕ) (words : List Word) → reserved_among text (map ScalarWord words) ≡ option_map ScalarWord (word_among text words)
reserved_words_among text [] = refl
reserved_words_among text (word ∷ words) =
    ap (λ other. if bytes_eq text (word_text word) then Some (ScalarWord word) else other) (reserved_words_among text words)
    ∙ reserved_if (bytes_eq text (word_text word)) word (word_among text words)

-- The reserved word among those of scalars that has a text is the scalar word with it.
pub reserved_scalar : (text : List ℕ) → reserved_among text (map ScalarWord scalar_words) ≡ option_map ScalarWord (word_named text)
unfolding word_named
reserved_scalar text = reserved_words_among text scalar_words

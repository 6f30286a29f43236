-- Reserved words and their texts.
use Rattle.std.proofs.Common.{◌≡◌, ℕ, Bool, true, false, ◌||◌, if◌then◌else◌, Option, Some, List, [], ◌∷◌, map, refl, sym, ap, ◌∙◌}
use Rattle.std.specs.List.{list_any}
use Rattle.std.specs.Option.{is_some}
use Rattle.std.specs.Str.{bytes_eq}
use Rattle.std.proofs.lemmas.Slice.Eq.{bytes_eq-Decides}
use Rattle.bag_model.specs.declared.words.ScalarWord.TheVariants.{Bool as Boolean}
use Rattle.bag_model.specs.Words.{Reserved, Import, Bag, Struct, Set, Greatest, Map, Counter, Taint, Float, Double, ScalarWord, reserved_text, all_reserved, reserved_words, reserved_among, reserved_of}

-- Each reserved word is the one with its text.
pub reserved_back : (word : Reserved) → reserved_of (reserved_text word) ≡ Some word
unfolding reserved_of
reserved_back Import = refl
reserved_back Bag = refl
reserved_back Struct = refl
reserved_back Set = refl
reserved_back Greatest = refl
reserved_back Map = refl
reserved_back Counter = refl
reserved_back Taint = refl
reserved_back Float = refl
reserved_back Double = refl
reserved_back (ScalarWord Boolean) = refl
reserved_back (ScalarWord word) = refl

found_or : {A : Type 0} (here : Bool) (a : A) (other : Option A) → is_some (if here then Some a else other) ≡ (here || is_some other)
found_or true a other = refl
found_or false a other = refl

some_among : (text : List ℕ) (words : List Reserved) → is_some (reserved_among text words) ≡ list_any (bytes_eq text) (map reserved_text words)
some_among text [] = refl
some_among text (word ∷ words) =
    found_or (bytes_eq text (reserved_text word)) word (reserved_among text words) ∙ ap (λ b. bytes_eq text (reserved_text word) || b) (some_among text words)

-- A text is one of the reserved words exactly where there is one with it.
pub reserved_found : (text : List ℕ) → is_some (reserved_of text) ≡ list_any (bytes_eq text) reserved_words
unfolding reserved_of
reserved_found text = some_among text all_reserved

found_text : (text : List ℕ) (other word : Reserved) (more : Option Reserved) (same : Bool) → bytes_eq text (reserved_text other) ≡ same
    → (more ≡ Some word → reserved_text word ≡ text) → (if same then Some other else more) ≡ Some word → reserved_text word ≡ text
found_text text other word more true is later e =
    let one : other ≡ word = cc e in
    ap reserved_text (sym one) ∙ sym ((bytes_eq-Decides text (reserved_text other)).0 is)
found_text text other word more false is later e = later e

text_among : (text : List ℕ) (words : List Reserved) (word : Reserved) → reserved_among text words ≡ Some word → reserved_text word ≡ text
text_among text [] word e = absurd (cc e)
text_among text (other ∷ words) word e =
    found_text text other word (reserved_among text words) (bytes_eq text (reserved_text other)) refl (text_among text words word) e

-- The reserved word that is found has the text.
pub reserved_is : (text : List ℕ) (word : Reserved) → reserved_of text ≡ Some word → reserved_text word ≡ text
unfolding reserved_of
reserved_is text word e = text_among text all_reserved word e

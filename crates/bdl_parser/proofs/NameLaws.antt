-- Words and names.
use Rattle.std.proofs.Common.{◌≡◌, ℕ, Bool, true, false, ◌&&◌, not, if◌then◌else◌, Option, None, Some, List, refl, sym, ap, subst, ◌∙◌}
use Rattle.std.specs.List.{list_all, list_any}
use Rattle.std.specs.Option.{is_some, option_map}
use Rattle.std.specs.Str.{bytes_eq}
use Rattle.std.proofs.lemmas.List.Sums.{list_all-from_AllPass}
use Rattle.bag_model.specs.Words.{Reserved, reserved_words, reserved_of, is_word, is_name}
use Rattle.bag_model.proofs.WordLaws.{reserved_found}
use Rattle.bdl_lexer.specs.Bytes.{is_letter, is_word_byte}
use Rattle.bdl_lexer.specs.Scan.{IsWordToken}
use Rattle.bdl_parser.specs.declared.words.Reserved.{Reserved as Seen}
use Rattle.bdl_parser.specs.ReservedWords.{in_code}
use Rattle.bdl_parser.specs.Trees.{name}
use Rattle.bdl_parser.specs.Words.{leaf_by, leaf_of}

both_hold : (a b : Bool) → a ≡ true → b ≡ true → (a && b) ≡ true
both_hold a b e f = (cc)

-- the bytes of a word token are a word
pub token_is_word : (text : List ℕ) → IsWordToken text → is_word text ≡ true
token_is_word text w =
    subst (λ (bytes : List ℕ). is_word bytes ≡ true) (sym w.is)
    (both_hold (is_letter w.first) (list_all is_word_byte w.more) w.letter (list_all-from_AllPass is_word_byte w.more w.each))

-- a word is a name where it isn't reserved
pub name_unless_reserved : (text : List ℕ) → is_word text ≡ true → is_name text ≡ not (is_some (reserved_of text))
name_unless_reserved text w =
    ap (λ b. b && not (list_any (bytes_eq text) reserved_words)) w ∙ ap not (sym (reserved_found text))

mapped : (found : Option Reserved) → is_some found ≡ is_some (option_map in_code found)
mapped None = refl
mapped (Some word) = refl

leaf_without : (text : List ℕ) (found : Option Reserved) → reserved_of text ≡ found → is_some found ≡ false → is_word text ≡ true
    → leaf_of text ≡ Some (name text)
leaf_without text None e none w =
    ap (leaf_by text) e
    ∙ ap (λ b. option_map name (if b then Some text else None)) (name_unless_reserved text w ∙ ap (λ r. not (is_some r)) e)
leaf_without text (Some word) e none w = absurd (cc none)

-- a word that isn't reserved is a type by its name
pub leaf_named : (text : List ℕ) (found : Option Seen) → found ≡ option_map in_code (reserved_of text) → found ≡ None
    → is_word text ≡ true → leaf_of text ≡ Some (name text)
leaf_named text found e none w =
    leaf_without text (reserved_of text) refl (mapped (reserved_of text) ∙ ap is_some (sym e ∙ none)) w

-- Scalar words that are read.
use Rattle.std.proofs.Common.{◌≡◌, ℕ, Bool, true, false, ◌||◌, if◌then◌else◌, Option, Some, None, List, [], ◌∷◌, map, IsUtf8, refl, sym, ap, ◌∙◌, subst}
use Rattle.std.specs.List.{list_any}
use Rattle.std.specs.Str.{bytes_eq}
use Rattle.std.proofs.lemmas.List.Folds.{list_any-append}
use Rattle.std.proofs.lemmas.Slice.Eq.{bytes_eq-Decides}
use Rattle.bag_model.specs.declared.words.ScalarWord.TheVariants.{Bool as Boolean}
use Rattle.bag_model.specs.Scalars.{Word}
use Rattle.bag_model.specs.Words.{is_word, word_text, word_named, scalar_words, reserved_words}
use Rattle.bag_model.proofs.WordTexts.{word_is}
use Rattle.table_text.specs.Words.{keywords}
use Rattle.text_lines.proofs.WordBytes.{word_utf8}

-- Each scalar word is a word.
pub is_scalar : (word : Word) → is_word (word_text word) ≡ true
is_scalar Boolean = refl
is_scalar word = refl

-- No word is found in bytes that are no text.
pub none_foreign : (text : List ℕ) → (IsUtf8 text → ⊥) → None ≡ word_named text
none_foreign text foreign = from (word_named text) refl
  where
    from : (found : Option Word) → word_named text ≡ found → None ≡ word_named text
    from None e = sym e
    from (Some word) e = absurd (foreign (subst IsUtf8 (word_is text word e) (word_utf8 (word_text word) (is_scalar word))))

-- A word that is no keyword is reserved where it is a scalar word.
pub reserved_else : (text : List ℕ) (b : Bool) → b ≡ list_any (bytes_eq text) (map word_text scalar_words) → list_any (bytes_eq text) keywords ≡ false
    → b ≡ list_any (bytes_eq text) reserved_words
reserved_else text b is none =
    is ∙ ap (λ k. k || list_any (bytes_eq text) (map word_text scalar_words)) (sym none) ∙ sym (list_any-append (bytes_eq text) keywords (map word_text scalar_words))

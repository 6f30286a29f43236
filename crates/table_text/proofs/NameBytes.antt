-- Names are texts, and have no space.
use Rattle.std.proofs.Common.{◌≡◌, not, true, List, ℕ}
use Rattle.std.specs.List.{list_any}
use Rattle.std.specs.Str.{IsUtf8, bytes_eq}
use Rattle.std.proofs.lemmas.Bool.{and_parts}
use Rattle.bag_model.specs.Words.{is_word, is_name, reserved_words}
use Rattle.text_lines.specs.Words.{HasNoSpace}
use Rattle.text_lines.proofs.WordBytes.{word_utf8, word_no_space}

pub name_word : (text : List ℕ) → is_name text ≡ true → is_word text ≡ true
name_word text is = (and_parts (is_word text) (not (list_any (bytes_eq text) reserved_words)) is).0

pub name_utf8 : (text : List ℕ) → is_name text ≡ true → IsUtf8 text
name_utf8 text is = word_utf8 text (name_word text is)

pub name_free : (text : List ℕ) → is_name text ≡ true → HasNoSpace text
name_free text is = word_no_space text (name_word text is)

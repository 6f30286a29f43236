-- Paths, by the pieces between their dots.
use Rattle.std.proofs.Common.{◌≡◌, ◌↔◌, ℕ, ◌<◌, ◌==◌, Bool, true, IsTrue, List, [], ◌∷◌, length, refl, sym, ◌∙◌, ap, arith}
use Rattle.std.specs.List.{AllByRecursion, list_all}
use Rattle.std.proofs.lemmas.Bool.{and_parts, and_from}
use Rattle.std.proofs.lemmas.List.Splits.{length-slice_split, join_with_byte-slice_split}
use Rattle.bag_model.specs.Words.{is_word}
use Rattle.graph_lines.specs.Forms.{IsWord, IsPath}
use Rattle.text_lines.proofs.Separated.{pieces, pieces_joined}
use Rattle.graph_lines.proofs.Names.{names_free, dotted-joined}

are_names : (names : List (List ℕ)) → list_all is_word names ≡ true → AllByRecursion IsWord names
are_names [] h = tt
are_names (name ∷ names) h = let parts = and_parts (is_word name) (list_all is_word names) h in (parts.0, are_names names parts.1)

all_words : (names : List (List ℕ)) → AllByRecursion IsWord names → list_all is_word names ≡ true
all_words [] h = refl
all_words (name ∷ names) h = and_from (is_word name) (list_all is_word names) h.0 (all_words names h.1)

-- A text has at least one piece.
pub piece_some : (sep : ℕ) (text : List ℕ) → 0 < length (pieces sep text)
piece_some sep text = omega (arith, length-slice_split (λ byte. byte == sep) text)

-- A text is a path where all pieces between its dots are names.
pub path_test : (text : List ℕ) (r : Bool) → r ≡ list_all is_word (pieces 46 text) → IsTrue r ↔ IsPath text
path_test text r e = (
  λ all. (pieces 46 text, piece_some 46 text, are_names (pieces 46 text) (sym e ∙ all), sym (join_with_byte-slice_split 46 text) ∙ sym (dotted-joined (pieces 46 text))),
  λ path.
      let same : pieces 46 text ≡ path.0 = ap (pieces 46) (path.3 ∙ dotted-joined path.0) ∙ pieces_joined 46 path.0 path.1 (names_free 46 path.0 refl path.2) in
      e ∙ ap (list_all is_word) same ∙ all_words path.0 path.2,
)

-- The walk over the pieces of a source: what one step adds.
use Rattle.std.proofs.Common.{◌≡◌, ℕ, ◌<◌, Option, List, [], ◌∷◌, ◌++◌, length, take, drop, refl, sym, ap, ◌∙◌, subst, append_assoc, append-nil, arith}
use Rattle.std.specs.Option.{option_map, option_to_list}
use Rattle.std.specs.Str.{IsUtf8}
use Rattle.std.proofs.lemmas.List.{length-take-le, take-append-drop, flat_map_more}
use Rattle.std.proofs.lemmas.List.Sums.{fold-append}
use Rattle.bdl_lexer.specs.declared.lexer.Place.{Place}
use Rattle.bdl_lexer.specs.declared.Token.{Token}
use Rattle.bdl_lexer.specs.declared.TokenClass.{TokenClass}
use Rattle.bdl_lexer.specs.Scan.{IsPiece}
use Rattle.bdl_lexer.specs.Places.{first_place, next_place, place_behind}
use Rattle.bdl_lexer.specs.Lexer.{StandsFirst, IsTaken}
use Rattle.bdl_lexer.specs.Tokens.{SourcePiece, BeginsWithPieces, token_of, token_at, tokens_from, text_of_pieces, AreTokensOf}

-- a piece at the beginning, and the bytes after it
pub taken : (class : Option TokenClass) (len : ℕ) (bytes after : List ℕ) (place next : Place) (answer : Option Token) → StandsFirst class len bytes → after ≡ drop len bytes → next ≡ place_behind place (take len bytes) → answer ≡ option_map (token_of place len) class → IsTaken bytes place after next answer
taken class len bytes after place next answer stands left moved is =
    let full = length-take-le len bytes stands.within in
    record {
      piece = record { class = class; text = take len bytes };
      is = sym (take-append-drop len bytes) ∙ ap (λ r. take len bytes ++ r) (sym left);
      some = subst (λ n. 0 < n) (sym full) stands.some;
      whole = subst (IsPiece class (take len bytes)) (sym left) stands.piece;
      next_is = moved;
      answer_is = is ∙ ap (λ n. option_map (token_of place n) class) (sym full);
    }

begins_more : (pieces : List SourcePiece) (source before after : List ℕ) (piece : SourcePiece) → BeginsWithPieces pieces source before → before ≡ piece.text ++ after → IsPiece piece.class piece.text after → BeginsWithPieces (pieces ++ piece ∷ []) source after
begins_more [] source before after piece begins is whole = (after, begins ∙ is, whole, refl)
begins_more (p ∷ pieces) source before after piece begins is whole =
    (begins.0, begins.1, begins.2, begins_more pieces begins.0 before after piece begins.3 is whole)

tokens_more : (pieces : List SourcePiece) (place : Place) (piece : SourcePiece) → tokens_from place (pieces ++ piece ∷ []) ≡ tokens_from place pieces ++ option_to_list (token_at (place_behind place (text_of_pieces pieces)) piece)
tokens_more [] place piece = append-nil (option_to_list (token_at place piece))
tokens_more (p ∷ pieces) place piece =
    let here = option_to_list (token_at place p) in
    let behind = place_behind place p.text in
    ap (λ ts. here ++ ts) (tokens_more pieces behind piece)
    ∙ sym (append_assoc here (tokens_from behind pieces) (option_to_list (token_at (place_behind behind (text_of_pieces pieces)) piece)))
    ∙ ap (λ q. (here ++ tokens_from behind pieces) ++ option_to_list (token_at q piece)) (sym (fold-append next_place place p.text (text_of_pieces pieces)))

-- so far: these tokens, with this rest and place
pub record LexedTo (source : List ℕ) (tokens : List Token) (rest : List ℕ) (place : Place) : Type 0 where
  pub pieces : List SourcePiece
  pub begins : BeginsWithPieces pieces source rest
  pub are : tokens ≡ tokens_from first_place pieces
  pub place_is : place ≡ place_behind first_place (text_of_pieces pieces)

pub lexed_more : (source : List ℕ) (tokens : List Token) (rest after : List ℕ) (place next : Place) (answer : Option Token) → LexedTo source tokens rest place → IsTaken rest place after next answer → LexedTo source (tokens ++ option_to_list answer) after next
lexed_more source tokens rest after place next answer so_far step =
    let pieces = so_far.pieces in
    let texts : text_of_pieces (pieces ++ step.piece ∷ []) ≡ text_of_pieces pieces ++ step.piece.text = sym (flat_map_more (λ (p : SourcePiece). p.text) [] pieces step.piece) in
    record {
      pieces = pieces ++ step.piece ∷ [];
      begins = begins_more pieces source rest after step.piece so_far.begins step.is step.whole;
      are =
          (λ i. so_far.are i ++ option_to_list (step.answer_is i))
          ∙ ap (λ p. tokens_from first_place pieces ++ option_to_list (token_at p step.piece)) so_far.place_is
          ∙ sym (tokens_more pieces first_place step.piece);
      place_is =
          step.next_is
          ∙ ap (λ p. place_behind p step.piece.text) so_far.place_is
          ∙ sym (fold-append next_place first_place (text_of_pieces pieces) step.piece.text)
          ∙ ap (place_behind first_place) (sym texts);
    }

-- at the end of the source these are its tokens
pub lexed_all : (source : List ℕ) (tokens : List Token) (rest : List ℕ) (place : Place) → IsUtf8 source → LexedTo source tokens rest place → length rest ≡ 0 → AreTokensOf source tokens
lexed_all source tokens [] place text so_far e = record { text = text; pieces = so_far.pieces; cover = so_far.begins; are = so_far.are }
lexed_all source tokens (b ∷ rest) place text so_far e = absurd (omega arith)

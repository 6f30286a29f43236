-- The tokens among pieces lie in their source, in order.
use Rattle.std.proofs.Common.{◌≡◌, ℕ, ◌+◌, ◌-◌, ◌<◌, ◌≤◌, true, Option, None, Some, List, [], ◌∷◌, ◌++◌, length, get_or, take, drop, refl, sym, ap, ◌∙◌, subst, subst₂, ⊎_elim, arith, append_assoc, length-append}
use Rattle.std.specs.List.{All, AllPass}
use Rattle.std.specs.Option.{option_map, option_to_list}
use Rattle.std.specs.Str.{IsUtf8}
use Rattle.std.proofs.lemmas.Bool.Decides.{nat_tests}
use Rattle.std.proofs.lemmas.List.{take_at, drop_at, get_or_at, get_or_past}
use Rattle.std.proofs.lemmas.List.Elements.{All-nil, All-cons, All-append}
use Rattle.std.proofs.lemmas.Str.{IsUtf8-from_ascii, IsUtf8-between, IsCharBoundary-before_ascii, IsCharBoundary-after_ascii}
use Rattle.std.proofs.str.Laws.{order}
use Rattle.bdl_lexer.specs.declared.lexer.Place.{Place}
use Rattle.bdl_lexer.specs.declared.Token.{Token}
use Rattle.bdl_lexer.specs.declared.TokenClass.{TokenClass}
use Rattle.bdl_lexer.specs.declared.TokenClass.TheVariants.{Word, Number, Text, Sign}
use Rattle.bdl_lexer.specs.Bytes.{is_word_byte}
use Rattle.bdl_lexer.specs.Scan.{HasTokenForm, IsToken, IsPiece}
use Rattle.bdl_lexer.specs.Places.{first_place, next_place, place_behind}
use Rattle.bdl_lexer.specs.Spans.{between_quotes, IsSpelledToken, LiesIn, AreInOrder}
use Rattle.bdl_lexer.specs.Tokens.{SourcePiece, BeginsWithPieces, token_of, token_at, tokens_from, AreTokensOf}
use Rattle.bdl_lexer.proofs.Longest.{word_bytes}

at_next : (place : Place) (b : ℕ) → (next_place place b).at ≡ place.at + 1
at_next place b = grind (arith, nat_tests)

-- a place counts the bytes before it
at_behind : (place : Place) (text : List ℕ) → (place_behind place text).at ≡ place.at + length text
at_behind place [] = omega arith
at_behind place (b ∷ text) = let more = at_behind (next_place place b) text in let one = at_next place b in omega arith

word_ascii : (b : ℕ) → is_word_byte b ≡ true → b < 128
word_ascii b e = grind (arith, nat_tests)

word_utf8 : (text : List ℕ) → AllPass is_word_byte text → IsUtf8 text
word_utf8 text each =
    IsUtf8-from_ascii text
    (λ i.
    ⊎_elim
    (λ within. word_ascii (get_or text i 0) (each i 0 within))
    (λ past. let e = get_or_past text i 0 past in omega arith)
    (order i (length text)))

-- the text between two quotes of a source that is UTF-8
text_utf8 : (source front text after inner : List ℕ) → IsUtf8 source → source ≡ front ++ (text ++ after) → text ≡ 34 ∷ (inner ++ 34 ∷ []) → (2 ≤ length text) × IsUtf8 (between_quotes text)
text_utf8 source front text after inner utf8 is quoted =
    let n = length front in
    let m = length inner in
    let len : length text ≡ m + 2 = ap length quoted ∙ (let l = length-append inner (34 ∷ []) in omega arith) in
    let opened : source ≡ front ++ 34 ∷ (inner ++ 34 ∷ after) =
    is ∙ ap (λ t. front ++ (t ++ after)) quoted ∙ ap (λ t. front ++ 34 ∷ t) (append_assoc inner (34 ∷ []) after) in
    let closed : source ≡ (front ++ 34 ∷ inner) ++ 34 ∷ after = opened ∙ sym (append_assoc front (34 ∷ inner) (34 ∷ after)) in
    let whole : length source ≡ n + (m + (length after + 2)) =
    ap length opened ∙ (let a = length-append front (34 ∷ (inner ++ 34 ∷ after)) in let b = length-append inner (34 ∷ after) in omega arith) in
    let front_len : length (front ++ 34 ∷ inner) ≡ n + 1 + m = let a = length-append front (34 ∷ inner) in omega arith in
    let first : get_or source n 0 ≡ 34 = ap (λ s. get_or s n 0) opened ∙ get_or_at front 34 (inner ++ 34 ∷ after) 0 n refl in
    let last : get_or source (n + 1 + m) 0 ≡ 34 = ap (λ s. get_or s (n + 1 + m) 0) closed ∙ get_or_at (front ++ 34 ∷ inner) 34 after 0 (n + 1 + m) front_len in
    let middle = IsUtf8-between source (n + 1) (n + 1 + m) utf8 (omega arith)
    (IsCharBoundary-after_ascii source n utf8 (omega arith) (omega arith))
    (IsCharBoundary-before_ascii source (n + 1 + m) (omega arith) (omega arith)) in
    let one_len : length (front ++ 34 ∷ []) ≡ n + 1 = let a = length-append front (34 ∷ []) in omega arith in
    let behind : drop (n + 1) source ≡ inner ++ 34 ∷ after =
    ap (drop (n + 1)) (opened ∙ sym (append_assoc front (34 ∷ []) (inner ++ 34 ∷ after))) ∙ drop_at (front ++ 34 ∷ []) (inner ++ 34 ∷ after) (n + 1) one_len in
    let count : n + 1 + m - (n + 1) ≡ m = omega arith in
    let here : take (n + 1 + m - (n + 1)) (drop (n + 1) source) ≡ inner =
    (λ i. take (count i) (behind i)) ∙ take_at inner (34 ∷ after) m refl in
    let less : length text - 2 ≡ m = omega arith in
    let there : between_quotes text ≡ inner =
    (λ i. take (less i) (drop 1 (quoted i))) ∙ take_at inner (34 ∷ []) m refl in
    (omega arith, subst IsUtf8 (here ∙ sym there) middle)

spelled : (class : TokenClass) (source front text after : List ℕ) → IsUtf8 source → source ≡ front ++ (text ++ after) → HasTokenForm class text → IsSpelledToken class text
spelled Word source front text after utf8 is form = word_utf8 text (word_bytes text form)
spelled (Number v) source front text after utf8 is form = tt
spelled Text source front text after utf8 is form = text_utf8 source front text after form.inner utf8 is form.is
spelled (Sign b) source front text after utf8 is form = tt

lies : (class : TokenClass) (place : Place) (source front text after : List ℕ) → IsUtf8 source → source ≡ front ++ (text ++ after) → place.at ≡ length front → IsToken class text after → LiesIn source (token_of place (length text) class)
lies class place source front text after utf8 is at token =
    let behind : drop place.at source ≡ text ++ after = ap (drop place.at) is ∙ drop_at front (text ++ after) place.at (sym at) in
    let here : take (length text) (drop place.at source) ≡ text = ap (take (length text)) behind ∙ take_at text after (length text) refl in
    let left : drop (length text) (drop place.at source) ≡ after = ap (drop (length text)) behind ∙ drop_at text after (length text) refl in
    record {
      within = omega (arith, ap length is, length-append front (text ++ after), length-append text after);
      longest = subst₂ (IsToken class) (sym here) (sym left) token;
      spelled = subst (IsSpelledToken class) (sym here) (spelled class source front text after utf8 is token.longest.form);
    }

token_lies : (class : Option TokenClass) (place : Place) (source front text after : List ℕ) → IsUtf8 source → source ≡ front ++ (text ++ after) → place.at ≡ length front → IsPiece class text after → All (LiesIn source) (option_to_list (option_map (token_of place (length text)) class))
token_lies None place source front text after utf8 is at piece = All-nil (LiesIn source)
token_lies (Some class) place source front text after utf8 is at piece =
    All-cons (LiesIn source) (token_of place (length text) class) [] (lies class place source front text after utf8 is at piece) (All-nil (LiesIn source))

lie_from : (pieces : List SourcePiece) (place : Place) (source front rest : List ℕ) → IsUtf8 source → source ≡ front ++ rest → place.at ≡ length front → BeginsWithPieces pieces rest [] → All (LiesIn source) (tokens_from place pieces)
lie_from [] place source front rest utf8 is at begins = All-nil (LiesIn source)
lie_from (piece ∷ pieces) place source front rest utf8 is at begins =
    let after = begins.0 in
    let whole : source ≡ front ++ (piece.text ++ after) = is ∙ ap (λ r. front ++ r) begins.1 in
    let next : source ≡ (front ++ piece.text) ++ after = whole ∙ sym (append_assoc front piece.text after) in
    let moved : (place_behind place piece.text).at ≡ length (front ++ piece.text) =
    at_behind place piece.text ∙ ap (λ n. n + length piece.text) at ∙ sym (length-append front piece.text) in
    All-append (LiesIn source) (option_to_list (token_at place piece)) (tokens_from (place_behind place piece.text) pieces)
    (token_lies piece.class place source front piece.text after utf8 whole at begins.2)
    (lie_from pieces (place_behind place piece.text) source (front ++ piece.text) after utf8 next moved begins.3)

-- the tokens of a source lie in it
pub tokens_lie : (source : List ℕ) (tokens : List Token) → AreTokensOf source tokens → All (LiesIn source) tokens
tokens_lie source tokens a =
    subst (All (LiesIn source)) (sym a.are) (lie_from a.pieces first_place source [] source a.text refl refl a.cover)

-- what is in order from a later byte on is in order from an earlier one
order_earlier : (tokens : List Token) (from later : ℕ) → from ≤ later → AreInOrder later tokens → AreInOrder from tokens
order_earlier [] from later e ordered = tt
order_earlier (token ∷ tokens) from later e ordered = let first = ordered.0 in (omega arith, ordered.1)

order_next : (class : Option TokenClass) (text : List ℕ) (place : Place) (more : List Token) → AreInOrder (place_behind place text).at more → AreInOrder place.at (option_to_list (option_map (token_of place (length text)) class) ++ more)
order_next None text place more ordered = order_earlier more place.at (place_behind place text).at (let e = at_behind place text in omega arith) ordered
order_next (Some class) text place more ordered = (omega arith, subst (λ n. AreInOrder n more) (at_behind place text) ordered)

order_from : (pieces : List SourcePiece) (place : Place) → AreInOrder place.at (tokens_from place pieces)
order_from [] place = tt
order_from (piece ∷ pieces) place = order_next piece.class piece.text place (tokens_from (place_behind place piece.text) pieces) (order_from pieces (place_behind place piece.text))

-- and are in order, none over another
pub tokens_in_order : (source : List ℕ) (tokens : List Token) → AreTokensOf source tokens → AreInOrder 0 tokens
tokens_in_order source tokens a = subst (AreInOrder 0) (sym a.are) (order_from a.pieces first_place)

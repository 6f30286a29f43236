-- The lines of some bytes, by the numbers of their pieces.
use Rattle.std.proofs.Common.{◌≡◌, ◌⊎◌, inl, inr, ℕ, ◌+◌, ◌*◌, ◌<◌, ◌≤◌, Bool, true, false, List, [], ◌∷◌, ◌++◌, length, map, drop, get_or, refl, sym, ◌∙◌, ap, subst, arith}
use Rattle.std.specs.Prelude.{◌≢◌}
use Rattle.std.specs.Fmt.{decimal}
use Rattle.std.specs.List.{AllByRecursion, Contains}
use Rattle.std.specs.Str.{bytes_eq}
use Rattle.std.proofs.lemmas.Bool.{cases_lt}
use Rattle.std.proofs.lemmas.Fmt.{length-decimal-le}
use Rattle.std.proofs.lemmas.List.{get_or-map, get_or-take, get_or-drop, get_or_past, length-append, length-map, length-take, map_push}
use Rattle.std.proofs.lemmas.List.Elements.{All-from_recursion, Contains-append_cases, Contains-append_right, Contains-get_or}
use Rattle.std.proofs.lemmas.List.FromFn.{get_or-map-range_with_len, length-map-range_with_len}
use Rattle.std.proofs.lemmas.Slice.Eq.{bytes_eq-Decides}
use Rattle.base64.specs.GeneralPurpose.{IsBytes}
use Rattle.text_lines.specs.Lines.{numbered}
use Rattle.text_lines.specs.Readings.{AllSay}
use Rattle.text_lines.proofs.Separated.{free_from}
use Rattle.text_carrier.specs.Pieces.{Piece, data_text}
use Rattle.text_carrier.specs.Carrying.{AreSome, IsCarried, carried_lines, piece_at, piece_count}
use Rattle.text_carrier.specs.Rules.{HasPieceForm, IsGoodPiece, IsOtherCount, piece_lines}
use Rattle.text_carrier.proofs.Cutting.{few_pieces, line_at, part_at}
use Rattle.text_carrier.proofs.Definite.{one_form}
use Rattle.text_carrier.proofs.LineBytes.{IsLine, begun, line_bytes}
use Rattle.text_carrier.proofs.Standard.{IsPlain, data_plain, data_short, data_some}

-- ---- lists

contains_more : (x y : List ℕ) (xs : List (List ℕ)) → Contains xs x → Contains (y ∷ xs) x
contains_more x y xs i = Contains-append_right (y ∷ []) xs x i

-- A text is among some or isn't.
pub contains_cases : (x : List ℕ) (xs : List (List ℕ)) → Contains xs x ⊎ (Contains xs x → ⊥)
contains_cases x [] = inr (λ (k, within, is). absurd (omega arith))
contains_cases x (y ∷ xs) = by (bytes_eq y x) refl (contains_cases x xs)
  where
    first : Contains (y ∷ []) x → y ≡ x
    first (k, within, is) = let zero : k ≡ 0 = omega arith in ap (λ n. get_or (y ∷ []) n x) (sym zero) ∙ is

    by : (same : Bool) → bytes_eq y x ≡ same → Contains xs x ⊎ (Contains xs x → ⊥) → Contains (y ∷ xs) x ⊎ (Contains (y ∷ xs) x → ⊥)
    by true is later = inl (0, omega arith, (bytes_eq-Decides y x).0 is)
    by false apart (inl later) = inl (contains_more x y xs later)
    by false apart (inr none) = inr (λ i. elim (Contains-append_cases (y ∷ []) xs x i) [
      | inl here ↦ let bad : true ≡ false = sym ((bytes_eq-Decides y x).1 (first here)) ∙ apart in cc bad
      | inr later ↦ none later
    ])

-- What is made of an element is among what is made of all.
pub contains_map : {A B : Type 0} (f : A → B) (xs : List A) (x : A) → Contains xs x → Contains (map f xs) (f x)
contains_map f xs x (k, within, is) = (k, omega (arith, within, length-map xs f), get_or-map f xs k x (f x) within ∙ ap f is)

-- ---- the lines of some bytes

module _ (width : ℕ) (bytes : List ℕ) where
  abbrev pub is_place : ℕ → Type 0
  is_place place = place < piece_count width bytes

  -- Each line is that of a piece.
  pub line_place : (line : List ℕ) → Contains (carried_lines width bytes) line → (place : ℕ) × is_place place × (line ≡ line_at width bytes place)
  line_place line (k, within, is) =
      let less : k < piece_count width bytes = omega (arith, within, length-map-range_with_len (line_at width bytes) 0 (piece_count width bytes)) in
      (k, less, sym is ∙ get_or-map-range_with_len (line_at width bytes) 0 (piece_count width bytes) k k line less (omega arith))

  pub place_line : (place : ℕ) → is_place place → Contains (carried_lines width bytes) (line_at width bytes place)
  place_line place less = (
    place,
    omega (arith, less, length-map-range_with_len (line_at width bytes) 0 (piece_count width bytes)),
    get_or-map-range_with_len (line_at width bytes) 0 (piece_count width bytes) place place (line_at width bytes place) less (omega arith),
  )

  -- Lines of the bytes are those of some numbers.
  pub places_of : (sent : List (List ℕ)) → AreSome width bytes sent → (places : List ℕ) × (sent ≡ map (line_at width bytes) places) × AllByRecursion is_place places
  places_of [] some = ([], refl, tt)
  places_of (line ∷ sent) some =
      let (place, less, is) = line_place line (some line (0, omega arith, refl)) in
      let (places, are, all) = places_of sent (λ other i. some other (contains_more other line sent i)) in
      (place ∷ places, cc (is, are), (less, all))

  -- A piece among those of some numbers is that of one of them.
  pub piece_place : (places : List ℕ) (piece : Piece) → Contains (map (piece_at width bytes) places) piece → (place : ℕ) × Contains places place × (piece ≡ piece_at width bytes place)
  piece_place places piece (k, within, is) =
      let within' : k < length places = omega (arith, within, length-map places (piece_at width bytes)) in
      (get_or places k 0, Contains-get_or places k 0 within', sym is ∙ get_or-map (piece_at width bytes) places k 0 piece within')

  module _ (carried : IsCarried width bytes) where
    pub few : piece_count width bytes ≤ 262144
    few = few_pieces (length bytes) width (omega (arith, carried.least)) (omega (arith, carried.few))

    few_bytes : (place : ℕ) → length (part_at width bytes place) ≤ 300
    few_bytes place = omega (arith, carried.most, length-take width (drop (place * width) bytes))

    -- A line has at most 416 bytes.
    pub short_line : (place : ℕ) → is_place place → length (line_at width bytes place) ≤ 416
    short_line place less =
        let count = piece_count width bytes in
        let word = data_text (part_at width bytes place) in
        let most = few in
        omega (
          arith,
          data_short (part_at width bytes place) (few_bytes place),
          length-decimal-le 6 place (omega arith) (omega (arith, less, most)) (omega (arith, less, most)),
          length-decimal-le 6 count (omega arith) (omega (arith, most)) (omega (arith, most)),
          length-append (decimal place) (32 ∷ (decimal count ++ 32 ∷ word)),
          length-append (decimal count) (32 ∷ word),
        )

    -- A line is read whole.
    pub is_line : (place : ℕ) → is_place place → IsLine (line_at width bytes place)
    is_line place less = record {
      bytes = line_bytes place (piece_count width bytes) (part_at width bytes place) (omega (arith, less, few)) (omega (arith, few));
      read = begun (32 ∷ (decimal place ++ 32 ∷ (decimal (piece_count width bytes) ++ 32 ∷ data_text (part_at width bytes place))));
    }

    pub are_lines : (places : List ℕ) → AllByRecursion is_place places → AllByRecursion IsLine (map (line_at width bytes) places)
    are_lines [] all = tt
    are_lines (place ∷ places) all = (is_line place all.0, are_lines places all.1)

    part_is_bytes : (place : ℕ) → IsBytes (part_at width bytes place)
    part_is_bytes place i = elim (cases_lt i width) [
      | inl within ↦ subst (λ b. b < 256) (sym (get_or-take width (drop (place * width) bytes) i 0 within ∙ get_or-drop (place * width) bytes i 0)) (carried.are_bytes (place * width + i))
      | inr past ↦ subst (λ b. b < 256) (sym (get_or_past (part_at width bytes place) i 0 (omega (arith, past, length-take width (drop (place * width) bytes))))) (omega arith)
    ]

    has_form : (place : ℕ) → is_place place → HasPieceForm (line_at width bytes place) place (piece_count width bytes) (data_text (part_at width bytes place))
    has_form place less = record {
      place_few = omega (arith, less, few);
      count_few = omega (arith, few);
      word_some = data_some (part_at width bytes place);
      word_whole =
          let word = data_text (part_at width bytes place) in
          free_from 32 word (λ k less. no_space (get_or word k 0) (data_plain (part_at width bytes place) k 0 less));
      is = refl;
    }
      where
        no_space : (byte : ℕ) → IsPlain byte → byte ≢ 32
        no_space byte (inl zero) = λ e. omega arith
        no_space byte (inr more) = λ e. omega arith

    -- Lines of different numbers differ.
    pub same_place : (p q : ℕ) → is_place p → is_place q → line_at width bytes p ≡ line_at width bytes q → p ≡ q
    same_place p q less also same =
        (one_form (line_at width bytes q) p (piece_count width bytes) (data_text (part_at width bytes p)) q (piece_count width bytes) (data_text (part_at width bytes q))
        (subst (λ line. HasPieceForm line p (piece_count width bytes) (data_text (part_at width bytes p))) same (has_form p less)) (has_form q also)).place_is

    -- A number whose line is among those of some is one of them.
    pub among : (places : List ℕ) → AllByRecursion is_place places → (place : ℕ) → is_place place → Contains (map (line_at width bytes) places) (line_at width bytes place) → Contains places place
    among places all place less (k, within, is) =
        let within' : k < length places = omega (arith, within, length-map places (line_at width bytes)) in
        let at = get_or-map (line_at width bytes) places k place (line_at width bytes place) within' in
        let here : is_place (get_or places k place) = All-from_recursion is_place places all k place within' in
        (k, within', same_place (get_or places k place) place here less (sym at ∙ is))

    -- ---- what lines of the bytes say

    same_count : (earlier : List ℕ) → IsOtherCount (map (piece_at width bytes) earlier) (piece_count width bytes) → ⊥
    same_count [] other = other
    same_count (place ∷ earlier) other = other refl

    good_line : (earlier : List ℕ) (place : ℕ) → is_place place → IsGoodPiece (map (piece_at width bytes) earlier) (line_at width bytes place) (piece_at width bytes place)
    good_line earlier place less =
        let part = part_at width bytes place in (
          has_form place less,
          part_is_bytes place,
          (
            λ out. elim out [
              | inl none ↦ absurd (omega (arith, less, none))
              | inr bad ↦ elim bad [
                | inl many ↦ absurd (omega (arith, few, many))
                | inr past ↦ absurd (omega (arith, less, past))
              ]
            ],
            (
              λ bad. bad part (part_is_bytes place) refl,
              (
                same_count earlier,
                (
                  λ (other, before, at, ne).
                      let (q, i, is) = piece_place earlier other before in
                      let same : q ≡ place = ap (λ (p : Piece). p.place) (sym is) ∙ at in
                      ne (ap (λ (p : Piece). data_text p.bytes) is ∙ ap (λ n. data_text (part_at width bytes n)) same),
                  tt,
                ),
              ),
            ),
          ),
        )

    pub all_say : (earlier places : List ℕ) (n : ℕ) → AllByRecursion is_place places
        → AllSay piece_lines (map (piece_at width bytes) earlier) (numbered n (map (line_at width bytes) places)) (map (piece_at width bytes) places)
    all_say earlier [] n all = tt
    all_say earlier (place ∷ places) n all = (
      good_line earlier place all.0,
      subst (λ before. AllSay piece_lines before (numbered (n + 1) (map (line_at width bytes) places)) (map (piece_at width bytes) places))
          (map_push (piece_at width bytes) earlier place)
          (all_say (earlier ++ place ∷ []) places (n + 1) all.1),
    )

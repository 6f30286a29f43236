-- What lines of some bytes collect to: the bytes where all are there, and else the first number that is lost.
use Rattle.std.proofs.Common.{◌≡◌, ◌⊎◌, inl, inr, ℕ, zero, suc, ◌<◌, ◌≤◌, Ok, Err, List, [], ◌∷◌, length, map, refl, sym, ◌∙◌, ap, subst, arith}
use Rattle.std.specs.Prelude.{◌≢◌}
use Rattle.std.specs.List.{AllByRecursion, Contains, range_with_len}
use Rattle.std.proofs.lemmas.Bool.{cases_lt}
use Rattle.std.proofs.lemmas.List.FromFn.{get_or-map-range_with_len, length-map-range_with_len}
use Rattle.std.proofs.lemmas.Option.{slice_get_within, get_or_from_slice_get}
use Rattle.text_lines.specs.Lines.{Line, lines_of}
use Rattle.text_lines.specs.Readings.{AllSay}
use Rattle.text_carrier.specs.declared.faults.CarryFault.TheVariants.{Missing}
use Rattle.text_carrier.specs.Pieces.{Piece}
use Rattle.text_carrier.specs.Carrying.{AreAll, AreSome, IsCarried, IsFirstLost, carried_lines, piece_at, piece_count, text_of_lines}
use Rattle.text_carrier.specs.Rules.{piece_lines}
use Rattle.text_carrier.specs.Collecting.{AreWhole, Collects, count_of}
use Rattle.text_carrier.proofs.Cutting.{all_parts, line_at, part_at}
use Rattle.text_carrier.proofs.LineBytes.{lines_of_sent}
use Rattle.text_carrier.proofs.Placed.{all_say, among, are_lines, contains_cases, contains_map, is_place, line_place, piece_place, place_line, places_of}

module _ (width : ℕ) (bytes : List ℕ) (carried : IsCarried width bytes) where
  -- The pieces of some numbers.
  abbrev pub pieces : List ℕ → List Piece
  pieces places = map (piece_at width bytes) places

  -- The lines of a text of lines say the pieces.
  all_said : (sent : List (List ℕ)) (places : List ℕ) → sent ≡ map (line_at width bytes) places → AllByRecursion (is_place width bytes) places → AllSay piece_lines [] (lines_of (text_of_lines sent)) (pieces places)
  all_said sent places is all =
      let lines = lines_of_sent (map (line_at width bytes) places) (are_lines width bytes carried places all) in
      subst (λ (ls : List Line). AllSay piece_lines [] ls (pieces places)) (sym (ap (λ s. lines_of (text_of_lines s)) is ∙ lines)) (all_say width bytes carried [] places 1 all)

  count_told : (places : List ℕ) → 0 < length places → count_of (pieces places) ≡ piece_count width bytes
  count_told [] some = absurd (omega arith)
  count_told (place ∷ places) some = refl

  not_none : (places : List ℕ) → 0 < length places → pieces places ≢ []
  not_none [] some = absurd (omega arith)
  not_none (place ∷ places) some = λ e. cc e

  length_some : (places : List ℕ) (place : ℕ) → Contains places place → 0 < length places
  length_some places place (k, within, is) = omega (arith, within)

  are_whole : (places : List ℕ) → ((place : ℕ) → is_place width bytes place → Contains places place) → 0 < length places → AreWhole (pieces places) bytes
  are_whole places all some =
      let parts = map (part_at width bytes) (range_with_len 0 (piece_count width bytes)) in
      let many = length-map-range_with_len (part_at width bytes) 0 (piece_count width bytes) in
      record {
        parts = parts;
        as_many = many ∙ sym (count_told places some);
        each = λ place part is.
            let less : place < piece_count width bytes = omega (arith, many, slice_get_within parts place part is) in
            let at = get_or-map-range_with_len (part_at width bytes) 0 (piece_count width bytes) place place [] less (omega arith) in
            (piece_at width bytes place, contains_map (piece_at width bytes) places place (all place less), refl, sym at ∙ get_or_from_slice_get parts place part [] is);
        joined = all_parts width bytes (omega (arith, carried.least));
      }

  -- ---- all lines

  pub come_back : (sent : List (List ℕ)) → AreSome width bytes sent → AreAll width bytes sent → Collects (lines_of (text_of_lines sent)) (Ok bytes)
  come_back sent some every =
      let (places, is, all) = places_of width bytes sent some in
      let has : (place : ℕ) → is_place width bytes place → Contains places place = (λ place less.
      among width bytes carried places all place less (subst (λ s. Contains s (line_at width bytes place)) is (every (line_at width bytes place) (place_line width bytes place less)))) in
      let many = length_some places 0 (has 0 (omega arith)) in
      (pieces places, (all_said sent places is all, not_none places many), are_whole places has many, carried.few)

  -- ---- some lines

  -- A number whose line is there has its piece.
  has_place : (sent : List (List ℕ)) (places : List ℕ) → sent ≡ map (line_at width bytes) places → AllByRecursion (is_place width bytes) places
      → (place : ℕ) → is_place width bytes place → Contains sent (line_at width bytes place) → Contains places place
  has_place sent places is all place less i = among width bytes carried places all place less (subst (λ s. Contains s (line_at width bytes place)) is i)

  pub lost_told : (sent : List (List ℕ)) (place : ℕ) → AreSome width bytes sent → sent ≢ [] → IsFirstLost width bytes sent place → Collects (lines_of (text_of_lines sent)) (Err (Missing place))
  lost_told sent place some any lost =
      let (places, is, all) = places_of width bytes sent some in
      let many = some_places places (λ none. any (is ∙ ap (map (line_at width bytes)) none)) in
      let within = lost.within in (
        pieces places,
        (all_said sent places is all, not_none places many),
        record {
          within = omega (arith, within, count_told places many);
          missing = λ (piece, i, at).
              let (other, j, same) = piece_place width bytes places piece i in
              let here : other ≡ place = ap (λ (p : Piece). p.place) (sym same) ∙ at in
              lost.lost (subst (λ s. Contains s (line_at width bytes place)) (sym is)
              (contains_map (line_at width bytes) places place (subst (Contains places) here j)));
          first = λ other less.
              let other_less : is_place width bytes other = omega (arith, less, within) in
              (piece_at width bytes other, contains_map (piece_at width bytes) places other (has_place sent places is all other other_less (lost.first other less)), refl);
        },
      )
    where
      some_places : (ps : List ℕ) → ps ≢ [] → 0 < length ps
      some_places [] not = absurd (not refl)
      some_places (p ∷ ps) not = omega arith

  -- Among the first numbers either all have their lines, or one is the first that is lost.
  first_lost : (sent : List (List ℕ)) (n : ℕ) → n ≤ piece_count width bytes
      → ((other : ℕ) → other < n → Contains sent (line_at width bytes other)) ⊎ ((place : ℕ) × IsFirstLost width bytes sent place)
  first_lost sent zero few = inl (λ other less. absurd (omega arith))
  first_lost sent (suc n) few = by (first_lost sent n (omega (arith, few))) (contains_cases (line_at width bytes n) sent)
    where
      by : ((other : ℕ) → other < n → Contains sent (line_at width bytes other)) ⊎ ((place : ℕ) × IsFirstLost width bytes sent place)
          → Contains sent (line_at width bytes n) ⊎ (Contains sent (line_at width bytes n) → ⊥)
          → ((other : ℕ) → other < suc n → Contains sent (line_at width bytes other)) ⊎ ((place : ℕ) × IsFirstLost width bytes sent place)
      by (inr found) here = inr found
      by (inl before) (inr none) = inr (n, record { within = omega (arith, few); lost = none; first = before })
      by (inl before) (inl here) = inl (λ other less. elim (cases_lt other n) [
        | inl earlier ↦ before other earlier
        | inr last ↦ let same : n ≡ other = omega arith in subst (λ k. Contains sent (line_at width bytes k)) same here
      ])

  pub one_lost : (sent : List (List ℕ)) (line : List ℕ) → Contains (carried_lines width bytes) line → (Contains sent line → ⊥) → (place : ℕ) × IsFirstLost width bytes sent place
  one_lost sent line i none = elim (first_lost sent (piece_count width bytes) (omega arith)) [
    | inl all ↦
        let (place, less, is) = line_place width bytes line i in
        absurd (none (subst (Contains sent) (sym is) (all place less)))
    | inr found ↦ found
  ]

-- The texts of all pieces, in order, and the bytes that they say.
use Rattle.std.proofs.Common.{◌≡◌, ℕ, ◌+◌, ◌<◌, ◌≤◌, Result, Ok, Err, List, [], ◌∷◌, ◌++◌, length, length-append, map, take, refl, sym, ◌∙◌, ap, subst, arith}
use Rattle.std.specs.Borrow.{Bor}
use Rattle.std.specs.List.{All, flat_map, slice_index_or}
use Rattle.std.specs.Result.{IfOk}
use Rattle.std.proofs.lemmas.List.{get_or-map, get_or_default, length-map, map_push, take_more, take-map, flat_map_more}
use Rattle.std.proofs.lemmas.List.Concat.{concat_is}
use Rattle.std.proofs.lemmas.List.Elements.{All-get_or}
use Rattle.std.proofs.lemmas.List.Folds.{flat_map-map, length-flat_map-take}
use Rattle.std.proofs.lemmas.Option.{slice_get_within, get_or_from_slice_get}
use Rattle.text_lines.specs.Lines.{Line}
use Rattle.text_lines.specs.Readings.{AllSay}
use Rattle.text_lines.proofs.ReadingLaws.{all_say-length, next_bad}
use Rattle.text_carrier.specs.declared.faults.CarryFault.{CarryFault}
use Rattle.text_carrier.specs.declared.faults.CarryFault.TheVariants as faults
use Rattle.text_carrier.specs.declared.faults.CarryCode.{CarryCode}
use Rattle.outside.specs.declared.answers.OrMemory.{OrMemory}
use Rattle.outside.specs.declared.answers.OrMemory.TheVariants as refusals
use Rattle.text_carrier.specs.declared.pieces.Pieces.{Pieces}
use Rattle.text_carrier.specs.Pieces.{Piece}
use Rattle.text_carrier.specs.Rules.{piece_lines}
use Rattle.text_carrier.specs.Collecting.{AreWhole, Collects, SaySome}
use Rattle.text_carrier.specs.Views.{AreTextsOf, IsData, IsJoinFault, IsLineFault, IsOrderFault, IsRefusedPieceLine, Keeps, all_bytes, data_bytes, carry_fault_at}
use Rattle.text_carrier.proofs.Standard.{decoded_bytes}

-- What borrowed texts are.
abbrev pub texts_of : List (Bor (List ℕ)) → List (List ℕ)
texts_of texts = map (λ text. text.now) texts

-- ---- one text

pub data_at : (texts : List (Bor (List ℕ))) (i : ℕ) (d : Bor (List ℕ)) → i < length texts → All IsData (texts_of texts) → IsData (slice_index_or texts i d).now
data_at texts i d within all =
    subst IsData (get_or-map (λ (t : Bor (List ℕ)). t.now) texts i d [] within) (All-get_or IsData (texts_of texts) i [] (omega (arith, length-map texts (λ (t : Bor (List ℕ)). t.now))) all)

-- ---- the first texts

pub joined_more : (texts : List (Bor (List ℕ))) (i : ℕ) (d : Bor (List ℕ)) (bytes more : List ℕ) → i < length texts → bytes ≡ all_bytes (texts_of (take i texts))
    → more ≡ bytes ++ data_bytes (slice_index_or texts i d).now → more ≡ all_bytes (texts_of (take (i + 1) texts))
joined_more texts i d bytes more within so_far next =
    let text = slice_index_or texts i d in
    let front = texts_of (take i texts) in
    let one_more : texts_of (take (i + 1) texts) ≡ front ++ text.now ∷ [] = ap texts_of (take_more texts i d within) ∙ map_push (λ (t : Bor (List ℕ)). t.now) (take i texts) text in
    next ∙ ap (λ (bs : List ℕ). bs ++ data_bytes text.now) so_far ∙ flat_map_more data_bytes [] front text.now ∙ ap all_bytes (sym one_more)

pub joined_less : (texts : List (Bor (List ℕ))) (i : ℕ) (d : Bor (List ℕ)) (bytes more : List ℕ) → i < length texts → bytes ≡ all_bytes (texts_of (take i texts))
    → more ≡ bytes ++ data_bytes (slice_index_or texts i d).now → length more ≤ length (all_bytes (texts_of texts))
joined_less texts i d bytes more within so_far next =
    let now : Bor (List ℕ) → List ℕ = λ t. t.now in
    let within' : i < length (texts_of texts) = omega (arith, length-map texts now) in
    let limit = length-flat_map-take data_bytes (texts_of texts) i [] within' in
    let front : length bytes ≡ length (flat_map data_bytes (take i (texts_of texts))) = ap length (so_far ∙ ap all_bytes (sym (take-map now i texts))) in
    let here : length (data_bytes (slice_index_or texts i d).now) ≡ length (data_bytes (slice_index_or (texts_of texts) i [])) = ap (λ word. length (data_bytes word)) (sym (get_or-map now texts i d [] within)) in
    omega (arith, limit, front, here, ap length next, length-append bytes (data_bytes (slice_index_or texts i d).now))

-- ---- all texts

pub all_data : (said : List Piece) (kept : Pieces) (texts : List (List ℕ)) → Keeps said kept → AreTextsOf said texts → All IsData texts
all_data said kept texts keeps are k d within =
    let at = are.each k within in
    let (piece, among, place_is) = at.0 in
    (piece.bytes, keeps.are_bytes piece among, get_or_default texts k d [] within ∙ sym (at.1 piece among place_is))

pub whole : (said : List Piece) (kept : Pieces) (texts : List (List ℕ)) → Keeps said kept → AreTextsOf said texts → AreWhole said (all_bytes texts)
whole said kept texts keeps are = record {
  parts = map data_bytes texts;
  as_many = length-map texts data_bytes ∙ are.as_many;
  each = λ place part is.
      let within : place < length texts = omega (arith, slice_get_within (map data_bytes texts) place part is, length-map texts data_bytes) in
      let at = are.each place within in
      let (piece, among, place_is) = at.0 in
      let text = slice_index_or texts place [] in
      let told = decoded_bytes text piece.bytes (keeps.are_bytes piece among) (sym (at.1 piece among place_is)) in
      (piece, among, place_is, told ∙ sym (get_or-map data_bytes texts place [] [] within) ∙ get_or_from_slice_get (map data_bytes texts) place part [] is);
  joined = sym (concat_is (map data_bytes texts) ∙ flat_map-map (λ (x : List ℕ). x) data_bytes texts);
}

-- ---- answers

pub both_ok : {T E : Type 0} (r : Result T E) (P Q R : T → Type 0) → ((x : T) → P x → Q x → R x) → IfOk r P → IfOk r Q → IfOk r R
both_ok (Ok x) P Q R f p q = f x p q
both_ok (Err e) P Q R f p q = tt

pub refused_at : (lines before rest after : List Line) (line : Line) (said : List Piece) (refusal : OrMemory CarryCode) → lines ≡ before ++ rest → rest ≡ line ∷ after → AllSay piece_lines [] before said
    → IsRefusedPieceLine said line.1 refusal → IsLineFault lines (carry_fault_at line.0 refusal)
refused_at lines before rest after line said (refusals.Fault code) split next all bad = next_bad piece_lines lines before line after rest said code split next all bad
refused_at lines before rest after line said refusals.Memory split next all bad = tt

no_lines : (lines : List Line) (said : List Piece) → AllSay piece_lines [] lines said → said ≡ [] → lines ≡ []
no_lines [] said all none = refl
no_lines (line ∷ lines) said all none = absurd (omega (arith, all_say-length piece_lines [] (line ∷ lines) said all, ap length none))

pub order_fault : (lines : List Line) (said : List Piece) (fault : CarryFault) → AllSay piece_lines [] lines said → IsOrderFault said fault → Collects lines (Err fault)
order_fault lines said (faults.At line code) all is = absurd is
order_fault lines said faults.NoLine all is = no_lines lines said all is
order_fault lines said (faults.Missing piece) all is = (said, (all, is.0), is.1)
order_fault lines said faults.TooManyBytes all is = absurd is
order_fault lines said faults.Memory all is = tt

pub join_fault : (lines : List Line) (said : List Piece) (texts : List (List ℕ)) (fault : CarryFault) → SaySome lines said → AreWhole said (all_bytes texts) → IsJoinFault texts fault → Collects lines (Err fault)
join_fault lines said texts (faults.At line code) some all is = absurd is
join_fault lines said texts faults.NoLine some all is = absurd is
join_fault lines said texts (faults.Missing piece) some all is = absurd is
join_fault lines said texts faults.TooManyBytes some all is = (said, all_bytes texts, some, all, is)
join_fault lines said texts faults.Memory some all is = tt

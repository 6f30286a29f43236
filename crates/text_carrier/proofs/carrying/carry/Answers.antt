use Rattle.std.proofs.Common.{◌≡◌, ◌*◌, ◌++◌, ◌∷◌, [], ℕ, List, max, string_bytes, ◌∙◌, ap}
use Rattle.text_carrier.specs.Carrying.{piece_count}
use Rattle.text_carrier.specs.Pieces.{line_in_piece_form, data_text}
use Rattle.text_carrier.proofs.Cutting.{piece_slice, lines_more, part_at}
use Rattle.text_carrier.proofs.carrying.carry.Goals as goal

pub loop-place-preserved : goal.loop-place-preserved
loop-place-preserved c =
    let bytes = c.args.bytes.now in
    let width = c.args.width in
    let place = c.loop-place.place in
    let before = string_bytes c.loop-place.text in
    let count : c.max-count.result ≡ piece_count width bytes = c.max-count.ensures ∙ ap (λ n. max n 1) c.div_ceil.ensures in
    let part = piece_slice bytes (place * width) width c.min-end.result c.min-end.ensures in
    lines_more width bytes before (string_bytes c.put_line.new.into) place c.loop-place.invariant
    (c.in_ok-put_line.ensures
    ∙ ap (λ (piece : List ℕ). before ++ (line_in_piece_form place c.max-count.result (data_text piece) ++ 10 ∷ [])) part
    ∙ ap (λ n. before ++ (line_in_piece_form place n (data_text (part_at width bytes place)) ++ 10 ∷ [])) count)

use Rattle.std.proofs.Common.{◌≡◌, ◌++◌, List, ℕ, ap, ◌∙◌, string_bytes, arith}
use Rattle.std.proofs.lemmas.Result.{on_ok_weaker}
use Rattle.load_maker.specs.Loads.{in_order, lane_of, end_of, statements_text}
use Rattle.load_maker.proofs.TextParts.{no_part, part_more, then_text}
use Rattle.load_maker.proofs.loads.put_round.Goals as goal

pub loop-lane-init : goal.loop-lane-init
loop-lane-init c = no_part (string_bytes c.args.text.now) (lane_of c.args.round)

pub loop-lane-preserved : goal.loop-lane-preserved
loop-lane-preserved c =
    c.in_ok-put_lane.ensures
    ∙ ap (λ (text : List ℕ). text ++ statements_text (lane_of c.args.round c.loop-lane.lane)) c.loop-lane.invariant
    ∙ part_more (string_bytes c.args.text.now) (lane_of c.args.round) c.loop-lane.lane

pub returns : goal.returns
returns c =
    let round = c.args.round in
    let before = string_bytes c.args.text.now in
    let all : c.loop-lane.lane ≡ 8 = omega arith in
    let lanes : string_bytes c.loop-lane.text ≡ before ++ statements_text (in_order (lane_of round) 8) =
    c.loop-lane.invariant ∙ ap (λ (n : ℕ). before ++ statements_text (in_order (lane_of round) n)) all in
    on_ok_weaker c.put_end.result
    (λ added. added ∙ ap (λ (text : List ℕ). text ++ statements_text (end_of round)) lanes ∙ then_text before (in_order (lane_of round) 8) (end_of round))
    c.put_end.ensures

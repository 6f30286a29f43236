use Rattle.std.proofs.Common.{◌≡◌, ◌++◌, string_bytes}
use Rattle.load_maker.specs.Loads.{in_order, lane_of, statements_text}
use Rattle.load_maker.proofs.loads.put_round.Given as goal

abbrev pub invariant-loop-lane : goal.invariant-loop-lane
invariant-loop-lane l = string_bytes l.text ≡ string_bytes l.initial.text ++ statements_text (in_order (lane_of l.round) l.lane)

use Rattle.std.proofs.Common.{◌≡◌, ◌++◌, string_bytes}
use Rattle.load_maker.specs.Loads.{in_order, round_of, opening, statements_text}
use Rattle.load_maker.proofs.loads.make_text.Given as goal

abbrev pub invariant-loop-round : goal.invariant-loop-round
invariant-loop-round l = string_bytes l.text ≡ statements_text opening ++ statements_text (in_order round_of l.round)

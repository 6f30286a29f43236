use Rattle.std.proofs.Common.{◌≡◌, ◌++◌, drop, map, string_bytes}
use Rattle.std.specs.Vec.Iter.{into_iter_items}
use Rattle.baggage.proofs.adapters.words_behind_first.Given as goal

abbrev pub invariant-loop-text : goal.invariant-loop-text
invariant-loop-text l =
    l.words ++ map string_bytes (into_iter_items l.text-iterator) ≡ drop 1 (map string_bytes (into_iter_items l.fn.texts))

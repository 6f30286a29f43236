use Rattle.std.proofs.Common.{◌≡◌, ◌++◌, map}
use Rattle.def_evolve.specs.BreakLists.{break_of, break_behind}
use Rattle.def_evolve.proofs.all_breaks.put_inner.Given as goal

abbrev pub invariant-loop-one : goal.invariant-loop-one
invariant-loop-one l = map break_of l.found.items
    ≡ map break_of l.fn.found.items ++ map (break_behind l.part l.name l.other) (map break_of l.yielded)

use Rattle.std.proofs.Common.{◌≡◌, ◌++◌, codes, drop, string_bytes}
use Rattle.def_evolve.specs.BreakLists.{spaced}
use Rattle.def_evolve.proofs.sides.put_struct.Given as goal

abbrev pub invariant-loop-word : goal.invariant-loop-word
invariant-loop-word l = string_bytes l.text ++ spaced (drop l.word-index l.words) ≡ string_bytes l.fn.text ++ (codes "struct" ++ spaced l.words)

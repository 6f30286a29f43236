use Rattle.std.proofs.Common.{◌≡◌, map, take}
use Rattle.bdl_check.specs.Layouts.{words_of_decl}
use Rattle.bdl_check.proofs.struct_kinds.StructKinds.of.Given as goal

abbrev pub invariant-loop-declaration : goal.invariant-loop-declaration
invariant-loop-declaration l =
    l.kinds.items ≡ map (λ d. words_of_decl d.decl.now) (take l.declaration-index l.declaration-items)

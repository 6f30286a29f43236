use Rattle.bdl_check.specs.Declarations.{Placed}
use Rattle.bdl_check.specs.Layouts.{words_of_decl}
use Rattle.bdl_check.proofs.Links.{rows_are}
use Rattle.bdl_check.proofs.struct_kinds.StructKinds.of.Goals as goal

pub invariant_of-result : goal.invariant_of-result
invariant_of-result c =
    rows_are (λ (d : Placed). words_of_decl d.decl) c.args.declarations.now c.loop-declaration.kinds.items
    c.as_slice-declaration-items.result.now c.loop-declaration.declaration-index c.loop-declaration.invariant c.loop-declaration-test.false
    c.as_slice-declaration-items.ensures

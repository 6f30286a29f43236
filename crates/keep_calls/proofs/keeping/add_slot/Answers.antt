use Rattle.std.proofs.Common.{[], ◌∷◌, ◌++◌, List, sym, ap, ◌∙◌, subst}
use Rattle.context_model.specs.Atoms.{Atom}
use Rattle.keep_calls.specs.Walk.{HoldUpTo}
use Rattle.keep_calls.proofs.SlotSteps.{none_gap, some_behind, some_gap, some_order, some_within, part_formed, part_held}
use Rattle.keep_calls.proofs.keeping.add_slot.Goals as goal

pub add_gap-requires-clause-gap : goal.add_gap-requires-clause-gap
add_gap-requires-clause-gap c =
    none_gap c.args.table.now c.nodes.ensures.table c.args.list.now c.requires.well_formed c.args.slot c.requires.slot c.args.from c.requires.starts c.args.span.now.from c.args.span.now.stop c.requires.span
    c.in-None.is

pub overflow_sub-behind : goal.overflow_sub-behind
overflow_sub-behind c =
    some_behind c.args.table.now c.nodes.ensures.table c.args.list.now c.requires.well_formed c.args.slot c.requires.slot c.args.from c.requires.starts c.args.span.now.from c.args.span.now.stop c.requires.span
    c.in-Some.behind c.in-Some.is

pub add_gap-requires-in-Some-clause-gap : goal.add_gap-requires-in-Some-clause-gap
add_gap-requires-in-Some-clause-gap c =
    some_gap c.args.table.now c.nodes.ensures.table c.args.list.now c.requires.well_formed c.args.slot c.requires.slot c.args.from c.requires.starts c.args.span.now.from c.args.span.now.stop c.requires.span
    c.in-Some.behind c.in-Some.is

pub part-requires-clause-order : goal.part-requires-clause-order
part-requires-clause-order c =
    some_order c.args.table.now c.nodes.ensures.table c.args.list.now c.requires.well_formed c.args.slot c.requires.slot c.args.from c.requires.starts c.args.span.now.from c.args.span.now.stop c.requires.span
    c.in-Some.behind c.in-Some.is

pub part-requires-clause-within : goal.part-requires-clause-within
part-requires-clause-within c =
    some_within c.args.table.now c.nodes.ensures.table c.args.list.now c.requires.well_formed c.args.slot c.requires.slot c.args.from c.requires.starts c.args.span.now.from c.args.span.now.stop c.requires.span
    c.in-Some.behind c.in-Some.is

pub of-requires : goal.of-requires
of-requires c =
    part_formed c.args.table.now c.nodes.ensures.table c.args.list.now c.requires.well_formed c.args.slot c.requires.slot c.args.from c.requires.starts c.args.span.now.from c.args.span.now.stop c.requires.span
    c.in-Some.behind c.in-Some.is c.in_ok-part-in-Some.part c.in_ok-part-in-Some.ensures

pub returns-in_ok-push-in-Some : goal.returns-in_ok-push-in-Some
returns-in_ok-push-in-Some c =
    let held = part_held c.args.table.now c.nodes.ensures.table c.args.list.now c.requires.well_formed c.args.slot c.requires.slot c.args.from c.requires.starts c.args.span.now.from c.args.span.now.stop c.requires.span
    c.in-Some.behind c.in-Some.is c.args.others c.add_gap-in-Some.new.pieces.items c.in_ok-part-in-Some.part c.in_ok-part-in-Some.ensures c.in_ok-add_gap-in-Some.ensures in
    subst (λ (pieces : List (List Atom)). HoldUpTo c.args.table.now c.args.others c.args.list.now c.args.span.now.stop pieces)
    (sym (c.in_ok-push-in-Some.ensures.items ∙ ap (λ (v : List Atom). c.add_gap-in-Some.new.pieces.items ++ v ∷ []) c.of.ensures)) held

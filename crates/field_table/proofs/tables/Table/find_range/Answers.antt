use Rattle.std.proofs.Common.{◌+◌, Some, ◌∙◌, ap, subst, arith}
use Rattle.bag_model.specs.Slots.{FindsField}
use Rattle.bag_model.proofs.PathLaws.{reached_bound}
use Rattle.field_table.specs.Plain.{nodes_of, shape_of}
use Rattle.field_table.proofs.Found.{ready, fits_sum, counted}
use Rattle.field_table.proofs.tables.Table.find_range.Goals as goal

pub find-requires : goal.find-requires
find-requires c = record { ready = ready c.self.inside.nodes c.self.invariant.0 c.self.invariant.1 c.self.invariant.2 }

pub overflow_add-result : goal.overflow_add-result
overflow_add-result c =
    let s = c.self.inside.nodes in
    let shape = shape_of c.in_ok-before.shape.now in
    let found = c.in_ok-before.ensures.found in
    let bound = reached_bound (nodes_of s) found.0 found.1 c.in_ok-before.before shape found.3 in
    let small = ready s c.self.invariant.0 c.self.invariant.1 c.self.invariant.2 in
    let count = counted (nodes_of s) c.args.dotted.now c.in_ok-before.before shape small.small found in
    fits_sum c.in_ok-before.before c.slot_count.result (omega (arith, c.slot_count.ensures c.in_ok-before.ensures.kept, count, bound, small.small))

pub returns : goal.returns
returns c =
    let s = c.self.inside.nodes in
    let shape = shape_of c.in_ok-before.shape.now in
    let found = c.in_ok-before.ensures.found in
    let small = ready s c.self.invariant.0 c.self.invariant.1 c.self.invariant.2 in
    let count = c.slot_count.ensures c.in_ok-before.ensures.kept ∙ counted (nodes_of s) c.args.dotted.now c.in_ok-before.before shape small.small found in
    (Some (c.in_ok-before.before, shape), subst (λ nodes. FindsField nodes c.args.dotted.now (Some (c.in_ok-before.before, shape))) c.self.view_is found, ap (λ n. Some (c.in_ok-before.before, c.in_ok-before.before + n)) count)

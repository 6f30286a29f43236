use Rattle.std.proofs.Common.{◌++◌, slice_range, sym, ◌∙◌, ap, append_assoc, arith}
use Rattle.atom_list.proofs.Rows.{room_of-parts, run_parts}
use Rattle.atom_list.proofs.builder.Builder.push_run.Goals as goal

pub push_next-at-requires-clause-byte_room : goal.push_next-at-requires-clause-byte_room
push_next-at-requires-clause-byte_room c =
    let room = room_of-parts c.args.list.now c.args.from c.loop-at.at c.args.to c.loop-at.invariant.order c.loop-at.invariant.within in
    omega arith

pub loop-at-preserved : goal.loop-at-preserved
loop-at-preserved c =
    let list = c.args.list.now in
    let from = c.args.from in
    let at = c.loop-at.at in
    let next = c.push_next-at.result in
    let parts = run_parts list from at next c.loop-at.invariant.order (omega arith) in
    let room = room_of-parts list from at next c.loop-at.invariant.order (omega arith) in
    record {
      order = omega arith;
      within = c.push_next-at.ensures.within;
      atoms = c.push_next-at.ensures.atoms ∙ ap (λ v. v ++ slice_range list at next) c.loop-at.invariant.atoms
          ∙ append_assoc c.args.self.now.atoms (slice_range list from at) (slice_range list at next) ∙ ap (λ v. c.args.self.now.atoms ++ v) (sym parts);
      byte_room = omega arith;
      atom_room = omega arith;
    }

use Rattle.std.proofs.Common.{◌≡◌, ◌+◌, ◌≤◌, ℕ, List, take, drop, slice_range, ap, sym, ◌∙◌, arith}
use Rattle.std.proofs.lemmas.List.{take-append-drop}
use Rattle.context_model.specs.Atoms.{Atom}
use Rattle.atom_list.specs.Builder.{byte_room_for}
use Rattle.atom_list.proofs.Flat.{take_split}
use Rattle.atom_list.proofs.Rooms.{room_of-append, room_light}
use Rattle.atom_list.proofs.lists.AtomList.room.Goals as goal

-- The first atoms take no more room than all.
front_fits : (list : List Atom) (n : ℕ) → byte_room_for (take n list) ≤ byte_room_for list
front_fits list n =
    let parts : byte_room_for (take n list) + byte_room_for (drop n list) ≡ byte_room_for list =
    sym (room_of-append (take n list) (drop n list)) ∙ ap byte_room_for (take-append-drop n list) in
    omega arith

-- The room of the atoms up to the next place.
up_to : (list : List Atom) (at count : ℕ) → byte_room_for (take (at + count) list) ≡ byte_room_for (take at list) + byte_room_for (slice_range list at (at + count))
up_to list at count = ap byte_room_for (take_split at (at + count) list (omega arith)) ∙ room_of-append (take at list) (slice_range list at (at + count))

pub overflow_add-room : goal.overflow_add-room
overflow_add-room c =
    let list = c.args.self.now in
    let count = c.next_room-count.result.0 in
    omega (arith, c.next_room-count.ensures.bound, up_to list c.loop-at.at count, front_fits list (c.loop-at.at + count), (room_light list c.len.ensures.atoms c.len.ensures.light).1)

pub loop-at-preserved : goal.loop-at-preserved
loop-at-preserved c =
    let parts = up_to c.args.self.now c.loop-at.at c.next_room-count.result.0 in
    record {
      within = c.next_room-count.ensures.few;
      enough = omega (arith, c.next_room-count.ensures.enough);
      bound = omega (arith, c.next_room-count.ensures.bound);
    }

pub returns-clause-light : goal.returns-clause-light
returns-clause-light c =
    let list = c.args.self.now in
    omega (arith, front_fits list c.loop-at.at, (room_light list c.len.ensures.atoms c.len.ensures.light).1)

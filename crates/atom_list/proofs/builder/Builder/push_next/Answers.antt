use Rattle.std.proofs.Common.{◌≡◌, ◌+◌, ◌++◌, slice_get, length, option_copied, Some, sym, ◌∙◌, ap, arith}
use Rattle.atom_list.proofs.Rooms.{room_of-longer}
use Rattle.atom_list.proofs.Rows.{room_of-one, room_of-piece, run_of_one}
use Rattle.atom_list.proofs.builder.Builder.push_next.Goals as goal

-- The atom that was looked up is the one of the place.
there : (c : goal.After-unwrap) → slice_get c.args.list.now c.args.at ≡ Some c.unwrap.result.now
there c = sym c.get.ensures.value ∙ ap option_copied c.unwrap.ensures

pub push-requires-clause-byte_room : goal.push-requires-clause-byte_room
push-requires-clause-byte_room c =
    let one = room_of-one c.args.list.now c.args.at c.unwrap.result.now (there c) in
    let less = room_of-longer c.args.list.now c.args.at (c.args.at + 1) c.args.to (omega arith) in
    omega arith

pub returns-then-count-eq0-clause-atoms : goal.returns-then-count-eq0-clause-atoms
returns-then-count-eq0-clause-atoms c =
    let one = run_of_one c.args.list.now c.args.at c.unwrap.result.now (sym c.get.ensures.value ∙ ap option_copied c.unwrap.ensures) in
    c.push.ensures.atoms ∙ ap (λ v. c.args.self.now.atoms ++ v) (sym one)

pub returns-then-count-eq0-clause-byte_room : goal.returns-then-count-eq0-clause-byte_room
returns-then-count-eq0-clause-byte_room c =
    let one = room_of-one c.args.list.now c.args.at c.unwrap.result.now (sym c.get.ensures.value ∙ ap option_copied c.unwrap.ensures) in
    omega arith

pub push_piece-requires-clause-byte_room : goal.push_piece-requires-clause-byte_room
push_piece-requires-clause-byte_room c =
    let room = room_of-piece _ _ _ _ c.piece-piece.ensures.piece in
    let less = room_of-longer c.args.list.now c.args.at (c.args.at + length c.piece-piece.result.starts.now) c.args.to c.piece-piece.ensures.short in
    omega (arith, room.0)

pub returns-clause-byte_room : goal.returns-clause-byte_room
returns-clause-byte_room c =
    let room = room_of-piece _ _ _ _ c.piece-piece.ensures.piece in
    omega (arith, room.0)

use Rattle.std.proofs.Common.{◌≡◌, slice_get, option_copied, Some, sym, ◌∙◌, ap, arith}
use Rattle.atom_list.proofs.Rows.{room_of-one, room_of-piece}
use Rattle.atom_list.proofs.lists.AtomList.next_room.Goals as goal

-- The atom that was looked up is the one of the place.
there : (c : goal.After-unwrap) → slice_get c.args.self.now c.args.at ≡ Some c.unwrap.result.now
there c = sym c.get.ensures.value ∙ ap option_copied c.unwrap.ensures

pub returns-then-count-eq0-clause-enough : goal.returns-then-count-eq0-clause-enough
returns-then-count-eq0-clause-enough c = let one = room_of-one c.args.self.now c.args.at c.unwrap.result.now (there c) in omega arith

pub returns-then-count-eq0-clause-bound : goal.returns-then-count-eq0-clause-bound
returns-then-count-eq0-clause-bound c = let one = room_of-one c.args.self.now c.args.at c.unwrap.result.now (there c) in omega arith

pub returns-clause-enough : goal.returns-clause-enough
returns-clause-enough c =
    let room = room_of-piece _ _ _ _ c.piece-piece.ensures.piece in
    omega (arith, room.1)

pub returns-clause-bound : goal.returns-clause-bound
returns-clause-bound c =
    let room = room_of-piece _ _ _ _ c.piece-piece.ensures.piece in
    omega (arith, room.0)

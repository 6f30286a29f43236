use Rattle.std.proofs.Common.{◌≡◌, ◌+◌, ◌++◌, List, length, length-append, sym, ◌∙◌, ap, subst, arith}
use Rattle.context_model.specs.Atoms.{Atom}
use Rattle.atom_list.specs.Starts.{atoms_at, AreMovable, IsPieceOf}
use Rattle.atom_list.proofs.Building.{AreOf, of_built, of_piece, list_is, built_of, movable-from}
use Rattle.atom_list.proofs.builder.Builder.push_piece.Goals as goal

pub overflow_cast-to : goal.overflow_cast-to
overflow_cast-to c = omega (arith, c.self.inside.bytes.ok.0)

pub put_moved-requires-clause-movable : goal.put_moved-requires-clause-movable
put_moved-requires-clause-movable c =
    let is = ap (λ v. v.byte_room) c.self.view_is in
    let piece = c.requires.piece.1 in
    let long = ap length piece.framed in
    subst (AreMovable c.args.at c.len-to.result) (sym piece.there) (movable-from c.args.at c.len-to.result c.args.at c.requires.piece.0 (omega arith) (omega (arith, c.self.inside.bytes.ok.0)))

-- The list with the piece.
pushed : (c : goal.After-put_moved) (list : List Atom) → IsPieceOf c.args.piece.now c.args.at c.args.starts.now list → AreOf c.put_bytes.new.bytes.items c.put_moved.new.starts.items (atoms_at c.self.inside.bytes.items c.self.inside.starts.items ++ list)
pushed c list of =
    let is = ap (λ v. v.byte_room) c.self.view_is in
    let long : length c.put_bytes.new.bytes.items ≡ length c.self.inside.bytes.items + length c.args.piece.now = ap length c.put_bytes.ensures.items ∙ length-append c.self.inside.bytes.items c.args.piece.now in
    of_piece c.self.inside.bytes.items c.put_bytes.new.bytes.items c.args.piece.now c.self.inside.starts.items c.put_moved.new.starts.items c.args.starts.now _ list c.args.at c.len-to.result
    (of_built _ _ c.self.invariant) of (omega arith) c.put_bytes.ensures.items (c.len-to.ensures ∙ c.self.inside.bytes.ok.0) c.put_moved.ensures.items

pub invariant_of-self : goal.invariant_of-self
invariant_of-self c = built_of _ _ _ (pushed c c.requires.piece.0 c.requires.piece.1)

pub returns-clause-atoms : goal.returns-clause-atoms
returns-clause-atoms c = λ list of. list_is _ _ _ (pushed c list of) ∙ ap (λ v. v.atoms ++ list) c.self.view_is

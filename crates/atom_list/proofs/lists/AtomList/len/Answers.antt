use Rattle.std.proofs.Common.{length, ap, subst, arith}
use Rattle.std.proofs.lemmas.List.{length-map}
use Rattle.context_model.specs.Atoms.{AreAtoms}
use Rattle.context_model.specs.declared.Form.TheVariants.{One}
use Rattle.context_model.specs.Framing.{frames}
use Rattle.context_model.proofs.FramingLaws.{frames_lens}
use Rattle.atom_list.specs.Starts.{atom_framed_at}
use Rattle.atom_list.proofs.Flat.{AreAtoms-starts}
use Rattle.atom_list.proofs.Rooms.{room_light}
use Rattle.atom_list.proofs.lists.AtomList.len.Goals as goal

pub returns-clause-atoms : goal.returns-clause-atoms
returns-clause-atoms c = subst AreAtoms c.self.view_is (AreAtoms-starts c.self.inside.bytes c.self.inside.starts.items c.self.invariant.fit)

pub returns-clause-light : goal.returns-clause-light
returns-clause-light c =
    let same = frames_lens c.args.self.now (returns-clause-atoms c) in
    let seen = ap (λ list. length (frames One list)) c.self.view_is in
    omega (arith, c.self.invariant.light)

pub returns-clause-few : goal.returns-clause-few
returns-clause-few c =
    let many = ap length c.self.view_is in
    let each = length-map c.self.inside.starts.items (atom_framed_at c.self.inside.bytes) in
    omega (arith, (room_light c.args.self.now (returns-clause-atoms c) (returns-clause-light c)).0)
